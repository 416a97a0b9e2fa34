use Rattle.std.proofs.Common.{◌++◌, List, ap, sym, ◌∙◌, subst, append-nil, map, All}
use Rattle.pool_model.specs.Records.{Record}
use Rattle.fan_model.specs.Report.{IsEachOnce}
use Rattle.fan_model.specs.Tasks.{Run}
use Rattle.run_notes.specs.Accounts.{runs_added}
use Rattle.run_notes.specs.Told.{run_of}
use Rattle.run_notes.proofs.Accounting.{WasDone, done_append, done_of_ends, each_once, records_of_append}
use Rattle.run_notes.proofs.Leading.{known}
use Rattle.run_notes.proofs.ending.end_joined.Goals as goal

pub returns-clause-fact : goal.returns-clause-fact
returns-clause-fact g c =
    let e = c.join-accepted.ensures.ended in
    λ f. (known g.J.Job.runs g.F.WorldFact.holds c.requires.known c.args.world.now c.join-accepted.new.world e.more e.led.through f).0

pub returns-clause-account : goal.returns-clause-account
returns-clause-account g c =
    let e = c.join-accepted.ensures.ended in
    let a = c.join-accepted.ensures.all in
    λ f done.
    let last = (known g.J.Job.runs g.F.WorldFact.holds c.requires.known c.args.world.now c.join-accepted.new.world e.more e.led.through f).1 in
    let first = subst (All WasDone) (records_of_append c.args.ends.items c.args.helped.items) (done_of_ends (c.args.ends.items ++ c.args.helped.items) done) in
    let each = subst (All WasDone) (sym e.list) (done_append _ e.more first last) in
    record {
      accepted = c.join-accepted.ensures.accepted;
      early = subst (λ (l : List Run). IsEachOnce (runs_added c.args.joining.passes) l)
          (sym (append-nil (map run_of c.join-accepted.result.ran.records)) ∙ ap (λ (l : List Record). map run_of c.join-accepted.result.ran.records ++ map run_of l) (sym c.new.ensures))
          (each_once c.args.joining.passes a.tasks c.join-accepted.result.ran.records a.all a.runs each);
    }
