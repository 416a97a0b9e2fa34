use Rattle.std.proofs.Common.{◌≡◌, ℕ, ◌<◌, ◌≤◌, ◌++◌, Bool, true, false, List, refl, sym, subst, map, All, arith}
use Rattle.std.proofs.lemmas.List.{map-append}
use Rattle.std.proofs.lemmas.Bool.{true_from_ne_false}
use Rattle.fan_model.specs.Report.{IsEachOnce}
use Rattle.fan_model.specs.Tasks.{Run}
use Rattle.pool_model.specs.Seen.{task_of}
use Rattle.pool_model.proofs.Accounts.{runs-append}
use Rattle.run_notes.specs.Accounts.{runs_added}
use Rattle.run_notes.specs.Told.{run_of}
use Rattle.run_notes.proofs.Accounting.{WasDone, done_append, done_of_ends, each_once, records_of_append}
use Rattle.run_notes.proofs.Leading.{known, known_some}
use Rattle.run_notes.proofs.ending.end_stopped.Goals as goal

pub returns-clause-fact : goal.returns-clause-fact
returns-clause-fact g c = λ f.
    let back = c.run_back-records.ensures.all in
    known_some g.J.Job.runs g.F.WorldFact.holds c.requires.known c.args.world.now c.run_back-records.new.world (back.list, back.leads) f

pub returns-clause-account : goal.returns-clause-account
returns-clause-account g c =
    let s = c.stop-accepted.ensures in
    let e = s.ended in
    let a = s.all in
    let back = c.run_back-records.result.0 in
    λ f done all.
    let b = c.run_back-records.ensures.back all in
    let last = (known g.J.Job.runs g.F.WorldFact.holds c.requires.known c.args.world.now c.run_back-records.new.world back b.led.through f).1 in
    let first = subst (All WasDone) (records_of_append c.args.ends.items c.args.helped.items) (done_of_ends (c.args.ends.items ++ c.args.helped.items) done) in
    let each = done_append c.stop-accepted.result.ran.records back (subst (All WasDone) (sym e.list) first) last in
    record {
      accepted = s.accepted;
      early = subst (λ (l : List Run). IsEachOnce (runs_added c.args.stopping.passes) l)
          (map-append run_of c.stop-accepted.result.ran.records back)
          (each_once c.args.stopping.passes (a.tasks ++ map (task_of g.J.Headed.head) c.stop-accepted.result.returned) (c.stop-accepted.result.ran.records ++ back) a.all
          (runs-append a.tasks _ c.stop-accepted.result.ran.records back a.runs b.ran) each);
    }

at_most : (missed : Bool) (some all : ℕ) → (missed ≡ true → some < all) → (missed ≡ false → some ≡ all) → some ≤ all
at_most true some all fewer whole = omega (arith, fewer refl)
at_most false some all fewer whole = omega (arith, whole refl)

pub returns-clause-few : goal.returns-clause-few
returns-clause-few g c =
    let s = c.stop-accepted.ensures in
    let many = (c.stop_accounts_for_each.ensures _ _ _ _ _ c.requires.stopping s.all).many in
    let back = c.run_back-records.ensures in
    let most = at_most c.run_back-records.result.1 _ _ back.missed back.whole in
    omega (arith, most, many, s.accepted)

pub returns-clause-missed : goal.returns-clause-missed
returns-clause-missed g c =
    let s = c.stop-accepted.ensures in
    let many = (c.stop_accounts_for_each.ensures _ _ _ _ _ c.requires.stopping s.all).many in
    let back = c.run_back-records.ensures in (
      λ missed. omega (arith, back.missed missed, many, s.accepted),
      λ few. true_from_ne_false c.run_back-records.result.1 (λ whole. omega (arith, back.whole whole, many, s.accepted, few)),
    )
