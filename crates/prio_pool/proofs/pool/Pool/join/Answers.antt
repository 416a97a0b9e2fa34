use Rattle.std.proofs.Common.{ap, ◌∙◌}
use Rattle.pool_model.specs.Seen.{EndingSeen, RunsSeen}
use Rattle.prio_pool.proofs.Finishing.{joined_all, was_joined}
use Rattle.task_queue.specs.Marks.{WatchSeen}
use Rattle.prio_pool.proofs.pool.Pool.join.Goals as goal

pub returns-clause-all : goal.returns-clause-all
returns-clause-all g c =
    let e = c.finish-accepted.ensures in
    let d = c.drain-more.ensures.drained in
    joined_all g.J.Headed.head _ _ _ _ c.args.ends.items c.args.helped.items _ _ _ g.J.Job.runs _ _ _ _ e.came (ap (λ (s : EndingSeen). s.passes) c.joining.view_is) e.records d (ap (λ (r : RunsSeen). r.records) c.new.ensures ∙ c.append.ensures)

pub returns-clause-ended : goal.returns-clause-ended
returns-clause-ended g c =
    let e = c.finish-accepted.ensures in
    let d = c.drain-more.ensures.drained in
    was_joined g.J.Headed.head _ _ _ _ c.args.ends.items c.args.helped.items _ _ _ g.J.Job.runs _ _ _ _ e.came (ap (λ (w : WatchSeen). w.found) c.watch.ensures ∙ c.joining.invariant.found) (ap (λ (s : EndingSeen). s.passes) c.joining.view_is) e.records d (ap (λ (r : RunsSeen). r.records) c.new.ensures ∙ c.append.ensures)
