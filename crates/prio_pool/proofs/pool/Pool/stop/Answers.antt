use Rattle.std.proofs.Common.{ap, ◌∙◌}
use Rattle.pool_model.specs.Seen.{EndingSeen, RunsSeen}
use Rattle.prio_pool.proofs.Finishing.{stopped_all, was_stopped}
use Rattle.task_queue.specs.Marks.{WatchSeen}
use Rattle.prio_pool.proofs.pool.Pool.stop.Goals as goal

pub returns-clause-all : goal.returns-clause-all
returns-clause-all g c =
    let e = c.finish-accepted.ensures in
    stopped_all g.J.Headed.head _ _ _ _ c.args.ends.items c.args.helped.items _ _ _ e.came (ap (λ (s : EndingSeen). s.passes) c.stopping.view_is) (ap (λ (r : RunsSeen). r.records) c.new.ensures ∙ e.records)

pub returns-clause-ended : goal.returns-clause-ended
returns-clause-ended g c =
    let e = c.finish-accepted.ensures in
    was_stopped g.J.Headed.head _ _ _ _ c.args.ends.items c.args.helped.items _ _ _ e.came (ap (λ (w : WatchSeen). w.found) c.watch.ensures ∙ c.stopping.invariant.found) (ap (λ (s : EndingSeen). s.passes) c.stopping.view_is) (ap (λ (r : RunsSeen). r.records) c.new.ensures ∙ e.records)
