use Rattle.std.proofs.Common.{◌≡◌, sym, ap, ◌∙◌}
use Rattle.pool_model.specs.Seen.{PoolId, PoolSeen, EndSeen}
use Rattle.task_queue.specs.Marks.{MarkSeen}
use Rattle.prio_pool.proofs.pool.Pool.help.Goals as goal

pub turn-turned-requires-clause-queues : goal.turn-turned-requires-clause-queues
turn-turned-requires-clause-queues g c κs lives =
    let own : c.pass.inside.takers.pool ≡ c.args.self.now.id = ap (λ (e : EndSeen). e.pool) c.pass.view_is ∙ c.requires in
    ap (λ (p : PoolId). p.queues) (own ∙ sym (ap (λ (s : PoolSeen). s.id) c.self.view_is))

pub turn-turned-requires-clause-mark : goal.turn-turned-requires-clause-mark
turn-turned-requires-clause-mark g c κs lives =
    let own : c.pass.inside.takers.pool ≡ c.args.self.now.id = ap (λ (e : EndSeen). e.pool) c.pass.view_is ∙ c.requires in
    ap (λ (p : PoolId). p.mark) (own ∙ sym (ap (λ (s : PoolSeen). s.id) c.self.view_is)) ∙ sym (ap (λ (m : MarkSeen). m.mark) c.mark.ensures)

pub turn-turned-requires-clause-few : goal.turn-turned-requires-clause-few
turn-turned-requires-clause-few g c κs lives = c.self.invariant.1

pub turn-turned-requires-clause-records : goal.turn-turned-requires-clause-records
turn-turned-requires-clause-records g c κs lives = c.pass.invariant
