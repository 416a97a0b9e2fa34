use Rattle.std.proofs.Common.{◌≡◌, List, length, get_or, sym, ap, ◌∙◌, arith}
use Rattle.std.specs.declared.alloc.Global.{Global}
use Rattle.crossbeam_queue.specs.SegTies.{SegId}
use Rattle.pool_model.specs.Seen.{PoolId, PoolSeen}
use Rattle.prio_pool.proofs.pool.Pool.add.Goals as goal

pub queue_for-queue-requires : goal.queue_for-queue-requires
queue_for-queue-requires g c = (omega (arith, c.len.ensures, c.self.invariant.0), omega (arith, c.len.ensures, c.self.invariant.1))

pub index-requires : goal.index-requires
index-requires g c = omega (arith, c.queue_for-queue.ensures.within, c.len.ensures)

pub add_task-requires-clause-within : goal.add_task-requires-clause-within
add_task-requires-clause-within g c =
    let same : c.args.pass.now.pool.queues ≡ c.self.inside.queues.items = ap (λ (p : PoolId). p.queues) (c.requires.pass ∙ sym (ap (λ (s : PoolSeen). s.id) c.self.view_is)) in
    omega (arith, c.queue_for-queue.ensures.within, c.len.ensures, ap length same)

pub add_task-requires-clause-queue : goal.add_task-requires-clause-queue
add_task-requires-clause-queue g c =
    let at : SegId Global = c.index.result.now in
    let same : c.args.pass.now.pool.queues ≡ c.self.inside.queues.items = ap (λ (p : PoolId). p.queues) (c.requires.pass ∙ sym (ap (λ (s : PoolSeen). s.id) c.self.view_is)) in
    ap (λ (l : List (SegId Global)). get_or l c.queue_for-queue.result at) same ∙ sym c.index.ensures

pub add_task-requires-clause-ticket : goal.add_task-requires-clause-ticket
add_task-requires-clause-ticket g c = c.next_ticket-ticket.ensures

pub add_task-requires-clause-room : goal.add_task-requires-clause-room
add_task-requires-clause-room g c = c.requires.room

pub returns-in-Ok-add_task-clause-ticket : goal.returns-in-Ok-add_task-clause-ticket
returns-in-Ok-add_task-clause-ticket g c = c.next_ticket-ticket.ensures
