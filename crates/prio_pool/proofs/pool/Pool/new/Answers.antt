use Rattle.std.proofs.Common.{sym, ap, ◌∙◌}
use Rattle.keep_alive.specs.Seen.{TokenSeen}
use Rattle.prio_pool.proofs.pool.Pool.new.Goals as goal

pub new-requires : goal.new-requires
new-requires g c = record {
  some_queues = c.requires.priorities.0;
  few_queues = c.requires.priorities.1;
  some_adders = c.requires.adders.0;
  few_adders = c.requires.adders.1;
  some_workers = c.requires.workers.0;
  few_workers = c.requires.workers.1;
  few_helpers = c.requires.helpers;
}

pub with_keep-requires : goal.with_keep-requires
with_keep-requires g c = c.requires.workers.1

pub assemble-requires-clause-size : goal.assemble-requires-clause-size
assemble-requires-clause-size g c = record {
  some_queues = c.requires.priorities.0;
  few_queues = c.requires.priorities.1;
  some_adders = c.requires.adders.0;
  few_adders = c.requires.adders.1;
  some_workers = c.requires.workers.0;
  few_workers = c.requires.workers.1;
  few_helpers = c.requires.helpers;
}

pub assemble-requires-clause-queues : goal.assemble-requires-clause-queues
assemble-requires-clause-queues g c = c.in_ok-inner.ensures.queues

pub assemble-requires-clause-all : goal.assemble-requires-clause-all
assemble-requires-clause-all g c = c.in_ok-inner.ensures.all

pub assemble-requires-clause-keeping : goal.assemble-requires-clause-keeping
assemble-requires-clause-keeping g c =
    let k = c.in_ok-rooms.ensures.keeping in
    (sym (ap (λ (t : TokenSeen). t.count) k), ap (λ (t : TokenSeen). t.first_room) k ∙ sym (ap (λ (t : TokenSeen). t.room) k))

pub assemble-requires-clause-parkers : goal.assemble-requires-clause-parkers
assemble-requires-clause-parkers g c = c.in_ok-rooms.ensures.parkers

pub assemble-requires-clause-wakers : goal.assemble-requires-clause-wakers
assemble-requires-clause-wakers g c = c.in_ok-rooms.ensures.wakers

pub assemble-requires-clause-empty : goal.assemble-requires-clause-empty
assemble-requires-clause-empty g c = let e = c.in_ok-rooms.ensures in (e.adders.0, e.workers.0, e.helpers.0)

pub assemble-requires-clause-room : goal.assemble-requires-clause-room
assemble-requires-clause-room g c = let e = c.in_ok-rooms.ensures in (e.adders.1, e.workers.1, e.helpers.1)
