use Rattle.std.proofs.Common.{◌≡◌, ◌+◌, ◌≤◌, suc, length}
use Rattle.std.specs.Prelude.{vec_capacity}
use Rattle.std.specs.Vec.Iter.{into_iter_items, into_iter_len}
use Rattle.pool_model.specs.Seen.{PoolId}
use Rattle.prio_pool.specs.Made.{new_workers}
use Rattle.run_setup.specs.Ids.{RunIds}
use Rattle.run_setup.specs.Opening.{IsDealing}
use Rattle.run_setup.specs.Slots.{IsWorker}
use Rattle.run_setup.proofs.Each.{EachFrom}
use Rattle.run_setup.proofs.DealLemmas.{IsPassAt}
use Rattle.run_setup.proofs.dealing.Dealing.all_workers.Given as goal

abbrev pub invariant-loop-pass : goal.invariant-loop-pass
invariant-loop-pass g l = record {
  room : length l.workers.items + length (into_iter_items l.left) ≤ vec_capacity l.workers;
  many : length l.workers.items + length (into_iter_items l.left) ≡ length l.fn.passes.items;
  passes : (pool : PoolId) → l.fn.passes.items ≡ new_workers pool 0 (length l.fn.passes.items) → EachFrom (IsPassAt pool) (length l.workers.items) (into_iter_items l.left);
  rest : (ids : RunIds) → length l.fn.passes.items ≡ ids.workers → IsDealing g.N.RunName.asked ids (suc ids.workers) l.initial.self
      → IsDealing g.N.RunName.asked ids (suc (length (into_iter_items l.left))) l.self;
  workers : (pool : PoolId) (ids : RunIds) → length l.fn.passes.items ≡ ids.workers → l.fn.passes.items ≡ new_workers pool 0 (length l.fn.passes.items)
      → IsDealing g.N.RunName.asked ids (suc ids.workers) l.initial.self → EachFrom (IsWorker ids pool) 0 l.workers.items;
}

abbrev pub decreases-loop-pass : goal.decreases-loop-pass
decreases-loop-pass g l = into_iter_len l.left
