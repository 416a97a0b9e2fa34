-- A front beside the workers of its pool, and behind them.
use Rattle.std.specs.Prelude.{◌≡◌, List, Option, Some}
use Rattle.pool_model.specs.Seen.{PoolSeen}
use Rattle.run_stages.specs.Stages.{AllRan, AllReady}
use Rattle.run_threads.specs.declared.running.PoolSide.{PoolSide}
use Rattle.run_threads.specs.declared.worker.WorkerSlot.{WorkerSlot}
use Rattle.run_threads.specs.Slots.{IsReadyToWork}

module _ {F P S : Type 0} where
  -- It may begin with this pool; and whatever it becomes then, and whatever becomes of the workers, it can end the pool behind them.
  pub record MayRunAll (ready : F → P → Type 0) (begun : F → P → F → Type 0) (can_end : F → P → List S → Type 0) (works : S → S → Type 0) (front : F) (pool : P) (workers : List S) : Type 0 where
    pub begins : ready front pool
    pub ends : (mid : F) (left : List S) → begun front pool mid → AllRan works workers left → can_end mid pool left

  -- it has begun, all workers have worked, and it has ended the pool behind them
  pub record HasRunAll (begun : F → P → F → Type 0) (ended : F → P → List S → F → Type 0) (works : S → S → Type 0) (old : F) (pool : P) (workers : List S) (new : F) : Type 0 where
    pub mid : F
    pub left : List S
    pub has_begun : begun old pool mid
    pub worked : AllRan works workers left
    pub has_ended : ended mid pool left new

module _ {F J W : Type 0} where
  -- the same of a pool and its workers that are held, and the workers are ready
  pub record MayRunSide (ready : F → PoolSeen → Type 0) (begun : F → PoolSeen → F → Type 0) (can_end : F → PoolSeen → List (WorkerSlot J W) → Type 0) (works : WorkerSlot J W → WorkerSlot J W → Type 0) (front : F) (held : Option (PoolSide J W)) : Type 0 where
    pub side : PoolSide J W
    pub holds : held ≡ Some side
    pub workers : AllReady (IsReadyToWork side.pool.id) side.workers.items
    pub may : MayRunAll ready begun can_end works front side.pool side.workers.items

  pub record HasRunSide (begun : F → PoolSeen → F → Type 0) (ended : F → PoolSeen → List (WorkerSlot J W) → F → Type 0) (works : WorkerSlot J W → WorkerSlot J W → Type 0) (old : F) (held : Option (PoolSide J W)) (new : F) : Type 0 where
    pub side : PoolSide J W
    pub held_it : held ≡ Some side
    pub ran : HasRunAll begun ended works old side.pool side.workers.items new
