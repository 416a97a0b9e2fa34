-- The front of a run, beside the workers and behind them.
use Rattle.std.specs.Prelude.{◌≡◌, ℕ, List, Option, Some, None}
use Rattle.fan_model.specs.Report.{Asking}
use Rattle.pool_model.specs.Seen.{PoolSeen}
use Rattle.run_phases.specs.declared.first.FrontStart.{FrontStart}
use Rattle.run_phases.specs.declared.first.FrontMid.{FrontMid}
use Rattle.run_setup.specs.Ids.{RunIds}
use Rattle.run_stages.specs.Stages.{AllRan}
use Rattle.run_tasks.specs.Seen.{TaskSeen, WorldSeen}
use Rattle.run_tasks.specs.Worlds.{TaskRan}
use Rattle.run_threads.specs.declared.worker.WorkerSlot.{WorkerSlot}
use Rattle.run_threads.specs.Slots.{HasWorked}
use Rattle.fanout.specs.declared.front.FrontRun.{FrontRun}
use Rattle.fanout.specs.declared.front.SideRoom.{SideRoom}
use Rattle.fanout.specs.declared.front.SideEnd.{SideEnd}
use Rattle.fanout.specs.First.{IsFirstEnd, IsFirstStart}
use Rattle.fanout.specs.Fronts.{IsSideEnd, IsSideStart}
use Rattle.fanout.specs.Plans.{IsTimed}

module _ {N : Type 0} where
  -- the front stands between its phases over this pool, and the workers have worked
  pub record IsBehind (asked : Asking) (stop : Option ℕ) (pool : PoolSeen) (workers : List (WorkerSlot TaskSeen (WorldSeen N))) (mid : FrontMid N) (room : SideRoom N) : Type 0 where
    pub ids : RunIds
    pub start : FrontStart N
    pub old : List (WorkerSlot TaskSeen (WorldSeen N))
    pub side : IsSideStart asked ids start pool old room
    pub did : IsFirstEnd asked stop pool start mid
    pub worked : AllRan (HasWorked TaskRan) old workers

module _ {N : Type 0} where
  -- it has not begun, and may begin with this pool
  pub record IsReadyFront (asked : Asking) (front : FrontRun N) (pool : PoolSeen) : Type 0 where
    pub start : FrontStart N
    pub has : front.start ≡ Some start
    pub timed : IsTimed asked front.turns.now front.stop
    pub first : IsFirstStart asked pool start
    pub no_mid : front.mid ≡ None

  -- its first phase has led from its start to what it has between the phases, and nothing else has changed
  pub record HasBegunFront (asked : Asking) (old : FrontRun N) (pool : PoolSeen) (new : FrontRun N) : Type 0 where
    pub start : FrontStart N
    pub had : old.start ≡ Some start
    pub mid : FrontMid N
    pub has : new.mid ≡ Some mid
    pub did : IsFirstEnd asked old.stop pool start mid
    pub spent : new.start ≡ None
    pub room : new.room ≡ old.room
    pub end : new.end ≡ old.end
    pub turns : new.turns.now ≡ old.turns.now
    pub stop : new.stop ≡ old.stop

  -- it stands between its phases, and the workers have worked
  pub record CanEndFront (asked : Asking) (front : FrontRun N) (pool : PoolSeen) (workers : List (WorkerSlot TaskSeen (WorldSeen N))) : Type 0 where
    pub room : SideRoom N
    pub has_room : front.room ≡ Some room
    pub mid : FrontMid N
    pub has : front.mid ≡ Some mid
    pub timed : IsTimed asked front.turns.now front.stop
    pub behind : IsBehind asked front.stop pool workers mid room
    pub no_end : front.end ≡ None

  -- what it leaves behind them
  pub record HasEndedFront (asked : Asking) (old : FrontRun N) (pool : PoolSeen) (workers : List (WorkerSlot TaskSeen (WorldSeen N))) (new : FrontRun N) : Type 0 where
    pub end : SideEnd N
    pub has : new.end ≡ Some end
    pub start : new.start ≡ old.start
    pub spent_mid : new.mid ≡ None
    pub spent_room : new.room ≡ None
    pub is : (ids : RunIds) (start : FrontStart N) (slots : List (WorkerSlot TaskSeen (WorldSeen N))) (room : SideRoom N) (mid : FrontMid N)
        → IsSideStart asked ids start pool slots room → old.room ≡ Some room → old.mid ≡ Some mid → IsFirstEnd asked old.stop pool start mid
        → AllRan (HasWorked TaskRan) slots workers → IsSideEnd asked ids end
