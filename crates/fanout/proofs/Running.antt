-- The front beside the workers and behind them, from what was opened to what it leaves.
use Rattle.std.proofs.Common.{◌≡◌, ℕ, List, [], sym, ◌∙◌, subst}
use Rattle.std.specs.Prelude.{Option, Some, None}
use Rattle.std.proofs.lemmas.Option.{same_Some}
use Rattle.fan_model.specs.Report.{Asking}
use Rattle.pool_model.specs.Passes.{adds_of}
use Rattle.pool_model.specs.Seen.{PoolSeen}
use Rattle.prio_pool.specs.Made.{new_pass}
use Rattle.run_phases.specs.declared.first.FrontStart.{FrontStart}
use Rattle.run_plan.specs.declared.turn.Turn.{Turn}
use Rattle.run_setup.specs.Ids.{RunIds}
use Rattle.run_tasks.specs.Seen.{TaskSeen, WorldSeen}
use Rattle.run_tasks.specs.Worlds.{TaskRan}
use Rattle.run_threads.specs.Beside.{HasRunAll, MayRunAll}
use Rattle.run_threads.specs.declared.worker.WorkerSlot.{WorkerSlot}
use Rattle.run_threads.specs.Slots.{HasWorked}
use Rattle.fanout.specs.declared.front.FrontRun.{FrontRun}
use Rattle.fanout.specs.declared.front.SideRoom.{SideRoom}
use Rattle.fanout.specs.declared.front.SideEnd.{SideEnd}
use Rattle.fanout.specs.Beside.{CanEndFront, HasBegunFront, HasEndedFront, IsReadyFront}
use Rattle.fanout.specs.First.{IsFirstEnd}
use Rattle.fanout.specs.Fronts.{IsSideEnd, IsSideStart}
use Rattle.fanout.specs.Plans.{IsTimed}
use Rattle.fanout.proofs.Sides.{first_start}

module _ {N : Type 0} where
  pub may_run : (asked : Asking) (ids : RunIds) (front : FrontRun N) (start : FrontStart N) (pool : PoolSeen) (slots : List (WorkerSlot TaskSeen (WorldSeen N))) (room : SideRoom N)
      → front.start ≡ Some start → front.mid ≡ None → front.room ≡ Some room → front.end ≡ None → IsTimed asked front.turns.now front.stop → IsSideStart asked ids start pool slots room → adds_of (new_pass pool.id 0) ≡ []
      → MayRunAll (IsReadyFront asked) (HasBegunFront asked) (CanEndFront asked) (HasWorked TaskRan) front pool slots
  may_run asked ids front start pool slots room has none has_room no_end timed s unused = record {
    begins = record { start = start; has = has; timed = timed; first = first_start asked ids start pool slots room s unused; no_mid = none };
    ends = λ mid left begun worked.
        let same : start ≡ begun.start = same_Some start _ (sym has ∙ begun.had) in
        record {
          room = room;
          has_room = begun.room ∙ has_room;
          mid = begun.mid;
          has = begun.has;
          timed = subst (λ (p : Option ℕ). IsTimed asked mid.turns.now p) (sym begun.stop) (subst (λ (turns : List Turn). IsTimed asked turns front.stop) (sym begun.turns) timed);
          behind = record {
            ids = ids;
            start = start;
            old = slots;
            side = s;
            did = subst (λ (p : Option ℕ). IsFirstEnd asked p pool start begun.mid) (sym begun.stop) (subst (λ (x : FrontStart N). IsFirstEnd asked front.stop pool x begun.mid) (sym same) begun.did);
            worked = worked;
          };
          no_end = begun.end ∙ no_end;
        };
  }

  -- nothing is left of what it spends
  pub all_spent : (asked : Asking) (front new : FrontRun N) (pool : PoolSeen) (slots : List (WorkerSlot TaskSeen (WorldSeen N))) → HasRunAll (HasBegunFront asked) (HasEndedFront asked) (HasWorked TaskRan) front pool slots new
      → (new.start ≡ None) × ((new.mid ≡ None) × (new.room ≡ None))
  all_spent asked front new pool slots ran = (ran.has_ended.start ∙ ran.has_begun.spent, (ran.has_ended.spent_mid, ran.has_ended.spent_room))

  pub side_of_run : (asked : Asking) (ids : RunIds) (front new : FrontRun N) (start : FrontStart N) (pool : PoolSeen) (slots : List (WorkerSlot TaskSeen (WorldSeen N))) (room : SideRoom N) (end : SideEnd N)
      → HasRunAll (HasBegunFront asked) (HasEndedFront asked) (HasWorked TaskRan) front pool slots new → new.end ≡ Some end → front.start ≡ Some start → front.room ≡ Some room → IsSideStart asked ids start pool slots room
      → IsSideEnd asked ids end
  side_of_run asked ids front new start pool slots room end ran is has has_room s =
      let begun = ran.has_begun in
      let ended = ran.has_ended in
      let same : start ≡ begun.start = same_Some start _ (sym has ∙ begun.had) in
      let end_is : ended.end ≡ end = same_Some ended.end _ (sym ended.has ∙ is) in
      let did : IsFirstEnd asked ran.mid.stop pool start begun.mid =
      subst (λ (p : Option ℕ). IsFirstEnd asked p pool start begun.mid) (sym begun.stop) (subst (λ (x : FrontStart N). IsFirstEnd asked front.stop pool x begun.mid) (sym same) begun.did) in
      subst (λ (x : SideEnd N). IsSideEnd asked ids x) end_is (ended.is ids start slots room begun.mid s (begun.room ∙ has_room) begun.has did ran.worked)
