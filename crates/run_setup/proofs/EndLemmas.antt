-- What workers leave, one by one.
use Rattle.std.proofs.Common.{◌≡◌, ℕ, suc, ◌+◌, ◌<◌, List, [], ◌∷◌, ◌++◌, length, get_or, length-append, sym, ap, subst, arith}
use Rattle.std.proofs.lemmas.List.{get_or_append_left, get_or_default, get_or_push}
use mathlib.Core.Logic.{dite}
use native.Mathlib.Decide.{ℕ_discrete}
use Rattle.pool_model.specs.Seen.{EndSeen}
use Rattle.run_stages.specs.Stages.{AllRan}
use Rattle.run_tasks.specs.declared.stage.WorkerStage.{WorkerStage}
use Rattle.run_tasks.specs.declared.world.TaskEnds.{TaskEnds}
use Rattle.run_tasks.specs.Seen.{TaskSeen, WorldSeen}
use Rattle.run_tasks.specs.Worlds.{TaskRan}
use Rattle.run_threads.specs.declared.worker.WorkerSlot.{WorkerSlot}
use Rattle.run_threads.specs.Slots.{HasWorked, IsStageOf}
use Rattle.run_setup.specs.Closing.{AreEndsOf}
use Rattle.run_setup.proofs.Each.{EachFrom, each_first, each_rest}

module _ {N : Type 0} where
  -- the stage with this end and what is left of this world
  abbrev pub left_by : EndSeen → TaskEnds N → WorkerStage N
  left_by e w = record { end = e; ends = w }

module _ {N : Type 0} where
  -- the worker of this slot has worked, and was the one at this place
  pub record HasWorkedAt (old : List (WorkerSlot TaskSeen (WorldSeen N))) (k : ℕ) (slot : WorkerSlot TaskSeen (WorldSeen N)) : Type 0 where
    pub ran : (d : WorkerSlot TaskSeen (WorldSeen N)) → HasWorked TaskRan (get_or old k d) slot

  -- so many workers were taken apart, and these are left
  pub record EndsSoFar (old : List (WorkerSlot TaskSeen (WorldSeen N))) (ends : List EndSeen) (worlds : List (TaskEnds N)) (rest : List (WorkerSlot TaskSeen (WorldSeen N))) : Type 0 where
    pub many : length ends + length rest ≡ length old
    pub as_many : length worlds ≡ length ends
    pub each : (k : ℕ) (d : WorkerSlot TaskSeen (WorldSeen N)) (e : EndSeen) (w : TaskEnds N) → k < length ends → IsStageOf (get_or old k d) (left_by (get_or ends k e) (get_or worlds k w))
    pub left : EachFrom (HasWorkedAt old) (length ends) rest

  pub ends-none : (old slots : List (WorkerSlot TaskSeen (WorldSeen N))) (ends : List EndSeen) (worlds : List (TaskEnds N)) → AllRan (HasWorked TaskRan) old slots → ends ≡ [] → worlds ≡ []
      → EndsSoFar old ends worlds slots
  ends-none old slots ends worlds ran no_ends no_worlds =
      let zero_is : length ends ≡ 0 = ap length no_ends in
      record {
        many = omega (arith, zero_is, ran.as_many);
        as_many = omega (arith, zero_is, ap length no_worlds);
        each = λ k d e w below. absurd (omega (arith, below, zero_is));
        left = record {
          each = λ k j d below is.
              let within : k < length old = omega (arith, below, ran.as_many) in
              record {
                ran = λ x. subst (λ (n : ℕ). HasWorked TaskRan (get_or old n x) (get_or slots k d)) (omega (arith, is, zero_is))
                    (subst (λ (s : WorkerSlot TaskSeen (WorldSeen N)). HasWorked TaskRan s (get_or slots k d)) (get_or_default old k d x within) (ran.each k d within));
              };
        };
      }

  pub ends-more : (old : List (WorkerSlot TaskSeen (WorldSeen N))) (ends : List EndSeen) (worlds : List (TaskEnds N)) (slot : WorkerSlot TaskSeen (WorldSeen N)) (rest : List (WorkerSlot TaskSeen (WorldSeen N))) (e : EndSeen) (w : TaskEnds N)
      → EndsSoFar old ends worlds (slot ∷ rest) → ((s : WorkerSlot TaskSeen (WorldSeen N)) → HasWorked TaskRan s slot → IsStageOf s (left_by e w)) → EndsSoFar old (ends ++ e ∷ []) (worlds ++ w ∷ []) rest
  ends-more old ends worlds slot rest e w so is =
      let long : length (ends ++ e ∷ []) ≡ suc (length ends) = omega (arith, length-append ends (e ∷ [])) in
      let here : HasWorkedAt old (length ends) slot = each_first (HasWorkedAt old) (length ends) slot rest so.left in
      record {
        many = omega (arith, long, so.many);
        as_many = omega (arith, long, length-append worlds (w ∷ []), so.as_many);
        each = λ k d x y below. dite (ℕ_discrete k (length ends))
            (λ same. subst (λ (u : EndSeen). IsStageOf (get_or old k d) (left_by u (get_or (worlds ++ w ∷ []) k y))) (sym (get_or_push ends e x k (sym same)))
            (subst (λ (v : TaskEnds N). IsStageOf (get_or old k d) (left_by e v)) (sym (get_or_push worlds w y k (omega (arith, same, so.as_many))))
            (subst (λ (n : ℕ). IsStageOf (get_or old n d) (left_by e w)) (sym same) (is (get_or old (length ends) d) (here.ran d)))))
            (λ other.
            let within : k < length ends = omega (arith, below, other, long) in
            subst (λ (u : EndSeen). IsStageOf (get_or old k d) (left_by u (get_or (worlds ++ w ∷ []) k y))) (sym (get_or_append_left ends (e ∷ []) x k within))
            (subst (λ (v : TaskEnds N). IsStageOf (get_or old k d) (left_by (get_or ends k x) v)) (sym (get_or_append_left worlds (w ∷ []) y k (omega (arith, within, so.as_many))))
            (so.each k d x y within)));
        left = subst (λ (n : ℕ). EachFrom (HasWorkedAt old) n rest) (sym long) (each_rest (HasWorkedAt old) (length ends) slot rest so.left);
      }

  pub ends-all : (old : List (WorkerSlot TaskSeen (WorldSeen N))) (ends : List EndSeen) (worlds : List (TaskEnds N)) (rest : List (WorkerSlot TaskSeen (WorldSeen N))) → EndsSoFar old ends worlds rest → length rest ≡ 0
      → AreEndsOf old ends worlds
  ends-all old ends worlds rest so none = record {
    as_many_ends = omega (arith, so.many, none);
    as_many_worlds = omega (arith, so.many, so.as_many, none);
    each = λ k d e w below. so.each k d e w (omega (arith, below, so.many, none));
  }
