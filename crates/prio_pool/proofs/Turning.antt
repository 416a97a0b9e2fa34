-- What a turn did, from its look and from what it took.
use Rattle.std.proofs.Common.{◌≡◌, ◌≢◌, ℕ, ◌+◌, ◌<◌, Bool, true, List, [], ◌∷◌, ◌++◌, length, Option, Some, None, refl, ap, subst, ◌∙◌}
use Rattle.fan_base.specs.declared.number.JobId.{JobId}
use Rattle.fan_base.specs.declared.number.Mark.{Mark}
use Rattle.job_trait.specs.declared.job.Head.{Head}
use Rattle.pool_model.specs.declared.task.Ending.{Ending}
use Rattle.pool_model.specs.declared.task.Ending.TheVariants.{Stops}
use Rattle.pool_model.specs.Records.{Record}
use Rattle.pool_model.specs.Steps.{Step, ran, idle, of_mark, looked, steps_in, steps_of}
use Rattle.pool_runs.specs.declared.placed.Placed.{Placed}
use Rattle.prio_pool.specs.Adders.{entry_of}
use Rattle.prio_pool.specs.Takers.{TakersSeen, and_looked, DidSteps, TookNext, FoundNone}
use Rattle.prio_pool.specs.Turned.{DidRun, DidIdle, DidStop}
use Rattle.prio_pool.proofs.Recording.{steps_more, turn_steps}
use Rattle.task_queue.specs.declared.rule.Queued.{Queued}

module _ (old mid : TakersSeen) (found : Option Ending) (is : mid ≡ and_looked old found) where
  -- the look is its first step
  looked_first : steps_in mid.looks ≡ steps_in old.looks ++ looked found ∷ []
  looked_first = ap (λ (x : TakersSeen). steps_in x.looks) is ∙ steps_more old.looks record { place = of_mark old.pool.mark; step = looked found }

  module _ (new : TakersSeen) (steps : List Step) (did : DidSteps mid new steps) where
    pub same_pool : (new.pool ≡ old.pool) × (new.number ≡ old.number)
    same_pool = (did.pool ∙ ap (λ (x : TakersSeen). x.pool) is, did.number ∙ ap (λ (x : TakersSeen). x.number) is)

    pub one_look : new.looked_so_often ≡ old.looked_so_often + 1
    one_look = did.looked_same ∙ ap (λ (x : TakersSeen). x.looked_so_often) is

  module _ {W : Type 0} (runs : JobId → W → Mark → W → Type 0) (ends : Bool) (records : List Record) (w : W) where
    pub did_stop : found ≡ Some Stops → ends ≡ true → DidStop runs ends old records w mid records w
    did_stop stops may = record {
      list = refl;
      world = refl;
      popped = ap (λ (x : TakersSeen). x.popped) is;
      found_is = ap (λ (x : TakersSeen). x.found) is ∙ stops;
      turn = looked_first ∙ ap (λ (f : Option Ending). steps_in old.looks ++ looked f ∷ []) stops;
      may_end = may;
    }

    pub did_idle : (new : TakersSeen) → FoundNone mid new → (ends ≡ true → found ≢ Some Stops) → DidIdle runs ends found old records w new records w
    did_idle new none not_stops =
        let same : length mid.pool.queues ≡ length old.pool.queues = ap (λ (x : TakersSeen). length x.pool.queues) is in
        record {
          list = refl;
          world = refl;
          popped = none.popped ∙ ap (λ (x : TakersSeen). x.popped) is;
          found_is = none.did.found ∙ ap (λ (x : TakersSeen). x.found) is;
          turn = turn_steps (steps_in old.looks) (steps_in mid.looks) (steps_in new.looks) found _ looked_first none.did.steps_are ∙ ap (λ (n : ℕ). steps_in old.looks ++ steps_of n (idle found)) same;
          not_stopped = not_stops;
        }

    pub did_run : {J : Type 0} (head : J → Head) (new : TakersSeen) (queue : ℕ) (task : Queued (Placed J)) (entry : Record) (more : List Record) (v : W)
        → TookNext head mid queue task new → more ≡ records ++ entry ∷ [] → runs entry.job w entry.mark v → (ends ≡ true → found ≢ Some Stops) → DidRun runs ends old records w new more v
    did_run head new queue task entry more v took list led not_stops =
        let same : length mid.pool.queues ≡ length old.pool.queues = ap (λ (x : TakersSeen). length x.pool.queues) is in
        record {
          entry = entry;
          list = list;
          led = led;
          found = found;
          found_is = took.did.found ∙ ap (λ (x : TakersSeen). x.found) is;
          queue = queue;
          task = entry_of head task;
          within = subst (λ (n : ℕ). queue < n) same took.within;
          turn = turn_steps (steps_in old.looks) (steps_in mid.looks) (steps_in new.looks) found _ looked_first took.did.steps_are
              ∙ ap (λ (n : ℕ). steps_in old.looks ++ steps_of n (ran found queue (entry_of head task))) same;
          not_stopped = not_stops;
        }

pub has_found : (found : Option Ending) (e : Ending) → found ≡ Some e → found ≢ None
has_found None e is none = cc
has_found (Some x) e is none = cc
