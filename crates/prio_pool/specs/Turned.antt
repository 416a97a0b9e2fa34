-- What a turn of a worker or helper did.
use Rattle.std.specs.Prelude.{◌≡◌, ◌≢◌, ℕ, ◌<◌, Bool, true, List, [], ◌∷◌, ◌++◌, Option, Some, length, All}
use Rattle.std.specs.List.{flat_map}
use Rattle.fan_base.specs.declared.number.JobId.{JobId}
use Rattle.fan_base.specs.declared.number.Mark.{Mark}
use Rattle.pool_model.specs.declared.task.Ending.{Ending}
use Rattle.pool_model.specs.declared.task.Ending.TheVariants.{Stops}
use Rattle.pool_model.specs.declared.task.Entry.{Entry}
use Rattle.pool_model.specs.Records.{Record}
use Rattle.pool_model.specs.Steps.{Step, steps_in, GoesOn, Turn, ran, idle, stopped, steps_of}
use Rattle.prio_pool.specs.declared.turn.Turned.{Turned}
use Rattle.prio_pool.specs.declared.turn.Turned.TheVariants.{Ran, Idle, Stopped}
use Rattle.prio_pool.specs.Takers.{TakersSeen}

-- the steps of this turn stand behind the others
abbrev pub DidTurn : TakersSeen → TakersSeen → Turn → Type 0
DidTurn old new turn = steps_in new.looks ≡ steps_in old.looks ++ steps_of (length old.pool.queues) turn

-- turns after each of which a worker goes on
pub record WorkedSoFar (queues : ℕ) (steps : List Step) : Type 0 where
  pub turns : List Turn
  pub list : steps ≡ flat_map (steps_of queues) turns
  pub each : All (GoesOn queues) turns

module _ {W : Type 0} (runs : JobId → W → Mark → W → Type 0) (ends_at_stop : Bool) where
  -- one task ran, and its record stands behind the others; where it is to end at a stop, the look found none
  pub record DidRun (old : TakersSeen) (records : List Record) (w : W) (new : TakersSeen) (more : List Record) (v : W) : Type 0 where
    pub entry : Record
    pub list : more ≡ records ++ entry ∷ []
    pub led : runs entry.job w entry.mark v
    pub found : Option Ending
    pub found_is : new.found ≡ found
    pub queue : ℕ
    pub task : Entry
    pub within : queue < length old.pool.queues
    pub turn : DidTurn old new (ran found queue task)
    pub not_stopped : ends_at_stop ≡ true → found ≢ Some Stops

  -- nothing ran, and each queue was found empty behind the look
  pub record DidIdle (found : Option Ending) (old : TakersSeen) (records : List Record) (w : W) (new : TakersSeen) (more : List Record) (v : W) : Type 0 where
    pub list : more ≡ records
    pub world : v ≡ w
    pub popped : new.popped ≡ old.popped
    pub found_is : new.found ≡ found
    pub turn : DidTurn old new (idle found)
    pub not_stopped : ends_at_stop ≡ true → found ≢ Some Stops

  -- nothing ran, since the look found a stop
  pub record DidStop (old : TakersSeen) (records : List Record) (w : W) (new : TakersSeen) (more : List Record) (v : W) : Type 0 where
    pub list : more ≡ records
    pub world : v ≡ w
    pub popped : new.popped ≡ old.popped
    pub found_is : new.found ≡ Some Stops
    pub turn : DidTurn old new stopped
    pub may_end : ends_at_stop ≡ true

  abbrev pub TurnDid : Turned → TakersSeen → List Record → W → TakersSeen → List Record → W → Type 0
  TurnDid Ran old records w new more v = DidRun old records w new more v
  TurnDid (Idle found) old records w new more v = DidIdle found old records w new more v
  TurnDid Stopped old records w new more v = DidStop old records w new more v
