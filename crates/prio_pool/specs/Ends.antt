-- What one help did.
use Rattle.std.specs.Prelude.{◌≡◌, ℕ, ◌<◌, [], ◌∷◌, ◌++◌, Option, length}
use Rattle.fan_base.specs.declared.number.JobId.{JobId}
use Rattle.fan_base.specs.declared.number.Mark.{Mark}
use Rattle.pool_model.specs.declared.task.Ending.{Ending}
use Rattle.pool_model.specs.declared.task.Entry.{Entry}
use Rattle.pool_model.specs.Records.{Record}
use Rattle.pool_model.specs.Seen.{EndSeen, steps_by}
use Rattle.pool_model.specs.Steps.{Turn, ran, idle, steps_of}
use Rattle.prio_pool.specs.declared.pool.Helped.{Helped}
use Rattle.prio_pool.specs.declared.pool.Helped.TheVariants.{Ran, Empty}

-- the steps of this turn stand behind the others
abbrev pub TookTurn : EndSeen → EndSeen → Turn → Type 0
TookTurn old new turn = steps_by new ≡ steps_by old ++ steps_of (length old.pool.queues) turn

-- one task ran, of the highest queue that wasn't found empty, and its record stands behind the others
pub record RanOneMore {W : Type 0} (runs : JobId → W → Mark → W → Type 0) (old : EndSeen) (w : W) (new : EndSeen) (v : W) : Type 0 where
  pub entry : Record
  pub list : new.records ≡ old.records ++ entry ∷ []
  pub led : runs entry.job w entry.mark v
  pub found : Option Ending
  pub found_is : new.found ≡ found
  pub queue : ℕ
  pub task : Entry
  pub within : queue < length old.pool.queues
  pub turn : TookTurn old new (ran found queue task)

-- no record and no pop came, the world stayed, and each queue was found empty behind the look with which the call began
pub record FoundEmpty {W : Type 0} (old : EndSeen) (w : W) (new : EndSeen) (v : W) : Type 0 where
  pub list : new.records ≡ old.records
  pub popped : new.popped ≡ old.popped
  pub world : v ≡ w
  pub found : Option Ending
  pub found_is : new.found ≡ found
  pub turn : TookTurn old new (idle found)

abbrev pub HelpDid : {W : Type 0} → (JobId → W → Mark → W → Type 0) → Helped → EndSeen → W → EndSeen → W → Type 0
HelpDid runs Ran old w new v = RanOneMore runs old w new v
HelpDid runs Empty old w new v = FoundEmpty old w new v
