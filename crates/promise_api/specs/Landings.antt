-- What a chain's job does to the world that it lands in.
use Rattle.std.specs.Prelude.{◌≡◌, List, Bool, Option, Some, None}
use Rattle.fan_base.specs.declared.outcome.Try.{Try}
use Rattle.fan_base.specs.declared.number.JobId.{JobId}
use Rattle.fan_base.specs.declared.number.Mark.{Mark}
use Rattle.fan_base.specs.declared.number.Mark.TheVariants as mark
use Rattle.core_word.specs.Count.{Counts}
use Rattle.core_word.specs.Seen.{SeenProducer, SeenFire}
use Rattle.core_word.specs.declared.producer.Landed.{Landed}
use Rattle.core_word.specs.declared.producer.Landed.TheVariants as landed
use Rattle.core_proxy.specs.Walk.{Stop}
use Rattle.core_proxy.specs.Settling.{Settled}
use Rattle.job_steps.specs.declared.cont.Step.{Step}
use Rattle.promise_api.specs.declared.after.After.{After}
use Rattle.promise_api.specs.Chains.{RunsTo}

abbrev pub no_counts : Counts
no_counts = record { made = 0; handed = 0; forwarded = 0; freed = 0; reopened = 0 }

-- a fire is handed to the world, where there is one
abbrev pub HandsFire : {U D W : Type 0} → (W → SeenFire U D → W → Type 0) → W → Landed U D → W → Type 0
HandsFire lands before landed.Waiting after = after ≡ before
HandsFire lands before (landed.Fire fire) after = lands before fire after

-- an outcome that was left over is handed to the world, where there is one
abbrev pub HandsOutcome : {U W : Type 0} → (W → Try U → W → Type 0) → W → Option (Try U) → W → Type 0
HandsOutcome unclaims before None after = after ≡ before
HandsOutcome unclaims before (Some outcome) after = unclaims before outcome after

-- What a chain's run and the settling after it came to, for the continuation of some chain and some outcome: the fire or that it waits, what was left over, and the numbers of a tally that began empty.
pub record Came {K T U D Q : Type 0} (steps : K → Try T → Step U Q → Type 0) (gives : Q → D → Bool → List Stop → Landed U D → Type 0) (gives_up : Q → List Stop → Option (Try U) → Type 0) (to : SeenProducer) (cont : K) (outcome : Try T) (after : After U D Q) (left_over : Option (Try U)) (counts : Counts) : Type 0 where
  pub between : Counts
  pub ran : RunsTo steps gives to cont outcome after no_counts between
  pub settled : Settled gives_up after.left left_over between counts

-- The world after a job was reached from the world before by what the run gave: first its fire, then what was left over, then its tally.
pub record LandsIn {U D Q W : Type 0} (lands : W → SeenFire U D → W → Type 0) (unclaims : W → Try U → W → Type 0) (counted : W → Counts → W → Type 0) (after : After U D Q) (left_over : Option (Try U)) (counts : Counts) (before now : W) : Type 0 where
  pub first : W
  pub second : W
  pub fire : HandsFire lands before after.landed first
  pub outcome : HandsOutcome unclaims first left_over second
  pub tally : counted second counts now

-- What a run of the job of this chain, with this outcome, does to a world: its continuation ran once on that outcome, and what that came to landed in the world.
pub record JobRan {K T U D Q W : Type 0} (steps : K → Try T → Step U Q → Type 0) (gives : Q → D → Bool → List Stop → Landed U D → Type 0) (gives_up : Q → List Stop → Option (Try U) → Type 0) (lands : W → SeenFire U D → W → Type 0) (unclaims : W → Try U → W → Type 0) (counted : W → Counts → W → Type 0) (to : SeenProducer) (cont : K) (given : Try T) (before now : W) : Type 0 where
  pub after : After U D Q
  pub left_over : Option (Try U)
  pub counts : Counts
  pub came : Came steps gives gives_up to cont given after left_over counts
  pub landed : LandsIn lands unclaims counted after left_over counts before now

-- What a run of a chain's job does to a world, whatever its id: some continuation of the chain's type ran once, and what that came to landed in the world.
pub record JobRuns {K T U D Q W : Type 0} (steps : K → Try T → Step U Q → Type 0) (gives : Q → D → Bool → List Stop → Landed U D → Type 0) (gives_up : Q → List Stop → Option (Try U) → Type 0) (lands : W → SeenFire U D → W → Type 0) (unclaims : W → Try U → W → Type 0) (counted : W → Counts → W → Type 0) (id : JobId) (before : W) (m : Mark) (now : W) : Type 0 where
  pub to : SeenProducer
  pub cont : K
  pub given : Try T
  pub after : After U D Q
  pub left_over : Option (Try U)
  pub counts : Counts
  pub came : Came steps gives gives_up to cont given after left_over counts
  pub landed : LandsIn lands unclaims counted after left_over counts before now
  pub mark : m ≡ mark.Done 0
