-- What a run of a chain does.
use Rattle.std.specs.Prelude.{◌≡◌, List, Bool}
use Rattle.fan_base.specs.declared.outcome.Try.{Try}
use Rattle.core_word.specs.Count.{Counts}
use Rattle.core_word.specs.Seen.{SeenProducer}
use Rattle.core_word.specs.declared.producer.Landed.{Landed}
use Rattle.core_proxy.specs.Walk.{Stop}
use Rattle.job_steps.specs.declared.cont.Step.{Step}
use Rattle.job_steps.specs.declared.cont.Step.TheVariants as step
use Rattle.promise_api.specs.declared.after.After.{After}
use Rattle.promise_api.specs.Acts.{Fulfils, Proxies}

module _ {U D Q : Type 0} (gives : Q → D → Bool → List Stop → Landed U D → Type 0) where
  -- an outcome that is there fulfils the promise, and another core's is its proxy
  abbrev pub EndsBy : SeenProducer → Step U Q → After U D Q → Counts → Counts → Type 0
  EndsBy to (step.Now outcome) after old new = Fulfils to outcome after × (new ≡ old)
  EndsBy to (step.Later core) after old new = Proxies gives to core after old new

-- The continuation answered a step, once, and the promise was kept by that step.
pub record RunsTo {K T U D Q : Type 0} (steps : K → Try T → Step U Q → Type 0) (gives : Q → D → Bool → List Stop → Landed U D → Type 0) (to : SeenProducer) (cont : K) (outcome : Try T) (after : After U D Q) (old new : Counts) : Type 0 where
  pub step : Step U Q
  pub answered : steps cont outcome step
  pub ends : EndsBy gives to step after old new
