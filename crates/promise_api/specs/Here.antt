-- What is done with a chain's fire: it is dispatched as a job, or run at once.
use Rattle.std.specs.Prelude.{◌≡◌, List, Bool, true}
use Rattle.fan_base.specs.declared.outcome.Try.{Try}
use Rattle.fan_base.specs.declared.number.ExecId.{ExecId}
use Rattle.core_word.specs.Count.{Counts, raised}
use Rattle.core_word.specs.Seen.{SeenFire}
use Rattle.core_word.specs.declared.producer.Landed.{Landed}
use Rattle.core_proxy.specs.Walk.{Stop}
use Rattle.job_steps.specs.declared.cont.Step.{Step}
use Rattle.promise_api.specs.Seen.{SeenChain}
use Rattle.promise_api.specs.declared.after.After.{After}
use Rattle.promise_api.specs.declared.chain_job.ChainJob.{ChainJob}
use Rattle.promise_api.specs.declared.dispatching.Here.{Here}
use Rattle.promise_api.specs.declared.dispatching.Here.TheVariants as here
use Rattle.promise_api.specs.Chains.{RunsTo}

-- the job of a fire: the core's number, the outcome and the chain
abbrev pub job_of : {T K U D Q : Type 0} → SeenFire T (SeenChain K) → ChainJob T K U D Q
job_of fire = record { no = fire.no; outcome = fire.outcome; chain = fire.callback }

-- a fact for each answer of running here
abbrev pub MatchHere : {T K U D Q : Type 0} → Here T K U D Q → (After U D Q → Type 0) → (SeenFire T (SeenChain K) → Type 0) → Type 0
MatchHere (here.Ran after) Ran Not = Ran after
MatchHere (here.Not fire) Ran Not = Not fire

-- The fire may run inline, its chain has this executor, and the chain was run once, after the fire was counted as handed over.
pub record RanHere {K T U D Q : Type 0} (steps : K → Try T → Step U Q → Type 0) (gives : Q → D → Bool → List Stop → Landed U D → Type 0) (fire : SeenFire T (SeenChain K)) (exec : ExecId) (after : After U D Q) (old new : Counts) : Type 0 where
  pub may : fire.inline ≡ true
  pub on : fire.callback.exec ≡ exec
  pub ran : RunsTo steps gives fire.callback.to fire.callback.cont fire.outcome after (record old { handed = raised old.handed }) new
