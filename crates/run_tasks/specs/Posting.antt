-- What the posters of a world put to their bases.
use Rattle.std.specs.Prelude.{◌≡◌, ◌⊎◌, ℕ, List, Some, false, set}
use Rattle.std.specs.List.{slice_get}
use Rattle.fan_base.specs.declared.number.JobId.{JobId}
use Rattle.fan_base.specs.declared.outcome.Try.{Try}
use Rattle.fan_base.specs.declared.outcome.Try.TheVariants as try
use Rattle.core_word.specs.declared.consumer.Met.{Met}
use Rattle.core_word.specs.declared.consumer.Met.TheVariants as met
use Rattle.core_word.specs.declared.producer.Landed.{Landed}
use Rattle.core_word.specs.declared.producer.Landed.TheVariants as landed
use Rattle.core_word.specs.Seen.{SeenFire}
use Rattle.notify_queue.specs.Ends.{with_put}
use Rattle.fan_model.specs.Tasks.{job_of}
use Rattle.fan_parts.specs.declared.jobs.GatherJob.{GatherJob}
use Rattle.fan_parts.specs.declared.jobs.GatherJob.TheVariants as gather
use Rattle.fan_parts.specs.Seen.{CallbackSeen, PartSeen, PosterSeen}
use Rattle.run_tasks.specs.Seen.{WorldSeen}

-- a part with its callback
abbrev pub FireSeen : Type 0
FireSeen = SeenFire PartSeen CallbackSeen

-- what the core with this number may be given: the part of the query and shard whose number it is, or want of memory
abbrev pub SuitsCore : ℕ → Try PartSeen → Type 0
SuitsCore number (try.Value part) = (job_of part.number part.shard).0 ≡ number
SuitsCore number try.Broken = ⊥
SuitsCore number try.Memory = Unit {0}
SuitsCore number (try.Cancelled cause) = ⊥

-- the fire of the core with this number, of this outcome
abbrev pub IsFireOf : ℕ → Try PartSeen → FireSeen → Type 0
IsFireOf number outcome fire = (fire.no ≡ number) × (fire.outcome ≡ outcome)

-- the fire of the core with this number, to this callback
abbrev pub IsFireTo : ℕ → CallbackSeen → FireSeen → Type 0
IsFireTo number callback fire = (fire.no ≡ number) × (fire.callback ≡ callback)

-- the fire of the core of the task with this id, with the part of its query and shard
abbrev pub IsFireOfTask : JobId → FireSeen → Type 0
IsFireOfTask id fire = (part : PartSeen) × IsFireOf id.0 (try.Value part) fire × (job_of part.number part.shard ≡ id)

module _ {N : Type 0} where
  -- The poster to the base of the fire's callback has put this fire behind what it had; all other posters are as they were.
  pub record PostsFire (fire : FireSeen) (old new : List (PosterSeen (GatherJob N))) : Type 0 where
    pub base : ℕ
    pub poster : PosterSeen (GatherJob N)
    pub at : slice_get old base ≡ Some poster
    pub exec : poster.exec ≡ fire.callback.exec
    pub put : new ≡ set old base (record poster { sender = with_put poster.sender (gather.Task fire) })

  -- Nothing was posted, or one fire that passes the test.
  abbrev pub PostsOneAtMost : (FireSeen → Type 0) → List (PosterSeen (GatherJob N)) → List (PosterSeen (GatherJob N)) → Type 0
  PostsOneAtMost Test old new = (new ≡ old) ⊎ ((fire : FireSeen) × Test fire × PostsFire fire old new)

  -- what is done with what a half met at its core: nothing, where the other half hadn't come; else its fire is posted
  abbrev pub Lands : Landed PartSeen CallbackSeen → WorldSeen N → WorldSeen N → Type 0
  Lands landed.Waiting old new = new ≡ old
  Lands (landed.Fire fire) old new = new.refused ≡ false → PostsFire fire old.posters new.posters

-- the same, as a producer's answer; a task's core is never forwarded
abbrev pub LandsAs : {P : Type 0} → Met PartSeen CallbackSeen P → Landed PartSeen CallbackSeen → Type 0
LandsAs met.Waiting answer = answer ≡ landed.Waiting
LandsAs (met.Fire fire) answer = answer ≡ landed.Fire fire
LandsAs (met.Forward forward) answer = ⊥
