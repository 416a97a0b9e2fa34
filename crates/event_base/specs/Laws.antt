-- Words of the laws of rounds.
use Rattle.std.specs.Prelude.{◌≡◌, ℕ, ◌+◌, ◌⊎◌, false, List, [], ◌∷◌, ◌++◌, map}
use Rattle.std.specs.List.{flat_map}
use Rattle.fan_base.specs.declared.number.JobId.{JobId}
use Rattle.fan_base.specs.declared.number.Mark.{Mark}
use Rattle.job_trait.specs.declared.job.Head.{Head}
use Rattle.job_trait.specs.Runs.{Ran, Leads}
use Rattle.notify_queue.specs.declared.stamp.Stamped.{Stamped}
use Rattle.event_base.specs.Seen.{AgendaSeen, BaseSeen, settled}
use Rattle.event_base.specs.Turns.{Turn, Place, LeavesAgenda, TakesBefore, TakesLoop, AreTurns, jobs_of}
use Rattle.event_base.specs.Rounds.{Phases, in_phase, ticked}

module _ {W J : Type 0} (runs : JobId → Place W J → Mark → Place W J → Type 0) where
  -- a relation of worlds that holds of a world and itself, goes through a world between, and holds across each run
  pub record IsKeptByRuns (relates : W → W → Type 0) : Type 0 where
    pub same : (w : W) → relates w w
    pub joined : (w m v : W) → relates w m → relates m v → relates w v
    pub each : (id : JobId) (p : Place W J) (mark : Mark) (q : Place W J) → runs id p mark q → relates p.0 q.0

-- a step of the base's own between two jobs, beside the one by which it takes the next job
pub data BaseStep : Type 0 where
  -- it makes a tick: the timers that are due then leave the agenda
  ticks : BaseStep
  -- it begins the loop phase
  begins : BaseStep
  -- it ends the loop phase
  settles : BaseStep

module _ {J : Type 0} where
  -- what a step makes of an agenda
  abbrev pub after_step : BaseStep → AgendaSeen J → AgendaSeen J
  after_step ticks a = ticked a
  after_step begins a = in_phase a
  after_step settles a = settled a

  abbrev pub after_steps : AgendaSeen J → List BaseStep → AgendaSeen J
  after_steps a [] = a
  after_steps a (step ∷ steps) = after_steps (after_step step a) steps

  -- the base's own part: some list of its steps leads from one agenda to the other
  pub record IsBasePart (a b : AgendaSeen J) : Type 0 where
    pub steps : List BaseStep
    pub after : b ≡ after_steps a steps

  -- the base takes this job off the agenda, or has it from its queue or from a tick
  abbrev pub TakesJob : J → AgendaSeen J → AgendaSeen J → Type 0
  TakesJob job a b = LeavesAgenda job a b ⊎ (TakesBefore job a b ⊎ TakesLoop job a b)

module _ {W J : Type 0} (head : J → Head) (runs : JobId → Place W J → Mark → Place W J → Type 0) where
  -- a run of a job behind the base's own part and the step that takes this very job
  pub record RunsBehind (id : JobId) (p : Place W J) (mark : Mark) (q : Place W J) : Type 0 where
    pub job : J
    pub is_job : (head job).id ≡ id
    pub ready : AgendaSeen J
    pub between : AgendaSeen J
    pub part : IsBasePart p.1 ready
    pub taken : TakesJob job ready between
    pub ran : runs id (p.0, between) mark q

module _ {J : Type 0} (head : J → Head) where
  -- the ids and marks of turns
  abbrev pub ran_of : List (Turn J) → List Ran
  ran_of turns = map (λ (t : Turn J). ((head t.job).id, t.mark)) turns

  -- those of a round, in its order
  abbrev pub ran_in : Phases J → List Ran
  ran_in did = ran_of did.before ++ (ran_of did.messages ++ (flat_map ran_of did.ticks ++ ran_of did.loops))

module _ {W J : Type 0} (head : J → Head) (runs : JobId → Place W J → Mark → Place W J → Type 0) where
  -- these runs lead from one place to the other, up to the base's own part
  pub record LeadsUpTo (p : Place W J) (list : List Ran) (q : Place W J) : Type 0 where
    pub end : AgendaSeen J
    pub leads : Leads (RunsBehind head runs) p list (q.0, end)
    pub part : IsBasePart end q.1

-- the same base, with so many ticks more
pub record KeepsBase {J : Type 0} (ticks : ℕ) (old new : BaseSeen J) : Type 0 where
  pub exec : new.agenda.exec ≡ old.agenda.exec
  pub queue : new.queue.queue ≡ old.queue.queue
  pub senders : new.queue.senders ≡ old.queue.senders
  pub tick : new.agenda.wheel.tick ≡ old.agenda.wheel.tick + ticks

-- no callback is held, no loop phase runs, and the mark to end is off
pub record IsIdle {J : Type 0} (a : AgendaSeen J) : Type 0 where
  pub before : a.before ≡ []
  pub loops : a.loops ≡ []
  pub later : a.later ≡ []
  pub in_loop : a.in_loop ≡ false
  pub terminating : a.terminating ≡ false

-- each run leaves the agenda as it was
abbrev pub LeaveTheAgenda : {W J : Type 0} → (JobId → Place W J → Mark → Place W J → Type 0) → Type 0
LeaveTheAgenda {W} {J} runs = (id : JobId) (p : Place W J) (mark : Mark) (q : Place W J) → runs id p mark q → q.1 ≡ p.1

module _ {W J : Type 0} (head : J → Head) (runs : JobId → Place W J → Mark → Place W J → Type 0) where
  -- exactly the messages that were taken ran, once each, in the queue's order, on an agenda that stays as it is
  pub record RunsMessages (w : W) (old : BaseSeen J) (v : W) (new : BaseSeen J) : Type 0 where
    pub took : List (Stamped J)
    pub turns : List (Turn J)
    pub taken : new.queue.taken ≡ old.queue.taken ++ took
    pub jobs : jobs_of turns ≡ map (λ (x : Stamped J). x.message) took
    pub agenda : new.agenda ≡ old.agenda
    pub ran : AreTurns LeavesAgenda head runs (w, old.agenda) turns (v, old.agenda)
