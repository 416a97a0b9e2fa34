-- The turns of jobs on a base, and what leads from one to the next.
use Rattle.std.specs.Prelude.{◌≡◌, List, [], ◌∷◌, map}
use Rattle.std.specs.List.{flat_map}
use Rattle.fan_base.specs.declared.number.JobId.{JobId}
use Rattle.fan_base.specs.declared.number.Mark.{Mark}
use Rattle.job_trait.specs.declared.job.Head.{Head}
use Rattle.job_trait.specs.Marks.{IsMarkOf}
use Rattle.event_base.specs.Seen.{AgendaSeen}
use Rattle.event_base.specs.Calls.{Call, Makes}

-- a job that ran, the mark that it had, and the calls that it made on the agenda
pub record Turn (J : Type 0) : Type 0 where
  pub job : J
  pub mark : Mark
  pub calls : List (Call J)

-- a world and an agenda
abbrev pub Place : Type 0 → Type 0 → Type 0
Place W J = W × AgendaSeen J

module _ {J : Type 0} where
  -- What the base itself does before a turn of a job: the agenda before, and between.
  -- It leaves the agenda alone.
  abbrev pub LeavesAgenda : J → AgendaSeen J → AgendaSeen J → Type 0
  LeavesAgenda job a b = b ≡ a

  -- it takes the first of those for the beginning of a round
  abbrev pub TakesBefore : J → AgendaSeen J → AgendaSeen J → Type 0
  TakesBefore job a b = a ≡ record b { before = job ∷ b.before }

  -- it takes the first of those of the loop phase
  abbrev pub TakesLoop : J → AgendaSeen J → AgendaSeen J → Type 0
  TakesLoop job a b = a ≡ record b { loops = job ∷ b.loops }

  abbrev pub jobs_of : List (Turn J) → List J
  jobs_of turns = map (λ (t : Turn J). t.job) turns

  -- the callback that a call in a loop phase adds to that phase
  abbrev pub for_this_phase : Call J → List J
  for_this_phase (Call.run_this_iteration job) = job ∷ []
  for_this_phase _ = []

  -- the callback that a call in a loop phase adds to the next phase
  abbrev pub for_next_phase : Call J → List J
  for_next_phase (Call.run_in_loop job) = job ∷ []
  for_next_phase _ = []

  -- the callbacks that the turns of a loop phase add to that phase, or to the next one
  abbrev pub added_to_phase : List (Turn J) → List J
  added_to_phase turns = flat_map (λ (t : Turn J). flat_map for_this_phase t.calls) turns

  abbrev pub added_behind : List (Turn J) → List J
  added_behind turns = flat_map (λ (t : Turn J). flat_map for_next_phase t.calls) turns

module _ {W J : Type 0} (step : J → AgendaSeen J → AgendaSeen J → Type 0) (head : J → Head) (runs : JobId → Place W J → Mark → Place W J → Type 0) where
  -- the base's step, and then the run of the job
  pub record IsTurn (p : Place W J) (turn : Turn J) (q : Place W J) : Type 0 where
    pub between : AgendaSeen J
    pub stepped : step turn.job p.1 between
    pub marked : IsMarkOf (head turn.job).number turn.mark
    pub ran : runs (head turn.job).id (p.0, between) turn.mark q
    pub called : Makes head between turn.calls q.1

  abbrev pub TurnsThrough : Place W J → List (Turn J) → Place W J → Type 0
  TurnsThrough p [] q = p ≡ q
  TurnsThrough p (t ∷ ts) q = (m : Place W J) × IsTurn p t m × TurnsThrough m ts q

  -- these turns, in this order, lead from one place to the other
  pub record AreTurns (p : Place W J) (turns : List (Turn J)) (q : Place W J) : Type 0 where
    pub through : TurnsThrough p turns q
