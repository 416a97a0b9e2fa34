-- A loop phase as far as it has come.
use Rattle.std.specs.Prelude.{◌≡◌, ℕ, true, List, ◌++◌, length}
use Rattle.fan_base.specs.declared.number.JobId.{JobId}
use Rattle.fan_base.specs.declared.number.Mark.{Mark}
use Rattle.job_trait.specs.declared.job.Head.{Head}
use Rattle.event_base.specs.Turns.{Turn, Place, TakesLoop, jobs_of, added_to_phase, AreTurns}

module _ {W J : Type 0} (head : J → Head) (runs : JobId → Place W J → Mark → Place W J → Type 0) where
  -- The loop phase: so many callbacks ran.
  pub record LoopSoFar (p : Place W J) (count : ℕ) (q : Place W J) : Type 0 where
    pub turns : List (Turn J)
    pub as_many : length turns ≡ count
    pub ran : AreTurns TakesLoop head runs p turns q
    pub phase : q.1.in_loop ≡ true
    pub kept : jobs_of turns ++ q.1.loops ≡ p.1.loops ++ added_to_phase turns
