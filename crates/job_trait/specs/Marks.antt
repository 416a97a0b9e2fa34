-- The marks that a run of a job may have.
use Rattle.std.specs.Prelude.{◌≡◌, ℕ}
use Rattle.fan_base.specs.declared.number.Mark.{Mark}
use Rattle.fan_base.specs.declared.number.Mark.TheVariants.{Done, Memory}

-- done with the job's own number, or want of memory
abbrev pub IsMarkOf : ℕ → Mark → Type 0
IsMarkOf number (Done x) = x ≡ number
IsMarkOf number Memory = Unit {0}

-- the run found the memory that it wanted
abbrev pub IsDone : Mark → Type 0
IsDone (Done _) = Unit {0}
IsDone Memory = ⊥
