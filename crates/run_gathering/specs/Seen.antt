-- What contracts see of the world of a gathering base.
use Rattle.std.specs.Prelude.{ℕ, Bool}
use Rattle.core_word.specs.Count.{Counts}
use Rattle.fan_parts.specs.Seen.{PosterSeen}
use Rattle.fan_parts.specs.declared.jobs.PrintJob.{PrintJob}

-- what was put to the printer's base, what became of cores, whether memory was refused, and how many scorings wait
pub record GatheringSeen (N : Type 0) : Type 0 where
  pub printer : PosterSeen (PrintJob N)
  pub tally : Counts
  pub refused : Bool
  pub waiting : ℕ
