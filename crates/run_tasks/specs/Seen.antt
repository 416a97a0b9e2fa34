-- What contracts see of a task, and of the world that tasks run on.
use Rattle.std.specs.Prelude.{ℕ, Bool, List}
use Rattle.fan_base.specs.declared.number.ExecId.{ExecId}
use Rattle.core_word.specs.Count.{Counts}
use Rattle.core_word.specs.Seen.{SeenProducer}
use Rattle.core_cells.specs.Seen.{SeenCells, SeenPass}
use Rattle.fan_parts.specs.declared.jobs.GatherJob.{GatherJob}
use Rattle.fan_parts.specs.Seen.{AskSeen, PosterSeen}

-- the producer of a task's core, its query, its shard, and the executor that it runs on
pub record TaskSeen : Type 0 where
  pub producer : SeenProducer
  pub ask : AskSeen
  pub shard : ℕ
  pub exec : ExecId

-- The posters to the gathering bases, by base; the cells of the tasks' cores, and a pass of them; what became of cores; and whether memory was refused.
pub record WorldSeen (N : Type 0) : Type 0 where
  pub posters : List (PosterSeen (GatherJob N))
  pub cells : SeenCells
  pub pass : SeenPass
  pub tally : Counts
  pub refused : Bool
