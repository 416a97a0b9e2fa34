-- What the report of a finished run says.
use Rattle.std.specs.Prelude.{◌≡◌, ℕ, List, [], ◌++◌, Bool, false, length, Option}
use Rattle.std.specs.List.{sum_by}
use Rattle.query_model.specs.declared.line.Line.{Line}
use Rattle.fan_model.specs.Answered.{answered_in, is_stopped}
use Rattle.fan_model.specs.Tasks.{Run, early_runs, late_runs}
use Rattle.fan_model.specs.Totals.{Totals, core_totals}
use Rattle.fan_model.specs.Notes.{Note, notes_of}

-- What a run was asked to do: the lines of its input, the numbers of shards, workers and gathering bases, and the stop point.
pub record Asking : Type 0 where
  pub lines : List Line
  pub shards : ℕ
  pub workers : ℕ
  pub bases : ℕ
  pub stop_at : Option ℕ

-- each of these runs once, in any order: however runs are weighed, both lists weigh the same
pub record IsEachOnce (expected runs : List Run) : Type 0 where
  pub weigh : (weight : Run → ℕ) → sum_by weight runs ≡ sum_by weight expected

-- What is told of the pool: how many tasks it accepted, what it ran, whether it was stopped, what it handed back and the front ran, and what the
-- front ran of late tasks.
pub record PoolTold : Type 0 where
  pub accepted : ℕ
  pub ran : List Run
  pub stopped : Bool
  pub returned : List Run
  pub direct : List Run

pub record IsPoolReport (asked : Asking) (told : PoolTold) : Type 0 where
  pub accepted : told.accepted ≡ length (early_runs asked.lines asked.shards asked.stop_at)
  pub early : IsEachOnce (early_runs asked.lines asked.shards asked.stop_at) (told.ran ++ told.returned)
  pub late : IsEachOnce (late_runs asked.lines asked.shards asked.bases asked.stop_at) told.direct
  pub stopped : told.stopped ≡ is_stopped asked.stop_at (answered_in asked.lines)
  pub joined : told.stopped ≡ false → told.returned ≡ []

-- the report of a run that wrote all replies, or of which a write failed
pub record IsReport (asked : Asking) (told : PoolTold) (notes : List Note) (totals : Totals) : Type 0 where
  pub pool : IsPoolReport asked told
  pub queues : notes ≡ notes_of asked.lines asked.shards asked.bases
  pub cores : totals ≡ core_totals asked.lines asked.shards
