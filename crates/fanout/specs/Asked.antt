-- What a run is asked, and what it writes.
use Rattle.std.specs.Prelude.{◌≡◌, ℕ, ◌≤◌, List}
use Rattle.fan_base.specs.Outside.{Shown}
use Rattle.query_model.specs.declared.line.Input.{Input}
use Rattle.query_model.specs.declared.line.Line.{Line}
use Rattle.query_model.specs.Output.{output}
use Rattle.fan_model.specs.Report.{Asking}
use Rattle.run_ending.specs.declared.end.FanOutcome.{FanOutcome}
use Rattle.run_ending.specs.Ends.{WritesText}
use Rattle.fanout.specs.declared.run.Knobs.{Knobs}

-- the knobs are in their ranges
pub record AreKnobs (knobs : Knobs) : Type 0 where
  pub some_workers : 1 ≤ knobs.workers
  pub few_workers : knobs.workers ≤ 32
  pub some_bases : 1 ≤ knobs.bases
  pub few_bases : knobs.bases ≤ 8

-- what a run over these lines and so many shards is asked
abbrev pub asking_of : List Line → ℕ → Knobs → Asking
asking_of lines shards knobs = record { lines = lines; shards = shards; workers = knobs.workers; bases = knobs.bases; stop_at = knobs.stop_at }

-- the run over so many shards that these knobs make
pub record IsAskedBy (asked : Asking) (shards : ℕ) (knobs : Knobs) : Type 0 where
  pub shards_are : asked.shards ≡ shards
  pub workers_are : asked.workers ≡ knobs.workers
  pub bases_are : asked.bases ≡ knobs.bases
  pub stop_is : asked.stop_at ≡ knobs.stop_at

-- the same of all replies to an input
abbrev pub Writes : Input → Shown → Shown → FanOutcome → Type 0
Writes input start now end = WritesText (output input) start now end
