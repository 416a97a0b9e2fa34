-- What a run is over.
use Rattle.std.specs.Prelude.{◌≡◌, ◌^◌, ℕ, ◌≤◌, List, All, Option}
use Rattle.query_model.specs.declared.line.Line.{Line}
use Rattle.query_model.specs.Alike.{AreAlike}
use Rattle.query_model.specs.Documents.{IsWithinLimits}
use Rattle.fan_model.specs.Report.{Asking}
use Rattle.fan_parts.specs.Facts.{IsCountable}
use Rattle.run_notes.specs.declared.counting.Counted.{Counted}
use Rattle.run_notes.specs.Counting.{HasCounted}
use Rattle.run_plan.specs.declared.turn.Turn.{Turn}
use Rattle.run_phases.specs.Phases.{StopsAt}
use Rattle.run_plan.specs.Turns.{AreTurnsOf}
use Rattle.fanout.specs.declared.run.Knobs.{Knobs}
use Rattle.fanout.specs.Asked.{AreKnobs}

-- the numbers fit where they are compared
pub record AreFew (counted : Counted) : Type 0 where
  pub answered : counted.answered ≤ 2 ^ 32
  pub tops : counted.tops ≤ 2 ^ 32
  pub by_base : All (λ count. count ≤ 2 ^ 32) counted.by_base.items

-- Lines that are alike to the run's, with the run's turns, how many queries are answered, where the pool is stopped, and how the run is to be made.
pub record IsPlanned (asked : Asking) (lines : List Line) (turns : List Turn) (counted : Counted) (stop : Option ℕ) (knobs : Knobs) : Type 0 where
  pub lines_are : AreAlike lines asked.lines
  pub limits : IsWithinLimits asked.lines asked.shards
  pub countable : IsCountable asked
  pub turns_are : AreTurnsOf asked.lines turns
  pub counts : HasCounted asked.lines asked.bases counted
  pub few : AreFew counted
  pub stops : StopsAt asked turns stop
  pub knobs_are : AreKnobs knobs
  pub workers_are : knobs.workers ≡ asked.workers
  pub bases_are : knobs.bases ≡ asked.bases
  pub stop_is : knobs.stop_at ≡ asked.stop_at

-- the turns of this run's queries, and behind how many of them its pool is stopped
pub record IsTimed (asked : Asking) (turns : List Turn) (stop : Option ℕ) : Type 0 where
  pub limits : IsWithinLimits asked.lines asked.shards
  pub turns_are : AreTurnsOf asked.lines turns
  pub stops : StopsAt asked turns stop
