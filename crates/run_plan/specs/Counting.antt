-- Queries that were counted so far.
use Rattle.std.specs.Prelude.{◌≡◌, ℕ, List, length, map}
use Rattle.std.specs.List.{range_with_len}
use Rattle.query_model.specs.declared.line.Line.{Line}
use Rattle.fan_model.specs.Answered.{tops_in}
use Rattle.run_notes.specs.declared.counting.Counted.{Counted}
use Rattle.run_notes.specs.Counting.{gathered_on}
use Rattle.run_plan.specs.Turns.{begun_between}

-- the numbers of the queries that are begun before a place
pub record HasCountedTo (lines : List Line) (bases place : ℕ) (counted : Counted) : Type 0 where
  pub answered : counted.answered ≡ length (begun_between lines 0 place)
  pub tops : counted.tops ≡ tops_in (begun_between lines 0 place)
  pub by_base : counted.by_base.items ≡ map (gathered_on bases (begun_between lines 0 place)) (range_with_len 1 bases)
