-- The cores of replies, as they are counted.
use Rattle.std.specs.Prelude.{◌≡◌, ℕ, List, [], ◌∷◌}
use Rattle.core_word.specs.Count.{Counts, raised}
use Rattle.query_model.specs.Order.{Asked}
use Rattle.fan_model.specs.Report.{Asking}
use Rattle.run_plan.specs.Turns.{begun_between}

-- so many cores were made, and one more for each of these queries
abbrev pub made_by : List Asked → ℕ → ℕ
made_by [] made = made
made_by (query ∷ queries) made = made_by queries (raised made)

-- The first numbers, with one core more that was made for each query that is begun from one place on and before another.
pub record HasMade (asked : Asking) (start place : ℕ) (first counts : Counts) : Type 0 where
  pub are : counts ≡ record first { made = made_by (begun_between asked.lines start place) first.made }
