-- The tables of a run, and a query that is awaited in one.
use Rattle.std.specs.Prelude.{◌≡◌, ℕ, ◌<◌, List, Some, None, length}
use Rattle.fan_model.specs.Report.{Asking}
use Rattle.fan_parts.specs.Seen.{EndSeen}
use Rattle.run_gathering.specs.Awaited.{TableSeen, all_awaited, awaited_at, place_of, with_at}

-- one for each gathering base
pub record AreTablesOf (asked : Asking) (tables : List TableSeen) : Type 0 where
  pub as_many : length tables ≡ asked.bases

-- The table has a place for this query, and nothing is awaited there.
pub record HasRoomFor (number : ℕ) (table : TableSeen) : Type 0 where
  pub place : place_of table number < length table.queries
  pub empty : awaited_at table (place_of table number) ≡ None

-- the table that awaits all parts of the query with this end too
abbrev pub with_query : EndSeen → TableSeen → TableSeen
with_query end table = with_at (place_of table end.ask.number) (Some (all_awaited table.shards end)) table
