-- What the tables of the gathering bases await, once all queries are awaited.
use Rattle.std.specs.Prelude.{◌≡◌, ℕ, ◌+◌, ◌/◌, ◌<◌, List, Some, length, slice_get}
use Rattle.fan_base.specs.declared.number.ExecId.{ExecId}
use Rattle.query_model.specs.Order.{Asked}
use Rattle.fan_model.specs.Comings.{Coming, ComesAt, comings_of}
use Rattle.fan_model.specs.Notes.{base_of}
use Rattle.fan_model.specs.Report.{Asking}
use Rattle.fan_parts.specs.Seen.{EndSeen}
use Rattle.run_gathering.specs.Awaited.{AwaitedSeen, TableSeen, all_awaited, awaited_at, place_of}

-- a table over this run's bases and shards
abbrev pub IsTableOf : Asking → TableSeen → Type 0
IsTableOf asked table = (table.bases ≡ asked.bases) × (table.shards ≡ asked.shards)

-- All parts of this query are awaited at its place, for a desk with this query's end.
pub record AwaitsQuery (asked : Asking) (number : ℕ) (table : TableSeen) : Type 0 where
  pub end : EndSeen
  pub number_is : end.ask.number ≡ number
  pub stands : awaited_at table (place_of table number) ≡ Some (all_awaited asked.shards end)

-- It is of a query that is begun before this place and is gathered on this base, and stands at the place of that query.
pub record IsOfBegun (asked : Asking) (until base at : ℕ) (table : TableSeen) (awaited : AwaitedSeen) : Type 0 where
  pub place : ℕ
  pub query : Asked
  pub before : place < until
  pub comes : ComesAt asked.lines place (Coming.begins query)
  pub number_is : awaited.number ≡ query.number
  pub on_base : base_of asked.bases query.number ≡ base
  pub at_is : at ≡ place_of table awaited.number

-- The table of this base, with a place for each query. All parts are awaited of the queries that are begun before this place and are gathered on this base, each at
-- its place, and nothing else.
pub record AwaitsBegun (asked : Asking) (until base : ℕ) (table : TableSeen) : Type 0 where
  pub of : IsTableOf asked table
  pub places : length table.queries ≡ length (comings_of asked.lines) / asked.bases + 1
  pub each : (place : ℕ) (query : Asked) → place < until → ComesAt asked.lines place (Coming.begins query) → base_of asked.bases query.number ≡ base
      → AwaitsQuery asked query.number table
  pub only : (at : ℕ) (awaited : AwaitedSeen) → awaited_at table at ≡ Some awaited → IsOfBegun asked until base at table awaited

-- each is the table of its base: the first that of base 1, and so on
pub record AreDealt (asked : Asking) (until : ℕ) (tables : List TableSeen) : Type 0 where
  pub each : (k : ℕ) (table : TableSeen) → slice_get tables k ≡ Some table → AwaitsBegun asked until (1 + k) table

-- the table of the base with this executor, which awaits all parts of the queries that are gathered there, and nothing else
abbrev pub AwaitsAll : Asking → ExecId → TableSeen → Type 0
AwaitsAll asked exec table = AwaitsBegun asked (length (comings_of asked.lines)) exec.0 table

-- each is the table of its base, which awaits all parts of the base's queries
abbrev pub AreAllDealt : Asking → List TableSeen → Type 0
AreAllDealt asked tables = AreDealt asked (length (comings_of asked.lines)) tables
