-- What a gathering base awaits of its queries.
use Rattle.std.specs.Prelude.{◌≡◌, ℕ, ◌/◌, true, false, Bool, List, Option, Some, None, length, replicate, slice_index_or, slice_set}
use Rattle.fan_parts.specs.Seen.{EndSeen}
use Rattle.run_gathering.specs.declared.table.Awaited.{Awaited}
use Rattle.run_gathering.specs.declared.table.Awaited.TheVariants as awaited

-- of which query parts are awaited, what its desk's end is, and of each shard whether its part is awaited
pub record AwaitedSeen : Type 0 where
  pub number : ℕ
  pub end : Option EndSeen
  pub shards : List Bool

-- what is awaited of the query at each place, and over how many bases and shards the places go
pub record TableSeen : Type 0 where
  pub queries : List (Option AwaitedSeen)
  pub bases : ℕ
  pub shards : ℕ

-- the part of this query and this shard is awaited
abbrev pub Awaits : ℕ → ℕ → AwaitedSeen → Type 0
Awaits number shard awaited = (awaited.number ≡ number) × (slice_index_or awaited.shards shard false ≡ true)

-- The place of a query: those of one base differ in the quotient of their numbers by the number of bases.
abbrev pub place_of : TableSeen → ℕ → ℕ
place_of table number = number / table.bases

-- what is awaited at a place: None where nothing is, or where there is no such place
abbrev pub awaited_at : TableSeen → ℕ → Option AwaitedSeen
awaited_at table place = slice_index_or table.queries place None

-- the table with this awaited at a place; the same table, where it has no such place
abbrev pub with_at : ℕ → Option AwaitedSeen → TableSeen → TableSeen
with_at place awaited table = record table { queries = slice_set table.queries place awaited }

-- all parts of the query with this end
abbrev pub all_awaited : ℕ → EndSeen → AwaitedSeen
all_awaited shards end = record { number = end.ask.number; end = Some end; shards = replicate shards true }

-- the same but for this shard
abbrev pub without_shard : ℕ → AwaitedSeen → AwaitedSeen
without_shard shard awaited = record awaited { shards = slice_set awaited.shards shard false }

-- What is awaited of a query: it has its end, and each shard's part is awaited or has come.
pub record IsAwaited (shards : ℕ) (awaited : AwaitedSeen) : Type 0 where
  pub as_many : length awaited.shards ≡ shards
  pub end : EndSeen
  pub end_is : awaited.end ≡ Some end
  pub number_is : end.ask.number ≡ awaited.number

module _ {N : Type 0} where
  abbrev pub awaited_in : ℕ → Awaited N → Option AwaitedSeen
  awaited_in shards awaited.Nothing = None
  awaited_in shards (awaited.All end) = Some (all_awaited shards end)
  awaited_in shards (awaited.Rest number desk) = Some (record { number = number; end = desk.desk.end; shards = desk.awaited })

  -- a desk for as many parts as there are shards, whose end is this query's
  abbrev pub IsRow : ℕ → Awaited N → Type 0
  IsRow shards awaited.Nothing = Unit {0}
  IsRow shards (awaited.All end) = Unit {0}
  IsRow shards (awaited.Rest number desk) = (desk.desk.size ≡ shards) × IsAwaited shards (record { number = number; end = desk.desk.end; shards = desk.awaited })

  -- something is awaited of the query with this number
  abbrev pub IsOfQuery : ℕ → Awaited N → Type 0
  IsOfQuery number awaited.Nothing = ⊥
  IsOfQuery number (awaited.All end) = end.ask.number ≡ number
  IsOfQuery number (awaited.Rest of desk) = of ≡ number
