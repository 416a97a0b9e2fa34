-- How a part is brought to its desk.
use Rattle.std.specs.Prelude.{◌≡◌, ℕ, ◌<◌, List, Option, Some, None, Result, Ok, Err, IfSome, length, slice_get}
use Rattle.fan_base.specs.declared.outcome.Try.{Try}
use Rattle.collect_ops.specs.Answers.{KeptBy}
use Rattle.collect_ops.specs.Seen.{OwnedSeen, ReceiptSeen}
use Rattle.fan_parts.specs.Seen.{EndSeen, PartSeen}
use Rattle.run_gathering.specs.declared.table.Awaited.{Awaited}
use Rattle.run_gathering.specs.declared.table.Awaited.TheVariants as awaited
use Rattle.run_gathering.specs.declared.table.PartBrought.{PartBrought}
use Rattle.run_gathering.specs.declared.table.PartBrought.TheVariants as brought
use Rattle.run_gathering.specs.Awaited.{AwaitedSeen, Awaits, IsAwaited, IsOfQuery, IsRow, TableSeen, all_awaited, awaited_at, awaited_in, place_of, with_at, without_shard}

-- The part of this query and this shard was awaited, and at the query's place this is awaited since.
pub record WasAwaited (number shard : ℕ) (old : TableSeen) (since : AwaitedSeen → Option AwaitedSeen) (new : TableSeen) : Type 0 where
  pub awaited : AwaitedSeen
  pub stood : awaited_at old (place_of old number) ≡ Some awaited
  pub awaits : Awaits number shard awaited
  pub left : new ≡ with_at (place_of old number) (since awaited) old

-- The part of this query and this shard isn't awaited, and the table stays as it was.
pub record AwaitsNone (number shard : ℕ) (old new : TableSeen) : Type 0 where
  pub lacks : IfSome (awaited_at old (place_of old number)) (λ awaited. Awaits number shard awaited → ⊥)
  pub same : new ≡ old

-- Nothing is awaited of this query, and the table stays as it was.
pub record OfNone (number : ℕ) (old new : TableSeen) : Type 0 where
  pub lacks : IfSome (awaited_at old (place_of old number)) (λ awaited. awaited.number ≡ number → ⊥)
  pub same : new ≡ old

-- This was awaited of this query, and nothing is awaited at its place since.
pub record TakesOf {N : Type 0} (number : ℕ) (old : TableSeen) (taken : Awaited N) (new : TableSeen) : Type 0 where
  pub stood : awaited_at old (place_of old number) ≡ awaited_in old.shards taken
  pub row : IsRow old.shards taken
  pub of : IsOfQuery number taken
  pub place : place_of old number < length old.queries
  pub left : new ≡ with_at (place_of old number) None old

-- This desk is that of this query, whose parts were awaited as they are at it, and nothing is awaited at its place since.
pub record TakesDesk (number : ℕ) (old : TableSeen) (desk : OwnedSeen EndSeen) (new : TableSeen) : Type 0 where
  pub awaited : AwaitedSeen
  pub stood : awaited_at old (place_of old number) ≡ Some awaited
  pub is : awaited ≡ record { number = number; end = desk.desk.end; shards = desk.awaited }
  pub size : desk.desk.size ≡ old.shards
  pub row : IsAwaited old.shards awaited
  pub place : place_of old number < length old.queries
  pub left : new ≡ with_at (place_of old number) None old

-- All parts of this query were awaited, this is its desk's end, and nothing is awaited at its place since.
pub record TakesEnd (number : ℕ) (old : TableSeen) (end : EndSeen) (new : TableSeen) : Type 0 where
  pub stood : awaited_at old (place_of old number) ≡ Some (all_awaited old.shards end)
  pub of : end.ask.number ≡ number
  pub left : new ≡ with_at (place_of old number) None old

-- what was taken where the desk of this query was asked for
abbrev pub IsDeskTaken : ℕ → TableSeen → Option (Result (OwnedSeen EndSeen) EndSeen) → TableSeen → Type 0
IsDeskTaken number old None new = OfNone number old new
IsDeskTaken number old (Some (Ok desk)) new = TakesDesk number old desk new
IsDeskTaken number old (Some (Err end)) new = TakesEnd number old end new

-- The part was the last that was awaited of its query: these are all, it stands among them by its shard, and nothing of the query is awaited since.
pub record CompletesQuery (number shard : ℕ) (outcome : Try PartSeen) (old new : TableSeen) (parts : List (Try PartSeen)) (end : EndSeen) : Type 0 where
  pub was : WasAwaited number shard old (λ _. None) new
  pub end_is : was.awaited.end ≡ Some end
  pub as_many : length parts ≡ old.shards
  pub own : slice_get parts shard ≡ Some outcome

-- The part is kept at a desk with its query's end, as the receipt of its arrival shows, which found more left than itself; it isn't awaited since.
pub record KeepsPart (number shard : ℕ) (outcome : Try PartSeen) (old new : TableSeen) (receipt : ReceiptSeen (Try PartSeen) EndSeen) : Type 0 where
  pub was : WasAwaited number shard old (λ awaited. Some (without_shard shard awaited)) new
  pub at_end : receipt.desk.end ≡ was.awaited.end
  pub kept : KeptBy (record { desk = receipt.desk; index = shard }) outcome receipt

-- All parts of its query were awaited, and there was no memory for its desk: nothing is awaited of it since.
pub record RefusesQuery (number shard : ℕ) (old new : TableSeen) (end : EndSeen) : Type 0 where
  pub was : WasAwaited number shard old (λ _. None) new
  pub all : was.awaited ≡ all_awaited old.shards end
  pub end_is : was.awaited.end ≡ Some end

module _ {N : Type 0} where
  -- What was awaited of this query was taken from its place; or nothing was, and the table stays as it was.
  abbrev pub IsTaken : ℕ → TableSeen → Awaited N → TableSeen → Type 0
  IsTaken number old awaited.Nothing new = OfNone number old new
  IsTaken number old (awaited.All end) new = TakesOf {N = N} number old (awaited.All end) new
  IsTaken number old (awaited.Rest of desk) new = TakesOf {N = N} number old (awaited.Rest of desk) new

  -- what became of the part of this query and this shard
  abbrev pub IsBrought : ℕ → ℕ → Try PartSeen → TableSeen → TableSeen → PartBrought N → Type 0
  IsBrought number shard outcome old new (brought.Complete parts end) = CompletesQuery number shard outcome old new parts end
  IsBrought number shard outcome old new (brought.Kept receipt) = KeepsPart number shard outcome old new receipt
  IsBrought number shard outcome old new (brought.Refused end) = RefusesQuery number shard old new end
  IsBrought number shard outcome old new brought.Unawaited = AwaitsNone number shard old new

  -- where it was the last there are so many
  abbrev pub HasAllParts : ℕ → PartBrought N → Type 0
  HasAllParts count (brought.Complete parts end) = length parts ≡ count
  HasAllParts count (brought.Kept receipt) = Unit {0}
  HasAllParts count (brought.Refused end) = Unit {0}
  HasAllParts count brought.Unawaited = Unit {0}
