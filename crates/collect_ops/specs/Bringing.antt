-- What bringing outcomes to an owned desk answers.
use Rattle.std.specs.Prelude.{◌≡◌, ℕ, true, false, Bool, List, Some, length, replicate, slice_get, slice_index_or, slice_set}
use Rattle.fan_base.specs.declared.outcome.Try.{Try}
use Rattle.collect_ops.specs.declared.owned.Brought.{Brought}
use Rattle.collect_ops.specs.declared.owned.Brought.TheVariants as brought
use Rattle.collect_ops.specs.Answers.{KeptBy}
use Rattle.collect_ops.specs.Seen.{OwnedSeen, ReceiptSeen}

-- a desk of this size with this end, at which nothing has arrived
pub record IsNewOwned {E : Type 0} (size : ℕ) (end : E) (desk : OwnedSeen E) : Type 0 where
  pub size_is : desk.desk.size ≡ size
  pub end_is : desk.desk.end ≡ Some end
  pub all : desk.awaited ≡ replicate size true

-- whether the outcome of this index is awaited
abbrev pub awaits : {E : Type 0} → OwnedSeen E → ℕ → Bool
awaits desk index = slice_index_or desk.awaited index false

-- The outcome of this index was awaited, and was the last: here are all by index, this one among them, and the desk's end.
pub record CompletesOwned {X E : Type 0} (desk : OwnedSeen E) (index : ℕ) (outcome : X) (list : List X) (end : E) : Type 0 where
  pub awaited : awaits desk index ≡ true
  pub long : length list ≡ desk.desk.size
  pub own : slice_get list index ≡ Some outcome
  pub end_is : desk.desk.end ≡ Some end

-- The outcome of this index was awaited, and isn't any more. It is kept, as the receipt of its arrival shows, which found more left than itself.
pub record KeepsOwned {X E : Type 0} (desk : OwnedSeen E) (index : ℕ) (outcome : X) (new : OwnedSeen E) (receipt : ReceiptSeen X E) : Type 0 where
  pub awaited : awaits desk index ≡ true
  pub kept : KeptBy (record { desk = desk.desk; index = index }) outcome receipt
  pub left : new ≡ record { desk = desk.desk; awaited = slice_set desk.awaited index false }

-- The outcome of this index had come before: it comes back, and the desk is as it was.
pub record ReturnsOwned {X E : Type 0} (desk : OwnedSeen E) (index : ℕ) (outcome : X) (new : OwnedSeen E) (returned : X) : Type 0 where
  pub came : awaits desk index ≡ false
  pub same : new ≡ desk
  pub back : returned ≡ outcome

-- what an outcome of this index at an owned desk answers
abbrev pub IsBroughtTo : {T E : Type 0} → OwnedSeen E → ℕ → Try T → Brought T E → Type 0
IsBroughtTo desk index outcome (brought.Complete list end) = CompletesOwned desk index outcome list end
IsBroughtTo desk index outcome (brought.More new receipt) = KeepsOwned desk index outcome new receipt
IsBroughtTo desk index outcome (brought.Back new returned) = ReturnsOwned desk index outcome new returned
