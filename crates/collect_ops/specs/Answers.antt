-- What arrivals answer: the four tables, by the outcome and by the word that the arrival found.
use Rattle.std.specs.Prelude.{◌≡◌, ◌<◌, ◌≤◌, ℕ, zero, suc, ◌+◌, List, [], length, slice_get, Option, Some, None}
use Rattle.fan_base.specs.declared.outcome.Try.{Try}
use Rattle.fan_base.specs.declared.outcome.Try.TheVariants as try
use Rattle.collect_ops.specs.declared.answer.Arrived.{Arrived}
use Rattle.collect_ops.specs.declared.answer.Arrived.TheVariants as arrived
use Rattle.collect_ops.specs.declared.answer.Reason.{Reason}
use Rattle.collect_ops.specs.declared.answer.Reason.TheVariants as reason
use Rattle.collect_ops.specs.declared.answer.AllValues.{AllValues}
use Rattle.collect_ops.specs.declared.answer.AllValues.TheVariants as values
use Rattle.collect_ops.specs.declared.answer.FirstValue.{FirstValue}
use Rattle.collect_ops.specs.declared.answer.FirstValue.TheVariants as first
use Rattle.collect_ops.specs.Seen.{ArrivalSeen, ReceiptSeen, LostSeen, CompletedSeen}

-- what an arrival does with its outcome: it leaves it in its slot and counts down, or it claims the end
pub data Act : Type 0 where
  keep : Act
  claim : Act
  -- it counts a fault, which it doesn't keep
  count : Act

abbrev pub all_act : {T : Type 0} → Try T → Act
all_act outcome = keep

abbrev pub values_act : {T : Type 0} → Try T → Act
values_act (try.Value x) = keep
values_act try.Broken = claim
values_act try.Memory = claim
values_act (try.Cancelled n) = claim

abbrev pub any_act : {T : Type 0} → Try T → Act
any_act outcome = claim

abbrev pub any_value_act : {T : Type 0} → Try T → Act
any_value_act (try.Value x) = claim
any_value_act try.Broken = count
any_value_act try.Memory = count
any_value_act (try.Cancelled n) = count

-- what an arrival answers
pub data Answer : Type 0 where
  complete : Answer
  back : Answer
  more : Answer

-- the answer by the word found: the count, or the claim word
abbrev pub answer : Act → ℕ → Answer
answer keep zero = more
answer keep (suc zero) = complete
answer keep (suc (suc n)) = more
answer claim zero = complete
answer claim (suc n) = back
answer count zero = back
answer count (suc zero) = complete
answer count (suc (suc n)) = back

abbrev pub all_answer : {T : Type 0} → Try T → ℕ → Answer
all_answer outcome found = answer (all_act outcome) found

abbrev pub values_answer : {T : Type 0} → Try T → ℕ → Answer
values_answer outcome found = answer (values_act outcome) found

abbrev pub any_answer : {T : Type 0} → Try T → ℕ → Answer
any_answer outcome found = answer (any_act outcome) found

abbrev pub any_value_answer : {T : Type 0} → Try T → ℕ → Answer
any_value_answer outcome found = answer (any_value_act outcome) found

-- the word that the arrival found, by its receipt
abbrev pub found_by : {X E : Type 0} → Reason X E → ℕ
found_by (reason.Claimed lost) = lost.found
found_by (reason.Counted receipt) = receipt.found

module _ {V E T X : Type 0} where
  abbrev pub answer_of : Arrived V E T X → Answer
  answer_of (arrived.Complete value end done) = complete
  answer_of (arrived.Back outcome why) = back
  answer_of (arrived.More receipt) = more

  abbrev pub found_of : Arrived V E T X → ℕ
  found_of (arrived.Complete value end done) = done.found
  found_of (arrived.Back outcome why) = found_by why
  found_of (arrived.More receipt) = receipt.found

-- the next index, where an arrival was given or none was left
abbrev pub next_after : {A : Type 0} → Option A → ℕ → ℕ
next_after None next = next
next_after (Some arrival) next = next + 1

module _ {X E : Type 0} where
  -- The arrival was the last one. It has the outcomes by index, its own among them, and the desk's end.
  pub record Gathered (arrival : ArrivalSeen E) (outcome : X) (list : List X) (end : E) (done : CompletedSeen X E) : Type 0 where
    pub long : length list ≡ arrival.desk.size
    pub own : slice_get list arrival.index ≡ Some outcome
    pub end_is : arrival.desk.end ≡ Some end
    pub receipt : done ≡ record { desk = arrival.desk; index = arrival.index; found = 1; list = list }

  -- The arrival's outcome is kept, and its subtract found more left than itself.
  pub record KeptBy (arrival : ArrivalSeen E) (outcome : X) (receipt : ReceiptSeen X E) : Type 0 where
    pub is : receipt ≡ record { desk = arrival.desk; index = arrival.index; outcome = Some outcome; found = receipt.found }
    pub more : 1 < receipt.found
    pub within : receipt.found ≤ arrival.desk.size

  -- The arrival has claimed the desk's end.
  pub record ClaimedBy (arrival : ArrivalSeen E) (end : E) (done : CompletedSeen X E) : Type 0 where
    pub end_is : arrival.desk.end ≡ Some end
    pub receipt : done ≡ record { desk = arrival.desk; index = arrival.index; found = 0; list = [] }

-- The arrival found that another had claimed.
abbrev pub LostBy : {E : Type 0} → ArrivalSeen E → LostSeen E → Type 0
LostBy arrival lost = lost ≡ record { desk = arrival.desk; index = arrival.index; found = 1 }

module _ {V E T X : Type 0} where
  -- a fact for each answer of an arrival
  abbrev pub MatchArrived : Arrived V E T X → (V → E → CompletedSeen X E → Type 0) → (Try T → Reason X E → Type 0) → (ReceiptSeen X E → Type 0) → Type 0
  MatchArrived (arrived.Complete value end done) Complete Back More = Complete value end done
  MatchArrived (arrived.Back outcome why) Complete Back More = Back outcome why
  MatchArrived (arrived.More receipt) Complete Back More = More receipt

module _ {X E : Type 0} where
  abbrev pub MatchReason : Reason X E → (LostSeen E → Type 0) → (ReceiptSeen X E → Type 0) → Type 0
  MatchReason (reason.Claimed lost) Claimed Counted = Claimed lost
  MatchReason (reason.Counted receipt) Claimed Counted = Counted receipt

-- the outcome comes back, since another had claimed
abbrev pub IsBack : {X T E : Type 0} → ArrivalSeen E → Try T → Try T → Reason X E → Type 0
IsBack arrival outcome returned (reason.Claimed lost) = (returned ≡ outcome) × LostBy arrival lost
IsBack arrival outcome returned (reason.Counted receipt) = ⊥

-- a value comes back, since another had claimed; or a fault, since more faults were left
abbrev pub ComesBack : {X T E : Type 0} → ArrivalSeen E → Try T → Try T → Reason X E → Type 0
ComesBack arrival outcome returned (reason.Claimed lost) = (any_value_act outcome ≡ claim) × (returned ≡ outcome) × LostBy arrival lost
ComesBack arrival outcome returned (reason.Counted receipt) = (any_value_act outcome ≡ count) × (returned ≡ outcome) × (receipt.desk ≡ arrival.desk) × (receipt.index ≡ arrival.index) × (1 < receipt.found) × (receipt.found ≤ arrival.desk.size)

-- a value is kept
abbrev pub KeepsValue : {T E : Type 0} → ArrivalSeen E → Try T → ReceiptSeen T E → Type 0
KeepsValue arrival outcome receipt = (value : _) × (outcome ≡ try.Value value) × KeptBy arrival value receipt

-- all values by index, at the last value; or the first fault, with its index
abbrev pub CompletesValues : {T E : Type 0} → ArrivalSeen E → Try T → AllValues T → E → CompletedSeen T E → Type 0
CompletesValues arrival outcome (values.Values list) end done = (value : _) × (outcome ≡ try.Value value) × Gathered arrival value list end done
CompletesValues arrival outcome (values.Fault index fault) end done = (index ≡ arrival.index) × (fault ≡ outcome) × ClaimedBy arrival end done

-- the first value, with its index; or the last fault, with its index, where all have come
abbrev pub CompletesFirst : {X T E : Type 0} → ArrivalSeen E → Try T → FirstValue T → E → CompletedSeen X E → Type 0
CompletesFirst arrival outcome (first.Value index value) end done = (index ≡ arrival.index) × (outcome ≡ try.Value value) × ClaimedBy arrival end done
CompletesFirst arrival outcome (first.AllFailed index fault) end done = (index ≡ arrival.index) × (fault ≡ outcome) × (done.desk ≡ arrival.desk) × (done.index ≡ arrival.index) × (done.found ≡ 1) × (arrival.desk.end ≡ Some end)
