-- What contracts see of a desk, of its arrivals and of what they come to.
use Rattle.std.specs.Prelude.{ℕ, Bool, List, Option}
use Rattle.atomic_table.specs.Seated.{TableId}

-- which desk it is, how many outcomes it gathers, and what its completion hands out
pub record DeskId (E : Type 0) : Type 0 where
  pub table : TableId
  pub size : ℕ
  pub end : Option E

-- a desk, and whether its arrivals were taken
pub record DeskSeen (E : Type 0) : Type 0 where
  pub desk : DeskId E
  pub taken : Bool

-- the arrivals of a desk that weren't given yet: those from this index on
pub record ArrivalsSeen (E : Type 0) : Type 0 where
  pub desk : DeskId E
  pub next : ℕ

pub record ArrivalSeen (E : Type 0) : Type 0 where
  pub desk : DeskId E
  pub index : ℕ

-- A receipt of an arrival whose outcome was kept: its desk, its index, what was kept, and how many its subtract found left.
pub record ReceiptSeen (X E : Type 0) : Type 0 where
  pub desk : DeskId E
  pub index : ℕ
  pub outcome : Option X
  pub found : ℕ

-- A receipt of an arrival whose swap found another completion: its desk, its index, and the claim word found.
pub record LostSeen (E : Type 0) : Type 0 where
  pub desk : DeskId E
  pub index : ℕ
  pub found : ℕ

-- A receipt of the arrival that completed: its desk, its index, the word found, and where this was the count, the outcomes by index.
pub record CompletedSeen (X E : Type 0) : Type 0 where
  pub desk : DeskId E
  pub index : ℕ
  pub found : ℕ
  pub list : List X

-- What a closed desk hands out: for how many outcomes it was, its two words, the outcomes kept and never handed out, the lowest index first, and the end that nobody got.
pub record KeptSeen (X E : Type 0) : Type 0 where
  pub size : ℕ
  pub left : ℕ
  pub claimed : ℕ
  pub outcomes : List X
  pub end : Option E

-- A desk with all its arrivals: the desk, and of each index whether its outcome is awaited still.
pub record OwnedSeen (E : Type 0) : Type 0 where
  pub desk : DeskId E
  pub awaited : List Bool
