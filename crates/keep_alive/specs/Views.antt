-- What a seat at the count knows, in numbers.
use Rattle.std.specs.Prelude.{◌≡◌, ℕ, ◌+◌}
use Rattle.keep_alive.specs.declared.view.View.{View}
use Rattle.keep_alive.specs.declared.view.View.TheVariants.{Making, Owner, Token, Offering, Copying, Released, Left, Closed, Clash, Spent}

abbrev pub tokens_of : View → ℕ
tokens_of (Making _) = 1
tokens_of Owner = 0
tokens_of (Token _ _) = 1
tokens_of (Offering _ _ _) = 1
tokens_of (Copying _ _ _) = 2
tokens_of (Released _) = 0
tokens_of Left = 0
tokens_of Closed = 0
tokens_of Clash = 1
tokens_of Spent = 0

abbrev pub room_of : View → ℕ
room_of (Making room) = room
room_of Owner = 0
room_of (Token room whole) = room
room_of (Offering kept given whole) = (kept + given) + 1
room_of (Copying kept given whole) = kept + given
room_of (Released _) = 0
room_of Left = 0
room_of Closed = 0
room_of Clash = 0
room_of Spent = 0

abbrev pub owner_of : View → ℕ
owner_of (Making _) = 1
owner_of Owner = 1
owner_of (Token _ _) = 0
owner_of (Offering _ _ _) = 0
owner_of (Copying _ _ _) = 0
owner_of (Released _) = 0
owner_of Left = 0
owner_of Closed = 0
owner_of Clash = 0
owner_of Spent = 0

abbrev pub released_of : View → ℕ
released_of (Making _) = 0
released_of Owner = 0
released_of (Token _ _) = 0
released_of (Offering _ _ _) = 0
released_of (Copying _ _ _) = 0
released_of (Released _) = 1
released_of Left = 0
released_of Closed = 0
released_of Clash = 0
released_of Spent = 0

-- the count is 0 for good: its owner has found 0 after it left, or a release found 1
abbrev pub HasFoundNone : View → Type 0
HasFoundNone (Making _) = ⊥
HasFoundNone Owner = ⊥
HasFoundNone (Token _ _) = ⊥
HasFoundNone (Offering _ _ _) = ⊥
HasFoundNone (Copying _ _ _) = ⊥
HasFoundNone (Released found) = found ≡ 1
HasFoundNone Left = ⊥
HasFoundNone Closed = Unit {0}
HasFoundNone Clash = Unit {0}
HasFoundNone Spent = ⊥

-- the room of the count's first token, as a token knows it
abbrev pub whole_of : View → ℕ
whole_of (Making room) = room
whole_of Owner = 0
whole_of (Token _ whole) = whole
whole_of (Offering _ _ whole) = whole
whole_of (Copying _ _ whole) = whole
whole_of (Released _) = 0
whole_of Left = 0
whole_of Closed = 0
whole_of Clash = 0
whole_of Spent = 0

-- a token knows the room with which the count began
abbrev pub KnowsWhole : ℕ → View → Type 0
KnowsWhole whole (Making room) = room ≡ whole
KnowsWhole whole Owner = Unit {0}
KnowsWhole whole (Token _ known) = known ≡ whole
KnowsWhole whole (Offering _ _ known) = known ≡ whole
KnowsWhole whole (Copying _ _ known) = known ≡ whole
KnowsWhole whole (Released _) = Unit {0}
KnowsWhole whole Left = Unit {0}
KnowsWhole whole Closed = Unit {0}
KnowsWhole whole Clash = Unit {0}
KnowsWhole whole Spent = Unit {0}
