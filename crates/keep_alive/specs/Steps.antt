-- How a view is cut in two, and what each kind of step tells.
use Rattle.std.specs.Prelude.{◌≡◌, ◌≢◌, ℕ, ◌+◌, ◌-◌, ◌≤◌}
use mathlib.Core.Option.{Option, none, some}
use Rattle.atomic_table.specs.Table.{Me, Step}
use Rattle.keep_alive.specs.declared.view.View.{View}
use Rattle.keep_alive.specs.declared.view.View.TheVariants.{Making, Owner, Token, Offering, Copying, Released, Left, Closed, Clash, Spent}

abbrev pub kept_part : View → View
kept_part (Making room) = Owner
kept_part (Copying kept given whole) = Token kept whole
kept_part Owner = Owner
kept_part (Token room whole) = Token room whole
kept_part (Offering kept given whole) = Offering kept given whole
kept_part (Released found) = Released found
kept_part Left = Left
kept_part Closed = Closed
kept_part Clash = Clash
kept_part Spent = Spent

abbrev pub given_part : View → View
given_part (Making room) = Token room room
given_part (Copying kept given whole) = Token given whole
given_part Owner = Spent
given_part (Token room whole) = Spent
given_part (Offering kept given whole) = Spent
given_part (Released found) = Spent
given_part Left = Spent
given_part Closed = Spent
given_part Clash = Spent
given_part Spent = Spent

abbrev Mine : Type 0
Mine = Me ℕ View

abbrev pub said_or : Option ℕ → ℕ → ℕ
said_or (some x) _ = x
said_or none y = y

-- a token sets aside so much room for its copy
abbrev pub offered : ℕ → View → View
offered given (Token room whole) = Offering (room - (given + 1)) given whole
offered given v = v

-- the copy is counted
abbrev pub copied : View → View
copied (Offering kept given whole) = Copying kept given whole
copied v = v

abbrev pub offers : Step ℕ → Mine → ℕ → Mine → Type 0
offers st me found after = after ≡ (offered (said_or st.said 0) me.0, me.1)

abbrev pub copies : Step ℕ → Mine → ℕ → Mine → Type 0
copies st me found after = after ≡ (copied me.0, me.1)

-- the count found is at most 2, and 1 for each token that the room which this one has no more can have made
abbrev pub IsWithinRoom : ℕ → View → Type 0
IsWithinRoom found (Token room whole) = found + room ≤ 2 + whole
IsWithinRoom found (Making _) = Unit {0}
IsWithinRoom found Owner = Unit {0}
IsWithinRoom found (Offering _ _ _) = Unit {0}
IsWithinRoom found (Copying _ _ _) = Unit {0}
IsWithinRoom found (Released _) = Unit {0}
IsWithinRoom found Left = Unit {0}
IsWithinRoom found Closed = Unit {0}
IsWithinRoom found Clash = Unit {0}
IsWithinRoom found Spent = Unit {0}

-- a token is released, and its seat keeps the count that was found, which counts that token
abbrev pub releases : Step ℕ → Mine → ℕ → Mine → Type 0
releases st me found after = (1 ≤ found) × IsWithinRoom found me.0 × (after ≡ (Released found, me.1))

abbrev pub leaves : Step ℕ → Mine → ℕ → Mine → Type 0
leaves st me found after = after ≡ (Left, me.1)

-- the owner has found 0, or looks again
abbrev pub watches : Step ℕ → Mine → ℕ → Mine → Type 0
watches st me found after = (found ≡ 0 → after ≡ (Closed, me.1)) × (found ≢ 0 → after ≡ me)
