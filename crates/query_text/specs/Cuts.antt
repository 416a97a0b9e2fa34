-- How the reader of fields and that of parts go on, and which bytes need no small letters.
use Rattle.std.specs.Prelude.{ℕ, ◌≡◌, ◌==◌, ◌&&◌, ◌||◌, [], ◌∷◌, Bool, true, false}
use Rattle.std.specs.Char.{to_ascii_lowercase}
use Rattle.query_model.specs.Expressions.{is_sign}
use Rattle.query_model.specs.Pieces.{Bytes, is_printable, space}

-- the text is empty or its first byte isn't a space
abbrev pub HasNoSpaceFirst : Bytes → Type 0
HasNoSpaceFirst [] = Unit {0}
HasNoSpaceFirst (b ∷ bs) = (b == space) ≡ false

-- a space or a sign
abbrev pub ends_run : ℕ → Bool
ends_run b = b == space || is_sign b

-- the text is empty or its first byte is one of these
abbrev pub IsAtEndOfRun : Bytes → Type 0
IsAtEndOfRun [] = Unit {0}
IsAtEndOfRun (b ∷ bs) = ends_run b ≡ true

-- a printable byte that is no capital letter
abbrev pub is_small : ℕ → Bool
is_small b = is_printable b && (to_ascii_lowercase b == b)
