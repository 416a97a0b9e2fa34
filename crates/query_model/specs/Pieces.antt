-- How the bytes of an input are cut into pieces, and a piece into fields.
use Rattle.std.specs.Prelude.{ℕ, List, [], ◌∷◌, Bool, true, ◌==◌, ◌&&◌, not, nat_lt, nat_le, length, filter, find, Option, Some, None, if◌then◌else◌}
use Rattle.std.specs.List.{slice_split, onto_first}
use Rattle.std.specs.Cmp.Lexicographic.{pointwise}

abbrev pub Bytes : Type 0
Bytes = List ℕ

abbrev pub line_feed : ℕ
line_feed = 10

abbrev pub space : ℕ
space = 32

-- The bytes are cut at each line feed. What follows the last one is a piece only where it isn't empty.
unfoldable pub pieces : Bytes → List Bytes
pieces [] = []
pieces (b ∷ bs) = if b == line_feed then [] ∷ pieces bs else onto_first b (pieces bs)

-- whether a line is a comment, by its first byte that isn't a space, or has no such byte
abbrev pub says_nothing : Option ℕ → Bool
says_nothing None = true
says_nothing (Some b) = b == 35

-- A line is skipped where it is empty or has only spaces, and where its first byte that isn't a space is `#`.
abbrev pub is_skipped : Bytes → Bool
is_skipped line = says_nothing (find (λ b. not (b == space)) line)

-- printable ASCII
abbrev pub is_printable : ℕ → Bool
is_printable b = nat_le 0x20 b && nat_le b 0x7E

abbrev pub is_some_text : Bytes → Bool
is_some_text text = nat_lt 0 (length text)

-- The fields of a line: the longest runs of bytes that aren't spaces.
unfoldable pub fields : Bytes → List Bytes
fields line = filter is_some_text (slice_split (λ b. b == space) line)

-- whether a field is this text
abbrev pub is_text : Bytes → Bytes → Bool
is_text text field = pointwise ◌==◌ field text
