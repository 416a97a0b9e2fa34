-- What became of the bytes that were read so far.
use Rattle.std.specs.Prelude.{ℕ, ◌≡◌, ◌==◌, ◌≤◌, [], ◌∷◌, ◌++◌, length, false}
use Rattle.std.specs.List.{list_any}
use Rattle.query_model.specs.Pieces.{Bytes, line_feed}
use Rattle.query_model.specs.Reading.{Refuses}
use Rattle.query_text.specs.Progress.{EndsLine, HasReadText}
use Rattle.input_reader.specs.declared.text.ReadLines.{ReadLines}
use Rattle.input_reader.specs.declared.text.ReadLines.TheVariants.{UpTo, Refused}
use Rattle.input_reader.specs.declared.text.TextSoFar.{TextSoFar}

-- a line feed is the last byte of a text
abbrev pub EndsInFeed : Bytes → Type 0
EndsInFeed text = (front : Bytes) × (text ≡ front ++ line_feed ∷ [])

-- no line feed is among these bytes
abbrev pub HasNoFeed : Bytes → Type 0
HasNoFeed bytes = list_any (λ b. b == line_feed) bytes ≡ false

-- The text is that of the lines that were read, and then the line that is open. Or it is refused, whatever comes behind it, and nothing of it is kept.
abbrev pub IsReadAs : ℕ → Bytes → Bytes → ReadLines → Type 0
IsReadAs shards text tail (UpTo reading) = (closed : Bytes) × (text ≡ closed ++ tail) × EndsLine closed × HasReadText shards closed reading × (reading.number ≤ length closed) × HasNoFeed tail
IsReadAs shards text tail (Refused bad) = (tail ≡ []) × ((rest : Bytes) → Refuses (text ++ rest) shards bad)

-- this is what was read of a text
pub record IsTextSoFar (shards : ℕ) (text : Bytes) (t : TextSoFar) : Type 0 where
  pub len_is : t.len ≡ length text
  pub read : IsReadAs shards text t.tail.items t.lines
