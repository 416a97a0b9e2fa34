-- How far the reading of an input has come.
use Rattle.std.specs.Prelude.{ℕ, ◌≡◌, ◌+◌, ◌⊎◌, List, [], ◌∷◌, ◌++◌, Option, length}
use Rattle.query_model.specs.declared.line.Line.{Line}
use Rattle.query_model.specs.Pieces.{Bytes, line_feed, pieces}
use Rattle.query_model.specs.Reading.{StandFor, kept}

-- the lines that were read, and of how many pieces
pub record ReadSoFar : Type 0 where
  pub lines : List Line
  pub number : ℕ

-- no line of a text is left open: it is empty, or ends with a line feed
abbrev pub EndsLine : Bytes → Type 0
EndsLine text = (text ≡ []) ⊎ ((front : Bytes) × (text ≡ front ++ line_feed ∷ []))

-- a text was read, and so far nothing of it is refused: its pieces stand for these lines, and they are so many
pub record HasReadText (shards : ℕ) (text : Bytes) (read : ReadSoFar) : Type 0 where
  pub marks : List (Option Line)
  pub stand : StandFor shards (pieces text) marks
  pub lines_are : read.lines ≡ kept marks
  pub number_is : read.number ≡ length (pieces text)

-- Behind what was read first, the pieces before those that are left stand for the lines that came, and so many were read: whatever pieces stood for
-- what was read first.
pub record HasRead (shards : ℕ) (all left : List Bytes) (first now : ReadSoFar) : Type 0 where
  pub done : List Bytes
  pub marks : List (Option Line)
  pub cut : all ≡ done ++ left
  pub stand : (ps : List Bytes) (before : List (Option Line)) → StandFor shards ps before → first.lines ≡ kept before → StandFor shards (ps ++ done) (before ++ marks)
  pub lines_are : now.lines ≡ first.lines ++ kept marks
  pub number_is : now.number ≡ first.number + length done
