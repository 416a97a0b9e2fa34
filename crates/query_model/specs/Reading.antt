-- What is accepted, and what is refused, with which line and kind.
use Rattle.std.specs.Prelude.{ℕ, ◌+◌, ◌≡◌, List, ◌∷◌, ◌++◌, length, take, slice_get, Option, Some, Ok, Err}
use Rattle.std.specs.List.{filter_map}
use Rattle.query_model.specs.declared.line.Line.{Line}
use Rattle.query_model.specs.declared.line.Input.{Input}
use Rattle.query_model.specs.declared.fault.BadInput.{BadInput}
use Rattle.query_model.specs.Pieces.{Bytes, pieces}
use Rattle.query_model.specs.Lines.{LineBehind}

-- the lines among what pieces stand for: a piece that is skipped stands for none
abbrev pub kept : List (Option Line) → List Line
kept marks = filter_map (λ mark. mark) marks

-- The pieces stand for these lines or for none: as many, and each for what it gives behind the lines before it.
pub record StandFor (shards : ℕ) (ps : List Bytes) (marks : List (Option Line)) : Type 0 where
  pub as_many : length marks ≡ length ps
  pub each : (place : ℕ) (piece : Bytes) (mark : Option Line) → slice_get ps place ≡ Some piece → slice_get marks place ≡ Some mark →
      LineBehind shards (kept (take place marks)) piece (Ok mark)

-- The bytes are accepted as this input: each of their pieces is skipped or stands for one line, and these are its lines.
pub record Accepts (bytes : Bytes) (shards : ℕ) (input : Input) : Type 0 where
  pub marks : List (Option Line)
  pub stand : StandFor shards (pieces bytes) marks
  pub lines : input.lines ≡ kept marks

-- The first piece with an unmet check: those before it stand for lines or none, and behind these it gives a kind of refusal.
pub record IsFirstUnmet (shards : ℕ) (ps : List Bytes) (bad : BadInput) : Type 0 where
  pub before : List Bytes
  pub piece : Bytes
  pub after : List Bytes
  pub cut : ps ≡ before ++ piece ∷ after
  pub number : bad.line ≡ length before + 1
  pub marks : List (Option Line)
  pub stand : StandFor shards before marks
  pub unmet : LineBehind shards (kept marks) piece (Err bad.kind)

-- The bytes are refused, with this line and kind.
abbrev pub Refuses : Bytes → ℕ → BadInput → Type 0
Refuses bytes shards bad = IsFirstUnmet shards (pieces bytes) bad
