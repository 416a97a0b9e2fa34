-- What the laws of fan_model say that a walk stands on.
use Rattle.std.specs.Prelude.{◌≡◌, ℕ, ◌+◌, List, [], ◌∷◌, ◌++◌, length, map, Some}
use Rattle.std.specs.List.{All, count_by, range_with_len, sum_by}
use mathlib.Core.List.{IsPrefix}
use Rattle.query_model.specs.declared.line.Line.{Line}
use Rattle.query_model.specs.declared.line.Line.TheVariants as line
use Rattle.query_model.specs.declared.line.Query.{Query}
use Rattle.query_model.specs.Documents.{IsLine, docs_of, queries_of}
use Rattle.query_model.specs.LineByLine.{next_asked}
use Rattle.query_model.specs.Lines.{is_query, ticks_of}
use Rattle.query_model.specs.Order.{Asked, asked_in, docs_before, due_of, left_in}
use Rattle.fan_model.specs.Comings.{IsAsked, come_at_line, come_in, comings_of, left_at_line}

-- line by line
pub record Laws : Type 0 where
  pub comes : (lines : List Line) (l : Line) → IsLine l → come_in (lines ++ l ∷ []) ≡ come_in lines ++ come_at_line lines l
  pub left : (lines : List Line) (l : Line) → IsLine l → left_in (lines ++ l ∷ []) ≡ left_at_line lines l
  pub first : (lines rest : List Line) → All IsLine rest → IsPrefix (come_in lines) (comings_of (lines ++ rest))
  pub due : (lines rest : List Line) (a : Asked) → IsAsked lines a → due_of (lines ++ rest) a ≡ due_of lines a
  pub docs : (lines rest : List Line) (a : Asked) → IsAsked lines a → docs_before (lines ++ rest) a ≡ docs_before lines a
  pub left_asked : (lines : List Line) → All (IsAsked lines) (left_in lines)
  pub more : (lines rest : List Line) (a : Asked) → IsAsked lines a → IsAsked (lines ++ rest) a

-- of the query behind some lines
pub record NextLaws : Type 0 where
  pub is : (lines : List Line) (query : Query) → IsAsked (lines ++ line.Query query ∷ []) (next_asked lines query)
  pub due : (lines : List Line) (query : Query) (delay : ℕ) → query.delay ≡ Some delay
      → due_of (lines ++ line.Query query ∷ []) (next_asked lines query) ≡ sum_by ticks_of lines + delay
  pub docs : (lines : List Line) (query : Query) → docs_before (lines ++ line.Query query ∷ []) (next_asked lines query) ≡ docs_of lines

-- over all lines
pub record CountLaws : Type 0 where
  pub none : come_in [] ≡ []
  pub comings : (lines : List Line) → length (comings_of lines) ≡ length (queries_of lines)
  pub numbers : (lines : List Line) → map (λ (a : Asked). a.number) (asked_in lines) ≡ range_with_len 1 (count_by is_query lines)
