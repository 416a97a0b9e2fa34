-- How the canonical text is put together.
use Rattle.std.specs.Prelude.{List, [], ◌∷◌, ◌++◌, Bool, true, false, if◌then◌else◌}
use Rattle.std.specs.List.{flat_map}
use Rattle.query_grammar.specs.Tree.{Tree}
use Rattle.query_model.specs.Canonical.{as_both, as_fact, expr_text}
use Rattle.query_model.specs.Pieces.{Bytes, space}
use Rattle.query_text.specs.declared.expr_text.Place.{Place}
use Rattle.query_text.specs.declared.expr_text.Place.TheVariants as place

-- each field behind a space, and each before one
abbrev pub behind_spaces : List Bytes → Bytes
behind_spaces fields = flat_map (λ field. space ∷ field) fields

abbrev pub before_spaces : List Bytes → Bytes
before_spaces fields = flat_map (λ field. field ++ space ∷ []) fields

-- the text of an expression at a place
abbrev pub text_at : Place → Tree → Bytes
text_at place.Fact e = as_fact e (expr_text e)
text_at place.Both e = as_both e (expr_text e)
text_at place.Either e = expr_text e

-- whether a both, and whether an either, stands in brackets there
abbrev pub wraps_both : Place → Bool
wraps_both place.Fact = true
wraps_both place.Both = false
wraps_both place.Either = false

abbrev pub wraps_either : Place → Bool
wraps_either place.Fact = true
wraps_either place.Both = true
wraps_either place.Either = false

-- these bytes or none
abbrev pub bytes_if : Bool → Bytes → Bytes
bytes_if wanted bytes = if wanted then bytes else []
