use Rattle.std.proofs.Common.{◌≡◌, ◌∷◌, [], ◌∙◌, sym, ap, append-nil}
use Rattle.std.proofs.lemmas.Option.{MatchOption-at_some, MatchOption-at_none}
use Rattle.query_model.specs.Pieces.{fields}
use Rattle.query_text.proofs.CutLemmas.{no_field, field_cut, field_last, front_in_place, front_within}
use Rattle.query_text.proofs.fields.far_place.Goals as goal

pub returns-then-is_empty-clause-first : goal.returns-then-is_empty-clause-first
returns-then-is_empty-clause-first c = no_field _ _ _ c.split_spaces.ensures.spaces c.split_spaces.ensures.whole (sym c.is_empty.ensures ∙ c.if-is_empty.true)

pub returns-in-Some-clause-within : goal.returns-in-Some-clause-within
returns-in-Some-clause-within c = front_within _ _ _ (MatchOption-at_some _ _ _ c.in-Some.is c.cut.ensures.whole)

pub returns-in-Some-clause-first : goal.returns-in-Some-clause-first
returns-in-Some-clause-first c =
    let cut = MatchOption-at_some _ _ _ c.in-Some.is c.cut.ensures.whole in
    field_cut _ _ _ _ _ c.split_spaces.ensures.spaces c.split_spaces.ensures.whole c.split_spaces.ensures.first c.cut.ensures.front cut
    ∙ ap (λ field. field ∷ fields c.in-Some.after.now) (sym (front_in_place _ _ _ cut))

pub returns-in-None-clause-within : goal.returns-in-None-clause-within
returns-in-None-clause-within c =
    let last : c.split_spaces.result.1.now ≡ c.cut.result.0.now = MatchOption-at_none _ _ c.in-None.is c.cut.ensures.whole in
    front_within _ _ [] (last ∙ sym (append-nil c.cut.result.0.now))

pub returns-in-None-clause-first : goal.returns-in-None-clause-first
returns-in-None-clause-first c =
    let last : c.split_spaces.result.1.now ≡ c.cut.result.0.now = MatchOption-at_none _ _ c.in-None.is c.cut.ensures.whole in
    field_last _ _ _ _ c.split_spaces.ensures.spaces c.split_spaces.ensures.whole (sym c.is_empty.ensures ∙ c.if-is_empty.false) c.cut.ensures.front last
    ∙ ap (λ field. field ∷ fields []) (sym (front_in_place _ _ [] (last ∙ sym (append-nil c.cut.result.0.now))))
