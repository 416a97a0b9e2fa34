use Rattle.std.proofs.Common.{◌∷◌, take, ap, ◌∙◌, sym}
use Rattle.std.proofs.lemmas.List.{take_rest}
use Rattle.query_model.specs.Expressions.{parts}
use Rattle.query_text.proofs.CutLemmas.{no_part, sign_cut, run_cut}
use Rattle.query_text.proofs.parts.first_part.Goals as goal

pub returns-then-is_empty : goal.returns-then-is_empty
returns-then-is_empty c = no_part _ _ _ c.split_spaces.ensures.spaces c.split_spaces.ensures.whole (sym c.is_empty.ensures ∙ c.if-is_empty.true)

pub returns-then-is_sign : goal.returns-then-is_sign
returns-then-is_sign c =
    sign_cut _ _ _ c.split_spaces.ensures.spaces c.split_spaces.ensures.whole (sym c.is_empty.ensures ∙ c.if-is_empty.false) (sym c.is_sign.ensures ∙ c.if-is_sign.true)
    ∙ ap (λ after. take 1 c.split_spaces.result.1.now ∷ parts after) (sym (take_rest c.split_spaces.result.1.now 1))

pub returns : goal.returns
returns c = run_cut _ _ _ _ _ c.split_spaces.ensures.spaces c.split_spaces.ensures.whole c.split_spaces.ensures.first (sym c.is_empty.ensures ∙ c.if-is_empty.false) (sym c.is_sign.ensures ∙ c.if-is_sign.false) c.run.ensures.clear c.run.ensures.whole c.run.ensures.stops
