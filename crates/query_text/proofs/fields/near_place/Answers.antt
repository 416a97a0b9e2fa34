use Rattle.std.proofs.Common.{◌∷◌, ◌+◌, ◌∙◌, take, sym, ap}
use Rattle.std.proofs.lemmas.Bool.{ne_eqb}
use Rattle.std.proofs.lemmas.List.{take_rest}
use Rattle.query_model.specs.Pieces.{fields}
use Rattle.query_text.proofs.CutLemmas.{field_near}
use Rattle.query_text.proofs.fields.near_place.Goals as goal

pub returns-then-size-lt-LANES-clause-first : goal.returns-then-size-lt-LANES-clause-first
returns-then-size-lt-LANES-clause-first c =
    let line = c.args.line.now in
    let size = c.lanes_before-size.result in
    field_near line 16 size c.if-line-lt-LANES.false (ne_eqb _ _ c.if-line-eq32.false) c.lanes_before-size.ensures c.if-size-lt-LANES.true
    ∙ ap (λ after. take size line ∷ fields after) (sym (take_rest line (size + 1)))
