use Rattle.std.proofs.Common.{Ok, ap, ◌∙◌, sym}
use Rattle.query_text.proofs.LineLemmas.{tree_by_first}
use Rattle.query_text.proofs.query.expr_in.Goals as goal

pub returns : goal.returns
returns c = tree_by_first c.args.fields c.as_slice.result.now c.expr_of.result (c.in_ok-tokens.ensures ∙ ap (λ ts. Ok ts) (sym c.as_slice.ensures.value)) c.expr_of.ensures
