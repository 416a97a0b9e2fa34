use Rattle.std.proofs.Common.{rules, ◌≡◌, [], ap, sym, ◌∙◌}
use Rattle.query_text.specs.Sayings.{tokens_behind}
use Rattle.query_text.proofs.TokenLemmas.{token_ok, tokens_none}
use Rattle.query_text.proofs.tokens.push_tokens.Goals as goal

pub parts-preserved : goal.parts-preserved
parts-preserved c = (
  token_ok c.parts.tokens.items c.push_first.new.tokens.items c.in-Some.part.now c.next.new.self c.parts.parts c.in_ok-token_in.field-0 c.in-Some.ensures.steps c.in_ok-token_in.ensures c.in_ok-push_first.ensures.first
      ∙ c.parts.invariant.0,
  c.in_ok-push_first.ensures.few,
)

pub returns-clause-ok : goal.returns-clause-ok
returns-clause-ok c =
    let nothing : c.parts.parts ≡ [] = search rules in
    sym c.parts.invariant.0 ∙ (ap (tokens_behind c.parts.tokens.items) nothing ∙ tokens_none c.parts.tokens.items c.parts.invariant.1)
