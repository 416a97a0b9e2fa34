use Rattle.std.proofs.Common.{rules, ◌≡◌, [], ap, sym, ◌∙◌}
use Rattle.query_model.specs.Expressions.{parts, parts_of}
use Rattle.query_text.specs.Sayings.{tokens_behind}
use Rattle.query_text.proofs.TokenLemmas.{tokens_ok, tokens_none, first_of_parts}
use Rattle.query_text.proofs.tokens.first_tokens.Goals as goal

pub fields-preserved : goal.fields-preserved
fields-preserved c = (
  tokens_ok c.fields.tokens.items c.push_tokens.new.tokens.items (parts c.in-Some.field.now) (parts_of c.next.new.self) (parts_of c.fields.fields) (ap parts_of c.in-Some.ensures.steps) c.in_ok-push_tokens.ensures.ok
      ∙ c.fields.invariant.0,
  c.in_ok-push_tokens.ensures.few,
)

pub returns : goal.returns
returns c =
    let nothing : c.fields.fields ≡ [] = search rules in
    sym (first_of_parts c.args.fields) ∙ (sym c.fields.invariant.0 ∙ (ap (λ fs. tokens_behind c.fields.tokens.items (parts_of fs)) nothing ∙ tokens_none c.fields.tokens.items c.fields.invariant.1))
