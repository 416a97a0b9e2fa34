use Rattle.std.proofs.Common.{◌≡◌, ◌≤◌, length}
use Rattle.query_model.specs.Expressions.{parts}
use Rattle.query_text.specs.Sayings.{most_kept, tokens_behind}
use Rattle.query_text.proofs.tokens.push_tokens.Given as goal

abbrev pub invariant-parts : goal.invariant-parts
invariant-parts l = (tokens_behind l.tokens.items l.parts ≡ tokens_behind l.initial.tokens.items (parts l.field)) × (length l.tokens.items ≤ most_kept)

abbrev pub decreases-parts : goal.decreases-parts
decreases-parts l = length l.parts
