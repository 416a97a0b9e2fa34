use Rattle.std.proofs.Common.{◌≡◌, ◌≤◌, length, []}
use Rattle.query_model.specs.Expressions.{parts_of}
use Rattle.query_text.specs.Sayings.{most_kept, tokens_behind}
use Rattle.query_text.proofs.tokens.first_tokens.Given as goal

abbrev pub invariant-fields : goal.invariant-fields
invariant-fields l = (tokens_behind l.tokens.items (parts_of l.fields) ≡ tokens_behind [] (parts_of l.initial.fields)) × (length l.tokens.items ≤ most_kept)

abbrev pub decreases-fields : goal.decreases-fields
decreases-fields l = length l.fields
