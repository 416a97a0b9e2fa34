-- What a reader stands for, and why it stops.
use Rattle.std.specs.Prelude.{◌≡◌, ℕ, ◌+◌, Some, None, reverse, ⊤}
use Rattle.query_grammar.specs.Limits.{most_depth}
use Rattle.query_grammar.specs.declared.token.Token.{Token}
use Rattle.query_grammar.specs.declared.fault.ExprFault.{ExprFault}
use Rattle.query_grammar.specs.declared.fault.ExprFault.TheVariants as fault
use Rattle.query_expr.specs.declared.reader.Reader.{Reader}
use Rattle.query_expr.specs.Steps.{Reading, step, depth_of}

abbrev pub reading_of : Reader → Reading
reading_of r = record { top = r.top; below = reverse r.below.items }

-- the token at this place stops the reading with this fault
abbrev pub StopsAt : ℕ → Reading → Token → ExprFault → Type 0
StopsAt place r t (fault.TooDeep i) = (i ≡ place) × ((new : Reading) × (step r t ≡ Some new) × (depth_of new ≡ most_depth + 1))
StopsAt place r t (fault.Unexpected i) = (i ≡ place) × (step r t ≡ None)
StopsAt place r t fault.Memory = ⊤
StopsAt place r t fault.Empty = ⊥
StopsAt place r t fault.TooLong = ⊥
StopsAt place r t fault.Unclosed = ⊥
