-- What `parse` makes of one token after another.
use Rattle.std.specs.Prelude.{ℕ, zero, suc, ◌+◌, List, [], ◌∷◌, Option, Some, None}
use Rattle.query_grammar.specs.Tree.{Tree}
use Rattle.query_grammar.specs.declared.token.Token.{Token}
use Rattle.query_grammar.specs.declared.token.Token.TheVariants as token
use Rattle.query_expr.specs.declared.open.Open.{Open}

-- what was read so far: what stands behind the innermost open bracket, and before it, the innermost first
pub record Reading : Type 0 where
  pub top : Open
  pub below : List Open

abbrev pub empty : Open
empty = record { alternatives = None; facts = None; bangs = 0 }

-- behind so many bangs
abbrev pub negated : ℕ → Tree → Tree
negated zero e = e
negated (suc n) e = Tree.not (negated n e)

abbrev pub both_with : Option Tree → Tree → Tree
both_with None e = e
both_with (Some before) e = Tree.both before e

abbrev pub either_with : Option Tree → Tree → Tree
either_with None e = e
either_with (Some before) e = Tree.either before e

-- with a fact more
abbrev pub with_fact : Open → Tree → Open
with_fact open_ e = record { alternatives = open_.alternatives; facts = Some (both_with open_.facts (negated open_.bangs e)); bangs = 0 }

-- the expression that was read, where nothing is missing
abbrev pub whole_from : Option Tree → Option Tree → ℕ → Option Tree
whole_from alternatives None bangs = None
whole_from alternatives (Some e) zero = Some (either_with alternatives e)
whole_from alternatives (Some e) (suc n) = None

abbrev pub whole_of : Open → Option Tree
whole_of open_ = whole_from open_.alternatives open_.facts open_.bangs

abbrev pub at_bar : Option Tree → List Open → Option Reading
at_bar None below = None
at_bar (Some e) below = Some (record { top = record { alternatives = Some e; facts = None; bangs = 0 }; below = below })

abbrev pub at_right : Option Tree → List Open → Option Reading
at_right whole [] = None
at_right None (outer ∷ below) = None
at_right (Some e) (outer ∷ below) = Some (record { top = with_fact outer e; below = below })

-- what one token more makes of it, or none where no expression goes on so
abbrev pub step : Reading → Token → Option Reading
step r (token.Word w) = Some (record { top = with_fact r.top (Tree.word w); below = r.below })
step r token.Bang = Some (record { top = record { alternatives = r.top.alternatives; facts = r.top.facts; bangs = suc r.top.bangs }; below = r.below })
step r token.Left = Some (record { top = empty; below = r.top ∷ r.below })
step r token.Bar = at_bar (whole_of r.top) r.below
step r token.Right = at_right (whole_of r.top) r.below

-- the expression, where the tokens end
abbrev pub at_end : Option Tree → List Open → Option Tree
at_end whole [] = whole
at_end whole (outer ∷ below) = None

abbrev pub finish : Reading → Option Tree
finish r = at_end (whole_of r.top) r.below

-- the open brackets and bangs
abbrev pub depth_below : List Open → ℕ
depth_below [] = 0
depth_below (o ∷ below) = suc (o.bangs + depth_below below)

abbrev pub depth_of : Reading → ℕ
depth_of r = r.top.bangs + depth_below r.below
