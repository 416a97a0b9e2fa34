-- How large an expression may be. The code has constants of its own, which have to match.
use Rattle.std.specs.Prelude.{ℕ}

-- the tokens of an expression
abbrev pub most_tokens : ℕ
most_tokens = 1024

-- the depth at a token
abbrev pub most_depth : ℕ
most_depth = 64
