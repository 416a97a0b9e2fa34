-- The numbers of a tally.
use Rattle.std.specs.Prelude.{ℕ, ◌+◌, ◌-◌, ◌^◌, min}

pub record Counts : Type 0 where
  pub made : ℕ
  pub handed : ℕ
  pub forwarded : ℕ
  pub freed : ℕ
  pub reopened : ℕ

-- a sum of two numbers, up to the last of u64
abbrev pub added : ℕ → ℕ → ℕ
added m n = min (m + n) (2 ^ 64 - 1)

-- one more, up to the last of u64
abbrev pub raised : ℕ → ℕ
raised n = added n 1
