-- A vector whose whole slice was written.
use Rattle.std.proofs.Common.{arith, ◌≡◌, ℕ, List, length, ◌++◌, take, drop}
use Rattle.std.proofs.lemmas.Grind.{common_steps}

pub all_written : {S : Type 0} (n : ℕ) (ys xs : List S) → length ys ≡ length xs → n ≡ length xs → ys ≡ take n (ys ++ drop (length ys) xs)
all_written n ys xs e f = grind (arith, common_steps, e, f)
