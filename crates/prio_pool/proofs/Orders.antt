-- Lists that are the same in any order are of one length.
use Rattle.std.proofs.Common.{◌≡◌, List, length, arith}
use Rattle.pool_model.specs.Orders.{IsSameInAnyOrder}
use Rattle.pool_model.proofs.Lists.{sum_by-ones}

pub same-length : {X : Type 0} (xs ys : List X) → IsSameInAnyOrder xs ys → length xs ≡ length ys
same-length xs ys s = omega (arith, sum_by-ones xs, sum_by-ones ys, s.sums (λ _. 1))
