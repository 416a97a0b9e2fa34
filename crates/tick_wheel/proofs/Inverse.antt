-- An id that comes, goes, or is elsewhere: over functions from ids to spots and from spots to ids.
use Rattle.std.proofs.Common.{◌≡◌, ◌≢◌, ℕ, cond, nat_eq, Option, Some, None, arith}
use Rattle.std.proofs.lemmas.Bool.{cases_eq}
use Rattle.std.proofs.lemmas.Grind.{common_steps}
use Rattle.tick_wheel.specs.Book.{AreInverse}

module _ (f f' g g' : ℕ → Option ℕ) (id spot : ℕ) where
  pub inverse_add : AreInverse f g → f id ≡ None → g spot ≡ None
      → ((q : ℕ) → f' q ≡ cond (nat_eq q id) (Some spot) (f q)) → ((k : ℕ) → g' k ≡ cond (nat_eq k spot) (Some id) (g k))
      → AreInverse f' g'
  inverse_add inverse absent empty updates others = record {
    there = λ a b is.
        let was = inverse.there a b in
        let change = updates a in
        let other = others b in
        let cases = cases_eq a id in
        let also = cases_eq b spot in
        grind (arith, common_steps);
    back = λ a b is.
        let was = inverse.back a b in
        let change = updates a in
        let other = others b in
        let cases = cases_eq a id in
        let also = cases_eq b spot in
        grind (arith, common_steps);
  }

  pub inverse_drop : AreInverse f g → f id ≡ Some spot
      → ((q : ℕ) → f' q ≡ cond (nat_eq q id) None (f q)) → ((k : ℕ) → g' k ≡ cond (nat_eq k spot) None (g k))
      → AreInverse f' g'
  inverse_drop inverse present updates others =
      let own = inverse.there id spot present in
      record {
        there = λ a b is.
            let was = inverse.there a b in
            let change = updates a in
            let other = others b in
            let cases = cases_eq a id in
            let also = cases_eq b spot in
            grind (arith, common_steps);
        back = λ a b is.
            let was = inverse.back a b in
            let change = updates a in
            let other = others b in
            let cases = cases_eq a id in
            let also = cases_eq b spot in
            grind (arith, common_steps);
      }

  pub inverse_move : (to : ℕ) → AreInverse f g → f id ≡ Some spot → (to ≢ spot → g to ≡ None)
      → ((q : ℕ) → f' q ≡ cond (nat_eq q id) (Some to) (f q)) → ((k : ℕ) → g' k ≡ cond (nat_eq k to) (Some id) (cond (nat_eq k spot) None (g k)))
      → AreInverse f' g'
  inverse_move to inverse present empty updates others =
      let own = inverse.there id spot present in
      record {
        there = λ a b is.
            let was = inverse.there a b in
            let change = updates a in
            let other = others b in
            let cases = cases_eq a id in
            let also = cases_eq b spot in
            let third = cases_eq b to in
            let fourth = cases_eq to spot in
            grind (arith, common_steps);
        back = λ a b is.
            let was = inverse.back a b in
            let change = updates a in
            let other = others b in
            let cases = cases_eq a id in
            let also = cases_eq b spot in
            let third = cases_eq b to in
            grind (arith, common_steps);
      }
