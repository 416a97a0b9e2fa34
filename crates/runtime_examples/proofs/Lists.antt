-- Lists of one item and of two.
use Rattle.std.proofs.Common.{◌≡◌, ◌+◌, List, [], ◌∷◌, ◌++◌, length, sym, ap, ◌∙◌, refl, arith}
use Rattle.std.specs.Prelude.{Some}
use Rattle.std.specs.List.{slice_get}
use Rattle.std.proofs.lemmas.List.{length_push}

module _ {X : Type 0} where
  -- the only one, taken from the back
  pub one_popped : (x : X) (all rest : List X) (y : X) → all ≡ x ∷ [] → all ≡ rest ++ y ∷ [] → (rest ≡ []) × (y ≡ x)
  one_popped x all [] y one last =
      let is : y ∷ [] ≡ x ∷ [] = sym last ∙ one in
      (refl, cc)
  one_popped x all (z ∷ rest) y one last =
      let long : length all ≡ length (z ∷ rest) + 1 = ap (λ (l : List X). length l) last ∙ length_push (z ∷ rest) y in
      let short : length all ≡ 1 = ap (λ (l : List X). length l) one in
      let some : length (z ∷ rest) ≡ length rest + 1 = omega arith in
      absurd (omega (arith, long, short, some))

  -- the items of a list of two by their places
  pub two_listed : (l : List X) (x y : X) → length l ≡ 2 → slice_get l 0 ≡ Some x → slice_get l 1 ≡ Some y → l ≡ x ∷ y ∷ []
  two_listed [] x y long first second = absurd (omega (arith, long))
  two_listed (a ∷ []) x y long first second = absurd (omega (arith, long))
  two_listed (a ∷ b ∷ []) x y long first second =
      let one : a ≡ x = cc in
      let two : b ≡ y = cc in
      ap (λ (z : X). z ∷ b ∷ []) one ∙ ap (λ (z : X). x ∷ z ∷ []) two
  two_listed (a ∷ b ∷ c ∷ l) x y long first second = absurd (omega (arith, long))
