-- Lists in which each element has a property, how many elements there are, and lists that are gone through.
use Rattle.std.proofs.Common.{◌≡◌, List, [], ◌∷◌, ◌++◌, length, refl, sym, ap, ◌∙◌, append_assoc, arith}
use Rattle.std.specs.List.{All, sum_by}
use Rattle.std.proofs.lemmas.List.Elements.{All-nil, All-cons, All-head, All-tail}
use Rattle.std.proofs.lemmas.List.Sums.{sum_by-cons}

pub All-front : {X : Type 0} (P : X → Type 0) (xs ys : List X) → All P (xs ++ ys) → All P xs
All-front P [] ys all = All-nil P
All-front P (x ∷ xs) ys all = All-cons P x xs (All-head P x (xs ++ ys) all) (All-front P xs ys (All-tail P x (xs ++ ys) all))

-- a sum of ones
pub sum_by-ones : {X : Type 0} (xs : List X) → sum_by (λ _. 1) xs ≡ length xs
sum_by-ones [] = refl
sum_by-ones (x ∷ xs) = omega (arith, sum_by-cons (λ (_ : _). 1) x xs, sum_by-ones xs)

-- the front one of a list joins those that were taken from it
pub one_over : {X : Type 0} (done rest more whole : List X) (x : X) → done ++ rest ≡ whole → rest ≡ x ∷ more → (done ++ x ∷ []) ++ more ≡ whole
one_over done rest more whole x all is = append_assoc done (x ∷ []) more ∙ (ap (λ (l : List _). done ++ l) (sym is) ∙ all)
