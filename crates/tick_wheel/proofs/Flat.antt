-- What stands in a list that is made of lists, and in an option.
use Rattle.std.proofs.Common.{◌≡◌, List, [], ◌∷◌, Option, Some, None, option_to_list, sym, ap, subst, arith, ⊎_elim}
use Rattle.std.specs.List.{flat_map, Contains}
use Rattle.std.proofs.lemmas.List.Elements.{Contains-append_left, Contains-append_right, Contains-append_cases}
use Rattle.tick_wheel.proofs.RestOrder.{first_or_later, here, later}

pub option_from : {X : Type 0} (o : Option X) (x : X) → Contains (option_to_list o) x → o ≡ Some x
option_from None x c = absurd (omega (arith, c.1))
option_from (Some y) x c = ⊎_elim (λ same. ap Some same) (λ behind. absurd (omega (arith, behind.1))) (first_or_later y [] x c)

pub option_into : {X : Type 0} (o : Option X) (x : X) → o ≡ Some x → Contains (option_to_list o) x
option_into {X = X} o x is = subst (λ (p : Option X). Contains (option_to_list p) x) (sym is) (here x [])

pub flat_from : {X A : Type 0} (f : X → List A) (xs : List X) (a : A) → Contains (flat_map f xs) a → (x : X) × Contains xs x × Contains (f x) a
flat_from f [] a c = absurd (omega (arith, c.1))
flat_from f (x ∷ xs) a c = ⊎_elim
    (λ first. (x, here x xs, first))
    (λ behind. let r = flat_from f xs a behind in (r.0, later x xs r.0 r.1, r.2))
    (Contains-append_cases (f x) (flat_map f xs) a c)

pub flat_into : {X A : Type 0} (f : X → List A) (xs : List X) (x : X) (a : A) → Contains xs x → Contains (f x) a → Contains (flat_map f xs) a
flat_into f [] x a c d = absurd (omega (arith, c.1))
flat_into {A = A} f (y ∷ ys) x a c d = ⊎_elim
    (λ same. Contains-append_left (f y) (flat_map f ys) a (subst (λ z. Contains (f z) a) (sym same) d))
    (λ behind. Contains-append_right (f y) (flat_map f ys) a (flat_into f ys x a behind d))
    (first_or_later y ys x c)
