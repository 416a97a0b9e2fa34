-- A set of ids with more of them.
use Rattle.std.proofs.Common.{◌≡◌, ℕ, ◌+◌, ◌<◌, List, length, take, get_or, Bool, true, false, ◌||◌, cond, eqb, refl, sym, ap, ◌∙◌, arith}
use Rattle.std.specs.List.{list_any}
use Rattle.std.specs.Ordering.{nat_cmp}
use Rattle.std.specs.BTreeMap.{is_at}
use Rattle.std.specs.BTreeSet.{BTreeSet, contains, Updates}
use Rattle.std.proofs.lemmas.Bool.Decides.{nat_tests}
use Rattle.std.proofs.lemmas.List.Folds.{list_any_more}

is_at-eqb : (d id : ℕ) → is_at (nat_cmp d) id ≡ eqb d id
is_at-eqb d id = grind (arith, nat_tests)

one_in : (old one : Bool) → cond one true old ≡ (old || one)
one_in true true = refl
one_in true false = refl
one_in false true = refl
one_in false false = refl

or_assoc : (a b c : Bool) → ((a || b) || c) ≡ (a || (b || c))
or_assoc true b c = refl
or_assoc false b c = refl

-- a set with one more id
set_more : (a b : BTreeSet ℕ) (x : ℕ) → Updates nat_cmp a b x true → (id : ℕ) → contains nat_cmp b id ≡ (contains nat_cmp a id || eqb x id)
set_more a b x updates id =
    updates.0 id ∙ (ap (λ one. cond one true (contains nat_cmp a id)) (is_at-eqb x id) ∙ one_in (contains nat_cmp a id) (eqb x id))

-- a set with the first of some ids and with the next
pub puts_next : (first now next : BTreeSet ℕ) (ids : List ℕ) (i : ℕ) → i < length ids
    → ((id : ℕ) → contains nat_cmp now id ≡ (contains nat_cmp first id || list_any (λ known. eqb known id) (take i ids)))
    → Updates nat_cmp now next (get_or ids i 0) true
    → (id : ℕ) → contains nat_cmp next id ≡ (contains nat_cmp first id || list_any (λ known. eqb known id) (take (i + 1) ids))
puts_next first now next ids i low before updates id =
    set_more now next (get_or ids i 0) updates id
    ∙ (ap (λ old. old || eqb (get_or ids i 0) id) (before id)
    ∙ (or_assoc (contains nat_cmp first id) (list_any (λ known. eqb known id) (take i ids)) (eqb (get_or ids i 0) id)
    ∙ ap (λ more. contains nat_cmp first id || more) (sym (list_any_more (λ known. eqb known id) ids i 0 low))))
