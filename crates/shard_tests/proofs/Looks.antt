-- What a look at each document gives, as the definitions have it.
use Rattle.std.proofs.Common.{◌≡◌, ◌+◌, ◌<◌, ◌≤◌, ℕ, suc, List, [], ◌∷◌, ◌++◌, length, get_or, Bool, false, nat_lt, nat_cmp, map, filter, take, ap, ◌∙◌, arith}
use Rattle.std.specs.List.{AllByRecursion, count_by}
use Rattle.std.specs.List.Sorted.{IsNonDecreasing, IsPermutation, IsSorted}
use Rattle.std.proofs.lemmas.Bool.Decides.{nat_tests}
use Rattle.std.proofs.lemmas.List.{take_more, map-append}
use Rattle.std.proofs.lemmas.List.Elements.{filter-append}
use Rattle.std.proofs.lemmas.List.Sorted.{IsNonDecreasingBy-from_sort}
use Rattle.std.proofs.lemmas.List.Sums.{count_by-le-length, length-filter}
use Rattle.query_model.specs.Sorting.{sorted_by, IsInOrder}
use Rattle.query_model.proofs.SortingLaws.{ids_apart, ids_order, only_list}

not_less : (x y : ℕ) → y ≤ x → nat_lt x y ≡ false
not_less x y h = grind (arith, nat_tests)

none_below : (x : ℕ) (xs : List ℕ) → ((k : ℕ) → k < length xs → x ≤ get_or xs k 0) → AllByRecursion (λ y. nat_lt y x ≡ false) xs
none_below x [] h = tt
none_below x (y ∷ ys) h = (not_less y x (h 0 (omega arith)), none_below x ys (λ k low. h (suc k) (omega arith)))

in_order : (xs : List ℕ) → IsNonDecreasing xs → IsInOrder nat_lt xs
in_order [] h = tt
in_order (x ∷ xs) h = (none_below x xs (λ k low. h 0 (suc k) 0 (omega arith) (omega arith)), in_order xs (λ i j d before low. h (suc i) (suc j) d (omega arith) (omega arith)))

-- what a sort leaves
pub sorted_ids : (xs ys : List ℕ) → IsPermutation xs ys → IsSorted nat_cmp ys → ys ≡ sorted_by nat_lt xs
sorted_ids xs ys perm sorted = only_list nat_lt ids_order ids_apart xs ys perm (in_order ys (IsNonDecreasingBy-from_sort (λ x. x) ys sorted))

-- one item more among those that pass
pub kept_more : {X Y : Type 0} (f : X → Y) (p : X → Bool) (xs : List X) (k : ℕ) (d : X) → k < length xs
    → map f (filter p (take (k + 1) xs)) ≡ map f (filter p (take k xs)) ++ map f (filter p (get_or xs k d ∷ []))
kept_more f p xs k d low =
    ap (λ ys. map f (filter p ys)) (take_more xs k d low)
    ∙ (ap (map f) (filter-append p (take k xs) (get_or xs k d ∷ [])) ∙ map-append f (filter p (take k xs)) (filter p (get_or xs k d ∷ [])))

pub length_filter : {X : Type 0} (p : X → Bool) → (xs : List X) → length (filter p xs) ≡ count_by p xs
length_filter p xs = length-filter p xs

pub count_fits : {X : Type 0} (p : X → Bool) → (xs : List X) → count_by p xs ≤ length xs
count_fits p xs = count_by-le-length p xs
