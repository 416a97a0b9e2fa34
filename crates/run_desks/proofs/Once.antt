-- A query is begun at one place alone.
use Rattle.std.proofs.Common.{◌≡◌, ℕ, zero, suc, ◌+◌, ◌<◌, ◌≤◌, List, [], ◌∷◌, Bool, true, false, cond, eqb, filter, Option, Some, None, refl, sym, ap, ◌∙◌, arith, ⊎_elim}
use Rattle.std.specs.Prelude.{slice_get}
use Rattle.std.specs.List.{cons_option, filter_map, sum_by}
use Rattle.std.proofs.lemmas.Bool.{cases_order, eqb-true, eq-eqb}
use Rattle.std.proofs.lemmas.List.Sorted.{sum_by-IsPermutation}
use Rattle.std.proofs.lemmas.List.Sums.{sum_by-cons}
use Rattle.query_model.specs.declared.line.Line.{Line}
use Rattle.query_model.specs.declared.line.Line.TheVariants as line
use Rattle.query_model.specs.Order.{Asked, asked_from, asked_in}
use Rattle.query_model.specs.Sorting.{sorted_by}
use Rattle.query_model.proofs.SortingLaws.{same_items}
use Rattle.fan_model.specs.Answered.{answered_before, answered_in, is_answered}
use Rattle.fan_model.specs.Comings.{Coming, ComesAt, begun_by, comings_of}

abbrev one_if : Bool → ℕ
one_if true = 1
one_if false = 0

-- 1 for a query with this number, and 0 for another
abbrev one_of : ℕ → Asked → ℕ
one_of n a = one_if (eqb a.number n)

one_where : (n : ℕ) (a : Asked) → a.number ≡ n → one_of n a ≡ 1
one_where n a is = ap one_if (eq-eqb a.number n is)

-- none of the queries behind a line has a smaller number
none_smaller : (n number place : ℕ) (lines : List Line) → n < number → sum_by (one_of n) (asked_from number place lines) ≡ 0
none_smaller n number place [] less = refl
none_smaller n number place (line.Doc doc ∷ lines) less = none_smaller n number (place + 1) lines less
none_smaller n number place (line.Tick k ∷ lines) less = none_smaller n number (place + 1) lines less
none_smaller n number place (line.Cancel k ∷ lines) less = none_smaller n number (place + 1) lines less
none_smaller n number place (line.Query query ∷ lines) less =
    let a : Asked = record { number = number; place = place; query = query } in
    omega (arith, sum_by-cons (one_of n) a (asked_from (number + 1) (place + 1) lines), other (eqb number n) refl, none_smaller n (number + 1) (place + 1) lines (omega (arith, less)))
  where
    other : (b : Bool) → eqb number n ≡ b → one_if b ≡ 0
    other true is = absurd (omega (arith, less, eqb-true number n is))
    other false is = refl

-- at most one of the queries of some lines has this number
one_asked : (n number place : ℕ) (lines : List Line) → sum_by (one_of n) (asked_from number place lines) ≤ 1
one_asked n number place [] = omega arith
one_asked n number place (line.Doc doc ∷ lines) = one_asked n number (place + 1) lines
one_asked n number place (line.Tick k ∷ lines) = one_asked n number (place + 1) lines
one_asked n number place (line.Cancel k ∷ lines) = one_asked n number (place + 1) lines
one_asked n number place (line.Query query ∷ lines) =
    let a : Asked = record { number = number; place = place; query = query } in
    omega (arith, sum_by-cons (one_of n) a (asked_from (number + 1) (place + 1) lines), by (eqb number n) refl (one_asked n (number + 1) (place + 1) lines))
  where
    rest : ℕ
    rest = sum_by (one_of n) (asked_from (number + 1) (place + 1) lines)

    by : (b : Bool) → eqb number n ≡ b → rest ≤ 1 → one_if b + rest ≤ 1
    by true is few = omega (arith, none_smaller n (number + 1) (place + 1) lines (omega (arith, eqb-true number n is)))
    by false is few = omega (arith, few)

-- those that pass a test come to no more than all
filtered_less : {A : Type 0} (f : A → ℕ) (p : A → Bool) (xs : List A) → sum_by f (filter p xs) ≤ sum_by f xs
filtered_less f p [] = omega arith
filtered_less {A = A} f p (x ∷ xs) = omega (arith, by (p x) (filtered_less f p xs), sum_by-cons f x xs)
  where
    kept : List A
    kept = filter p xs

    by : (b : Bool) → sum_by f kept ≤ sum_by f xs → sum_by f (cond b (x ∷ kept) kept) ≤ f x + sum_by f xs
    by true less = omega (arith, sum_by-cons f x kept, less)
    by false less = omega (arith, less)

-- so too of some of them in an order
one_sorted : (n : ℕ) (lines : List Line) (p : Asked → Bool) (g : Asked → Asked → Bool) → sum_by (one_of n) (sorted_by g (filter p (asked_in lines))) ≤ 1
one_sorted n lines p g =
    let some = filter p (asked_in lines) in
    omega (arith, sum_by-IsPermutation (one_of n) some (sorted_by g some) (same_items g some), filtered_less (one_of n) p (asked_in lines), one_asked n 1 0 lines)

one_answered : (n : ℕ) (lines : List Line) → sum_by (one_of n) (answered_in lines) ≤ 1
unfolding answered_in
one_answered n lines = one_sorted n lines (is_answered lines) (answered_before lines)

module _ {A B : Type 0} where
  -- what is given at a place is among all that are given
  one_given : (f : A → Option B) (g : B → ℕ) (xs : List A) (i : ℕ) (x : A) (y : B) → slice_get xs i ≡ Some x → f x ≡ Some y → g y ≤ sum_by g (filter_map f xs)
  one_given f g [] i x y at gives = absurd cc
  one_given f g (w ∷ xs) zero x y at gives =
      let same : w ≡ x = cc in
      let here : f w ≡ Some y = ap f same ∙ gives in
      let all : filter_map f (w ∷ xs) ≡ y ∷ filter_map f xs = ap (λ (o : Option B). cons_option o (filter_map f xs)) here in
      omega (arith, ap (sum_by g) all, sum_by-cons g y (filter_map f xs))
  one_given f g (w ∷ xs) (suc i) x y at gives = by (f w) (one_given f g xs i x y at gives)
    where
      more : List B
      more = filter_map f xs

      by : (o : Option B) → g y ≤ sum_by g more → g y ≤ sum_by g (cons_option o more)
      by (Some z) rest = omega (arith, sum_by-cons g z more, rest)
      by None rest = rest

  -- so are those that are given at two places, both
  two_given : (f : A → Option B) (g : B → ℕ) (xs : List A) (i j : ℕ) (v x : A) (w y : B) → i < j → slice_get xs i ≡ Some v → f v ≡ Some w → slice_get xs j ≡ Some x → f x ≡ Some y
      → g w + g y ≤ sum_by g (filter_map f xs)
  two_given f g [] i j v x w y less at gives also_at also = absurd cc
  two_given f g (u ∷ xs) i zero v x w y less at gives also_at also = absurd (omega (arith, less))
  two_given f g (u ∷ xs) zero (suc j) v x w y less at gives also_at also =
      let same : u ≡ v = cc in
      let here : f u ≡ Some w = ap f same ∙ gives in
      let all : filter_map f (u ∷ xs) ≡ w ∷ filter_map f xs = ap (λ (o : Option B). cons_option o (filter_map f xs)) here in
      omega (arith, ap (sum_by g) all, sum_by-cons g w (filter_map f xs), one_given f g xs j x y also_at also)
  two_given f g (u ∷ xs) (suc i) (suc j) v x w y less at gives also_at also = by (f u) (two_given f g xs i j v x w y (omega (arith, less)) at gives also_at also)
    where
      more : List B
      more = filter_map f xs

      by : (o : Option B) → g w + g y ≤ sum_by g more → g w + g y ≤ sum_by g (cons_option o more)
      by (Some z) rest = omega (arith, sum_by-cons g z more, rest)
      by None rest = rest

not_before : (lines : List Line) (place other : ℕ) (a b : Asked) → filter_map begun_by (comings_of lines) ≡ answered_in lines
    → ComesAt lines place (Coming.begins a) → ComesAt lines other (Coming.begins b) → a.number ≡ b.number → place < other → ⊥
not_before lines place other a b begun comes also same less =
    let f = one_of b.number in
    let both : f a + f b ≤ sum_by f (filter_map begun_by (comings_of lines)) =
    two_given begun_by f (comings_of lines) place other (Coming.begins a) (Coming.begins b) a b less comes.at refl also.at refl in
    omega (arith, both, ap (sum_by f) begun, one_answered b.number lines, one_where b.number a same, one_where b.number b refl)

-- queries of one number that are begun are begun at one place
pub begun_at_one : (lines : List Line) (place other : ℕ) (a b : Asked) → filter_map begun_by (comings_of lines) ≡ answered_in lines
    → ComesAt lines place (Coming.begins a) → ComesAt lines other (Coming.begins b) → a.number ≡ b.number → place ≡ other
begun_at_one lines place other a b begun comes also same = ⊎_elim (λ e. e) (λ o. absurd (⊎_elim
    (λ (less : place < other). not_before lines place other a b begun comes also same less)
    (λ (more : other < place). not_before lines other place b a begun also comes (sym same) more)
    o)) (cases_order place other)
