-- The value of an id in a list of pairs.
use Rattle.std.proofs.Common.{◌≡◌, ◌≢◌, ℕ, zero, suc, ◌+◌, ◌<◌, ◌≤◌, Bool, true, cond, nat_eq, List, [], ◌∷◌, length, get_or, refl, sym, ap, ◌∙◌, arith, Option, Some, None, IsPermutation, ne_eqb, eq-eqb}
use Rattle.std.specs.List.{count_by, Contains}
use Rattle.std.proofs.lemmas.List.Sorted.{Contains-permutation, IsPermutation-sym, sum_by-IsPermutation}
use Rattle.std.proofs.lemmas.List.Sums.{sum_by-cons}
use Rattle.std.proofs.lemmas.Option.{none-some, same_Some}
use Rattle.id_table.specs.Pairs.{value_of, has_id, AreDistinct}
use Rattle.id_table.proofs.Counts.{by_same}

-- 1 for a test that is passed
abbrev pub one : Bool → ℕ
one b = cond b 1 0

module _ {V : Type 0} where
  by_option : {C : Type 0} → (o : Option V) → (o ≡ None → C) → ((value : V) → o ≡ Some value → C) → C
  by_option None f g = f refl
  by_option (Some value) f g = g value refl

  pub count-cons : (test : ℕ × V → Bool) (pair : ℕ × V) (pairs : List (ℕ × V))
      → count_by test (pair ∷ pairs) ≡ one (test pair) + count_by test pairs
  count-cons test pair pairs = sum_by-cons (λ p. cond (test p) 1 0) pair pairs

  -- one pair before the others: of the id, or not

  pub value_here : (id : ℕ) (pair : ℕ × V) (pairs : List (ℕ × V)) → id ≡ pair.0 → value_of (pair ∷ pairs) id ≡ Some pair.1
  value_here id pair pairs e = rw (eq-eqb id pair.0 e) refl

  pub value_later : (id : ℕ) (pair : ℕ × V) (pairs : List (ℕ × V)) → id ≢ pair.0 → value_of (pair ∷ pairs) id ≡ value_of pairs id
  value_later id pair pairs ne = rw (ne_eqb id pair.0 ne) refl

  pub one_of_id : (id : ℕ) (pair : ℕ × V) → id ≡ pair.0 → one (has_id id pair) ≡ 1
  one_of_id id pair e = rw (eq-eqb id pair.0 e) refl

  none_of_id : (id : ℕ) (pair : ℕ × V) → id ≢ pair.0 → one (has_id id pair) ≡ 0
  none_of_id id pair ne = rw (ne_eqb id pair.0 ne) refl

  -- where no pair is of the id it has no value, and the other way round

  pub no_value : (pairs : List (ℕ × V)) (id : ℕ) → count_by (has_id id) pairs ≡ 0 → value_of pairs id ≡ None
  no_value [] id none = refl
  no_value (pair ∷ pairs) id none =
      let split = count-cons (has_id id) pair pairs in
      by_same id pair.0
      (λ e. let first = one_of_id id pair e in absurd (omega arith))
      (λ ne. value_later id pair pairs ne ∙ no_value pairs id (let no = none_of_id id pair ne in omega arith))

  pub none_of : (pairs : List (ℕ × V)) (id : ℕ) → value_of pairs id ≡ None → count_by (has_id id) pairs ≡ 0
  none_of [] id none = refl
  none_of (pair ∷ pairs) id none =
      let split = count-cons (has_id id) pair pairs in
      by_same id pair.0
      (λ e. absurd (none-some _ (sym none ∙ value_here id pair pairs e)))
      (λ ne.
      let no = none_of_id id pair ne in
      let others = none_of pairs id (sym (value_later id pair pairs ne) ∙ none) in
      split ∙ (omega arith))

  -- a pair that is there tells the value

  some_at : (pairs : List (ℕ × V)) (k id : ℕ) (value : V) → k < length pairs → get_or pairs k (id, value) ≡ (id, value)
      → 0 < count_by (has_id id) pairs
  some_at [] k id value low here = absurd (omega arith)
  some_at (pair ∷ pairs) zero id value low here =
      let split = count-cons (has_id id) pair pairs in
      let first = one_of_id id pair (sym (ap (λ (p : ℕ × V). p.0) here)) in
      omega arith
  some_at (pair ∷ pairs) (suc k) id value low here =
      let split = count-cons (has_id id) pair pairs in
      let others = some_at pairs k id value (omega arith) here in
      omega arith

  value_at : (pairs : List (ℕ × V)) (k id : ℕ) (value : V) → k < length pairs → get_or pairs k (id, value) ≡ (id, value)
      → count_by (has_id id) pairs ≤ 1 → value_of pairs id ≡ Some value
  value_at [] k id value low here once = absurd (omega arith)
  value_at (pair ∷ pairs) zero id value low here once =
      value_here id pair pairs (sym (ap (λ (p : ℕ × V). p.0) here)) ∙ ap (λ (p : ℕ × V). Some p.1) here
  value_at (pair ∷ pairs) (suc k) id value low here once =
      let split = count-cons (has_id id) pair pairs in
      let some = some_at pairs k id value (omega arith) here in
      by_same id pair.0
      (λ e. let first = one_of_id id pair e in absurd (omega arith))
      (λ ne.
      let no = none_of_id id pair ne in
      value_later id pair pairs ne ∙ value_at pairs k id value (omega arith) here (omega arith))

  pub value_is : (pairs : List (ℕ × V)) (id : ℕ) (value : V) → Contains pairs (id, value)
      → count_by (has_id id) pairs ≤ 1 → value_of pairs id ≡ Some value
  value_is pairs id value there once = value_at pairs there.0 id value there.1 there.2 once

  pub is_there : (pairs : List (ℕ × V)) (id : ℕ) (value : V) → value_of pairs id ≡ Some value → Contains pairs (id, value)
  is_there [] id value e = absurd (none-some _ e)
  is_there (pair ∷ pairs) id value e =
      by_same id pair.0
      (λ f.
      let same : pair.1 ≡ value = same_Some _ _ (sym (value_here id pair pairs f) ∙ e) in
      (0, omega arith, λ i. (sym f i, same i)))
      (λ ne.
      let others = is_there pairs id value (sym (value_later id pair pairs ne) ∙ e) in
      (suc others.0, omega (arith, others.1), others.2))

  -- the same pairs in another order

  pub as_many : (pairs others : List (ℕ × V)) → IsPermutation pairs others → (test : ℕ × V → Bool) → count_by test pairs ≡ count_by test others
  as_many pairs others same = λ test. sym (sum_by-IsPermutation (λ p. cond (test p) 1 0) pairs others same)

  pub same_values : (pairs others : List (ℕ × V)) (id : ℕ) → IsPermutation pairs others → count_by (has_id id) others ≤ 1
      → value_of pairs id ≡ value_of others id
  same_values pairs others id same once =
      let of_id = as_many pairs others same (has_id id) in
      by_option (value_of others id)
      (λ none. let no = none_of others id none in no_value pairs id (omega arith) ∙ sym none)
      (λ value e.
      value_is pairs id value (Contains-permutation others pairs (id, value) (IsPermutation-sym pairs others same) (is_there others id value e)) (omega arith)
      ∙ sym e)

  -- how many pairs there are

  pub count_all : (pairs : List (ℕ × V)) → count_by (λ (pair : ℕ × V). true) pairs ≡ length pairs
  count_all [] = refl
  count_all (pair ∷ pairs) =
      let split = count-cons (λ (pair : ℕ × V). true) pair pairs in
      let rest = count_all pairs in
      omega arith

  -- a pair more

  pub added_values : (pairs new : List (ℕ × V)) (id : ℕ) (value : V) → IsPermutation new ((id, value) ∷ pairs) → AreDistinct new
      → (q : ℕ) → value_of new q ≡ cond (nat_eq q id) (Some value) (value_of pairs q)
  added_values pairs new id value same distinct q =
      same_values new ((id, value) ∷ pairs) q same (let e = as_many new ((id, value) ∷ pairs) same (has_id q) in let once = distinct q in omega arith)

  pub added_len : (pairs new : List (ℕ × V)) (id : ℕ) (value : V) → IsPermutation new ((id, value) ∷ pairs) → length new ≡ length pairs + 1
  added_len pairs new id value same =
      let a = count_all new in
      let b = count_all ((id, value) ∷ pairs) in
      let c = as_many new ((id, value) ∷ pairs) same (λ (pair : ℕ × V). true) in
      let d : length ((id, value) ∷ pairs) ≡ length pairs + 1 = omega arith in
      omega arith

  -- a pair less

  pub at_id : (q id : ℕ) (a b : Option V) → q ≡ id → cond (nat_eq q id) a b ≡ a
  at_id q id a b e = rw (eq-eqb q id e) refl

  pub at_other : (q id : ℕ) (a b : Option V) → q ≢ id → cond (nat_eq q id) a b ≡ b
  at_other q id a b ne = rw (ne_eqb q id ne) refl

  pub none_values : (pairs : List (ℕ × V)) (id : ℕ) → value_of pairs id ≡ None
      → (q : ℕ) → value_of pairs q ≡ cond (nat_eq q id) None (value_of pairs q)
  none_values pairs id none q =
      by_same q id
      (λ e. ap (value_of pairs) e ∙ none ∙ sym (at_id q id None (value_of pairs q) e))
      (λ ne. sym (at_other q id None (value_of pairs q) ne))

  pub left_values : (pairs new : List (ℕ × V)) (id : ℕ) (value : V) → IsPermutation pairs ((id, value) ∷ new) → AreDistinct pairs
      → (q : ℕ) → value_of new q ≡ cond (nat_eq q id) None (value_of pairs q)
  left_values pairs new id value same distinct q =
      let many = as_many pairs ((id, value) ∷ new) same (has_id q) in
      let split = count-cons (has_id q) (id, value) new in
      let once = distinct q in
      by_same q id
      (λ e.
      let first = one_of_id q (id, value) e in
      no_value new q (omega arith) ∙ sym (at_id q id None (value_of pairs q) e))
      (λ ne.
      let was = same_values pairs ((id, value) ∷ new) q same (omega arith) in
      sym (value_later q (id, value) new ne) ∙ sym was ∙ sym (at_other q id None (value_of pairs q) ne))
