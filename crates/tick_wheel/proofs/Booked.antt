-- From the pairs of a table to the index: what is held of an id, and where an id gets another spot.
use Rattle.std.proofs.Common.{◌≡◌, ◌≢◌, ℕ, ◌+◌, ◌/◌, cond, nat_eq, false, List, [], ◌∷◌, length, map, Option, Some, None, option_map, is_some, Bor, refl, sym, ap, ◌∙◌, arith, ⊎_elim, eq-eqb, ne_eqb}
use Rattle.std.specs.List.{AllByRecursion, count_by, sum_by}
use Rattle.std.specs.Map.{keys_of}
use Rattle.std.specs.Option.{option_copied}
use Rattle.std.proofs.lemmas.Bool.{cases_eq}
use Rattle.std.proofs.lemmas.Grind.{common_steps}
use Rattle.std.proofs.lemmas.List.{length-map, nil_from_length}
use Rattle.std.proofs.lemmas.List.Sums.{sum_by-cons}
use Rattle.std.proofs.lemmas.Map.Keys.{IsDistinct-cons}
use Rattle.std.proofs.lemmas.Option.{none-some, same_Some}
use Rattle.id_table.specs.Pairs.{value_of, has_id, with_number, AreDistinct}
use Rattle.id_table.proofs.Values.{count-cons, one_of_id, value_here, value_later}
use Rattle.tick_wheel.specs.Book.{spot_of}
use Rattle.tick_wheel.specs.Held.{Held, held_of, seen_pair, seen_pairs}
use Rattle.tick_wheel.specs.Table.{IsUnique, held_at}
use Rattle.tick_wheel.specs.declared.timed.Timed.{Timed}
use Rattle.tick_wheel.proofs.Views.{lookup_here, lookup_there, none_distinct, unmapped}

pub at_yes : {A : Type 0} (a b : ℕ) (x o : Option A) → a ≡ b → cond (nat_eq a b) x o ≡ x
at_yes {A = A} a b x o same = grind (arith, common_steps)

pub at_no : {A : Type 0} (a b : ℕ) (x o : Option A) → a ≢ b → cond (nat_eq a b) x o ≡ o
at_no {A = A} a b x o apart = grind (arith, common_steps)

pub flip_eq : {A : Type 0} (a b : ℕ) (x o : Option A) → cond (nat_eq a b) x o ≡ cond (nat_eq b a) x o
flip_eq {A = A} a b x o = ⊎_elim (λ same. at_yes a b x o same ∙ sym (at_yes b a x o (sym same))) (λ ne. at_no a b x o ne ∙ sym (at_no b a x o (λ e. ne (sym e)))) (cases_eq a b)

mapped_some : {X Y : Type 0} (f : X → Y) (o : Option X) (y : Y) → option_map f o ≡ Some y → (x : X) × (o ≡ Some x) × (f x ≡ y)
mapped_some f None y is = absurd (none-some y is)
mapped_some f (Some x) y is = (x, refl, same_Some (f x) y is)

-- what is lent is there
pub copied_some : {X : Type 0} (o : Option (Bor X)) → is_some o ≡ is_some (option_copied o)
copied_some None = refl
copied_some (Some b) = refl

module _ {T : Type 0} where
  -- what is held of an id is what the table has of it
  pub held_value : (pairs : List (ℕ × (ℕ × Timed T))) (id : ℕ) → held_at (seen_pairs pairs) id ≡ option_map held_of (value_of pairs id)
  held_value [] id = refl
  held_value (pair ∷ pairs) id =
      ⊎_elim
      (λ same. lookup_here id (seen_pair pair) (seen_pairs pairs) same ∙ sym (ap (option_map held_of) (value_here id pair pairs same)))
      (λ ne. lookup_there id (seen_pair pair) (seen_pairs pairs) ne ∙ (held_value pairs id ∙ sym (ap (option_map held_of) (value_later id pair pairs ne))))
      (cases_eq id pair.0)

  pub held_same : (old new : List (ℕ × (ℕ × Timed T))) (id : ℕ) → value_of new id ≡ value_of old id → held_at (seen_pairs new) id ≡ held_at (seen_pairs old) id
  held_same old new id same = held_value new id ∙ (ap (option_map held_of) same ∙ sym (held_value old id))

  pub value_held : (pairs : List (ℕ × (ℕ × Timed T))) (id : ℕ) (value : ℕ × Timed T) → value_of pairs id ≡ Some value → held_at (seen_pairs pairs) id ≡ Some (held_of value)
  value_held pairs id value is = held_value pairs id ∙ ap (option_map held_of) is

  pub held_has : (pairs : List (ℕ × (ℕ × Timed T))) (id : ℕ) (held : Held T) → held_at (seen_pairs pairs) id ≡ Some held
      → (value : ℕ × Timed T) × (value_of pairs id ≡ Some value) × (held_of value ≡ held)
  held_has pairs id held is = mapped_some held_of (value_of pairs id) held (sym (held_value pairs id) ∙ is)

  pub free_value : (pairs : List (ℕ × (ℕ × Timed T))) (id : ℕ) → held_at (seen_pairs pairs) id ≡ None → value_of pairs id ≡ None
  free_value pairs id is = unmapped held_of (value_of pairs id) (sym (held_value pairs id) ∙ is)

  pub free_held : (pairs : List (ℕ × (ℕ × Timed T))) (id : ℕ) → value_of pairs id ≡ None → held_at (seen_pairs pairs) id ≡ None
  free_held pairs id is = held_value pairs id ∙ ap (option_map held_of) is

  pub spot_has : (pairs : List (ℕ × (ℕ × Timed T))) (id spot : ℕ) → spot_of pairs id ≡ Some spot
      → (value : ℕ × Timed T) × (value_of pairs id ≡ Some value) × (value.0 ≡ spot)
  spot_has pairs id spot is = mapped_some (λ (value : ℕ × Timed T). value.0) (value_of pairs id) spot is

  pub value_spot : (pairs : List (ℕ × (ℕ × Timed T))) (id : ℕ) (value : ℕ × Timed T) → value_of pairs id ≡ Some value → spot_of pairs id ≡ Some value.0
  value_spot pairs id value is = ap (option_map (λ (value : ℕ × Timed T). value.0)) is

  pub free_spot : (pairs : List (ℕ × (ℕ × Timed T))) (id : ℕ) → value_of pairs id ≡ None → spot_of pairs id ≡ None
  free_spot pairs id is = ap (option_map (λ (value : ℕ × Timed T). value.0)) is

  -- no id is seen twice
  apart_keys : (id : ℕ) (pairs : List (ℕ × (ℕ × Timed T))) → count_by (has_id id) pairs ≡ 0 → AllByRecursion (λ k. nat_eq id k ≡ false) (keys_of (seen_pairs pairs))
  apart_keys id [] none = tt
  apart_keys id (pair ∷ pairs) none =
      let split = count-cons (has_id id) pair pairs in
      (ne_eqb id pair.0 (λ same. omega (arith, none, split, one_of_id id pair same)), apart_keys id pairs (omega (arith, none, split)))

  pub unique_seen : (pairs : List (ℕ × (ℕ × Timed T))) → AreDistinct pairs → IsUnique (seen_pairs pairs)
  unique_seen [] distinct = none_distinct
  unique_seen (pair ∷ pairs) distinct =
      IsDistinct-cons nat_eq pair.0 (keys_of (seen_pairs pairs))
      (apart_keys pair.0 pairs (omega (arith, distinct pair.0, count-cons (has_id pair.0) pair pairs, one_of_id pair.0 pair refl)))
      (unique_seen pairs (λ id. omega (arith, distinct id, count-cons (has_id id) pair pairs)))

  pub seen_len : (pairs : List (ℕ × (ℕ × Timed T))) → length (seen_pairs pairs) ≡ length pairs
  seen_len pairs = length-map pairs seen_pair

  pub seen_none : (pairs : List (ℕ × (ℕ × Timed T))) (seen : List (ℕ × Held T)) → seen_pairs pairs ≡ seen → seen ≡ [] → pairs ≡ []
  seen_none pairs seen view none = nil_from_length pairs (sym (seen_len pairs) ∙ ap (λ (es : List (ℕ × Held T)). length es) (view ∙ none))

  -- whether something is held of an id
  pub holds_same : (pairs : List (ℕ × (ℕ × Timed T))) (seen : List (ℕ × Held T)) (id : ℕ) (o : Option (Bor (ℕ × Timed T))) → seen_pairs pairs ≡ seen
      → option_copied o ≡ value_of pairs id → is_some o ≡ is_some (held_at seen id)
  holds_same pairs seen id o view is =
      copied_some o ∙ (ap (λ (p : Option (ℕ × Timed T)). is_some p) is ∙ (sym (mapped (value_of pairs id))
      ∙ (sym (ap (λ (p : Option (Held T)). is_some p) (held_value pairs id)) ∙ ap (λ (es : List (ℕ × Held T)). is_some (held_at es id)) view)))
    where
      mapped : (p : Option (ℕ × Timed T)) → is_some (option_map held_of p) ≡ is_some p
      mapped None = refl
      mapped (Some v) = refl

  pub seen_keys : (pairs : List (ℕ × (ℕ × Timed T))) → map (λ (pair : ℕ × (ℕ × Timed T)). pair.0) pairs ≡ keys_of (seen_pairs pairs)
  seen_keys [] = refl
  seen_keys (pair ∷ pairs) = ap (λ (ks : List ℕ). pair.0 ∷ ks) (seen_keys pairs)

  -- an id gets another spot
  number_here : (pair : ℕ × (ℕ × Timed T)) (pairs : List (ℕ × (ℕ × Timed T))) (id number : ℕ) → id ≡ pair.0
      → with_number (pair ∷ pairs) id number ≡ (pair.0, (number, pair.1.1)) ∷ pairs
  number_here pair pairs id number e = rw (eq-eqb id pair.0 e) refl

  number_later : (pair : ℕ × (ℕ × Timed T)) (pairs : List (ℕ × (ℕ × Timed T))) (id number : ℕ) → id ≢ pair.0
      → with_number (pair ∷ pairs) id number ≡ pair ∷ with_number pairs id number
  number_later pair pairs id number ne = rw (ne_eqb id pair.0 ne) refl

  -- nothing of it is seen where the slot is the same
  pub seen_number : (pairs : List (ℕ × (ℕ × Timed T))) (id number : ℕ)
      → ((value : ℕ × Timed T) → value_of pairs id ≡ Some value → value.0 / 18014398509481984 ≡ number / 18014398509481984)
      → seen_pairs (with_number pairs id number) ≡ seen_pairs pairs
  seen_number [] id number same = refl
  seen_number (pair ∷ pairs) id number same =
      ⊎_elim
      (λ e.
      ap seen_pairs (number_here pair pairs id number e)
      ∙ (λ i. (pair.0, record { due = pair.1.1.due; order = pair.1.1.order; slot = sym (same pair.1 (value_here id pair pairs e)) i; item = pair.1.1.item }) ∷ seen_pairs pairs))
      (λ ne.
      ap seen_pairs (number_later pair pairs id number ne)
      ∙ ap (λ (es : List (ℕ × Held T)). seen_pair pair ∷ es) (seen_number pairs id number (λ value is. same value (value_later id pair pairs ne ∙ is))))
      (cases_eq id pair.0)

  -- sums
  pub sum_number : (f : ℕ × Held T → ℕ) (pairs : List (ℕ × (ℕ × Timed T))) (id number : ℕ) (value : ℕ × Timed T) → value_of pairs id ≡ Some value
      → sum_by f (seen_pairs (with_number pairs id number)) + f (id, held_of value) ≡ sum_by f (seen_pairs pairs) + f (id, held_of (number, value.1))
  sum_number f [] id number value is = absurd (none-some value is)
  sum_number f (pair ∷ pairs) id number value is =
      ⊎_elim
      (λ e.
      let own : pair.1 ≡ value = same_Some pair.1 value (sym (value_here id pair pairs e) ∙ is) in
      let now = ap (λ (ps : List (ℕ × (ℕ × Timed T))). sum_by f (seen_pairs ps)) (number_here pair pairs id number e) in
      let new = sum_by-cons f (seen_pair (pair.0, (number, pair.1.1))) (seen_pairs pairs) in
      let old = sum_by-cons f (seen_pair pair) (seen_pairs pairs) in
      let a : f (id, held_of value) ≡ f (seen_pair pair) = (λ i. f (e i, held_of (sym own i))) in
      let b : f (id, held_of (number, value.1)) ≡ f (seen_pair (pair.0, (number, pair.1.1))) = (λ i. f (e i, held_of (number, (sym own i).1))) in
      omega (arith, now, new, old, a, b))
      (λ ne.
      let rest = sum_number f pairs id number value (sym (value_later id pair pairs ne) ∙ is) in
      let now = ap (λ (ps : List (ℕ × (ℕ × Timed T))). sum_by f (seen_pairs ps)) (number_later pair pairs id number ne) in
      let new = sum_by-cons f (seen_pair pair) (seen_pairs (with_number pairs id number)) in
      let old = sum_by-cons f (seen_pair pair) (seen_pairs pairs) in
      omega (arith, rest, now, new, old))
      (cases_eq id pair.0)
