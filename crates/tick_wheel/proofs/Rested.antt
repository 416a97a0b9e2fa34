-- The rest of a wheel: its cells in order, and what leaves them.
use Rattle.std.proofs.Common.{zero, suc, ◌≡◌, ◌≢◌, ℕ, ◌+◌, ◌-◌, ◌^◌, ◌<◌, ◌≤◌, ◌==◌, true, false, cond, nat_eq, List, [], ◌∷◌, ◌++◌, length, map, take, drop, get_or, slice_get, Option, Some, None, option_map, option_to_list, refl, sym, ap, ◌∙◌, subst, arith, ⊎_elim}
use Rattle.std.specs.Cmp.{nat_eq_equiv}
use Rattle.std.specs.List.{flat_map, sum_by, IsDistinct, AllByRecursion, Contains}
use Rattle.std.specs.List.Sorted.{IsPermutation, IsNonDecreasingBy}
use Rattle.std.specs.Map.{keys_of}
use Rattle.std.specs.Option.{MatchOption}
use Rattle.std.proofs.lemmas.Bool.{cases_eq}
use Rattle.std.proofs.lemmas.Grind.{common_steps}
use Rattle.std.proofs.lemmas.List.{append-nil, append_assoc, length_push, length-map, get_or_default, get_or_append_left, get_or_push, nil_from_length, take_at}
use Rattle.std.proofs.lemmas.List.Elements.{Contains-append_left, Contains-append_right, Contains-append_cases}
use Rattle.std.proofs.lemmas.List.Sorted.{Contains-permutation, IsPermutation-sym, sum_by-IsPermutation}
use Rattle.std.proofs.lemmas.List.Sums.{sum_by-append, sum_by-cons}
use Rattle.std.proofs.lemmas.Map.Keys.{IsDistinct-head, IsDistinct-tail}
use Rattle.std.proofs.lemmas.Map.Views.{Contains-from_lookup, lookup-from_Contains}
use Rattle.std.proofs.lemmas.Option.{none-some, same_Some, slice_get-map, slice_get-get_or, slice_get_within, get_or_from_slice_get}
use Rattle.id_table.specs.Cells.{pair_of}
use Rattle.tick_wheel.specs.declared.timed.Timed.{Timed}
use Rattle.tick_wheel.specs.declared.timer.Timer.{Timer}
use Rattle.tick_wheel.specs.Kept.{IsKept, numbered, timers_of}
use Rattle.tick_wheel.specs.Place.{IsAhead}
use Rattle.tick_wheel.specs.Held.{Held, held_of, seen_pair, seen_pairs}
use Rattle.tick_wheel.specs.Resting.{Entry, Fit, IsPacked, IsResting, entries_back, key_of, key_of_entry, rest_seen, timer_of_entry}
use Rattle.tick_wheel.specs.Table.{Index, AreApart, held_at, timer_of}
use Rattle.tick_wheel.specs.TimerList.{by_due}
use Rattle.tick_wheel.proofs.Counting.{ones}
use Rattle.tick_wheel.proofs.Flat.{flat_from, flat_into, option_from, option_into}
use Rattle.tick_wheel.proofs.RestOrder.{here, Ascends, ascends_push, rest_order, first_or_later}
use Rattle.tick_wheel.proofs.Views.{numbered_sorted, found_held, held_found}

pub match_none : {X : Type 0} (o : Option X) (P : Type 0) (Q : X → Type 0) → o ≡ None → P → MatchOption o P Q
match_none {X = X} o P Q is p = subst (λ (q : Option X). MatchOption q P Q) (sym is) p

-- a sum over what stands in a list of options
or_zero : {X : Type 0} (f : X → ℕ) → Option X → ℕ
or_zero f None = 0
or_zero f (Some x) = f x

sum_option : {X : Type 0} (f : X → ℕ) (o : Option X) → sum_by f (option_to_list o) ≡ or_zero f o
unfolding or_zero
sum_option f None = refl
sum_option f (Some x) = omega (arith, sum_by-cons f x [])

sum_map : {X Y : Type 0} (f : Y → ℕ) (g : X → Y) (xs : List X) → sum_by f (map g xs) ≡ sum_by (λ x. f (g x)) xs
sum_map f g [] = refl
sum_map f g (x ∷ xs) = omega (arith, sum_by-cons f (g x) (map g xs), sum_map f g xs, sum_by-cons (λ y. f (g y)) x xs)

-- what is in a mapped list is made of something
mapped_from : {X Y : Type 0} (g : X → Y) (xs : List X) (y : Y) → Contains (map g xs) y → (x : X) × Contains xs x × (g x ≡ y)
mapped_from {X = X} {Y = Y} g xs y c =
    let at : slice_get (map g xs) c.0 ≡ Some y = slice_get-get_or (map g xs) c.0 y c.1 ∙ ap Some c.2 in
    let r = made (slice_get xs c.0) (sym (slice_get-map g xs c.0) ∙ at) in
    (r.0, (c.0, slice_get_within xs c.0 r.0 r.1, get_or_from_slice_get xs c.0 r.0 r.0 r.1), r.2)
  where
    made : (o : Option X) → option_map g o ≡ Some y → (x : X) × (o ≡ Some x) × (g x ≡ y)
    made None is = absurd (none-some y is)
    made (Some x) is = (x, refl, same_Some (g x) y is)

mapped_into : {X Y : Type 0} (g : X → Y) (xs : List X) (x : X) → Contains xs x → Contains (map g xs) (g x)
mapped_into {X = X} {Y = Y} g xs x c =
    let at : slice_get xs c.0 ≡ Some x = slice_get-get_or xs c.0 x c.1 ∙ ap Some c.2 in
    let there : slice_get (map g xs) c.0 ≡ Some (g x) = slice_get-map g xs c.0 ∙ ap (option_map g) at in
    (c.0, slice_get_within (map g xs) c.0 (g x) there, get_or_from_slice_get (map g xs) c.0 (g x) (g x) there)

abbrev one_if_same : ℕ → ℕ → ℕ
one_if_same a b = cond (a == b) 1 0

module _ {A : Type 0} where
  -- the entries from the last cell to the first
  back_push : (ls : List (Option (Entry A))) (o : Option (Entry A)) → entries_back (ls ++ o ∷ []) ≡ option_to_list o ++ entries_back ls
  back_push [] o = sym (append-nil (option_to_list o))
  back_push (l ∷ ls) o =
      ap (λ (es : List (Entry A)). es ++ option_to_list l) (back_push ls o) ∙ append_assoc (option_to_list o) (entries_back ls) (option_to_list l)

  back_from : (ls : List (Option (Entry A))) (e : Entry A) → Contains (entries_back ls) e → Contains ls (Some e)
  back_from [] e c = absurd (omega (arith, c.1))
  back_from (l ∷ ls) e c = ⊎_elim
      (λ behind. let r = back_from ls e behind in (suc r.0, omega (arith, r.1), r.2))
      (λ first. (zero, omega arith, option_from l e first))
      (Contains-append_cases (entries_back ls) (option_to_list l) e c)

  back_into : (ls : List (Option (Entry A))) (e : Entry A) → Contains ls (Some e) → Contains (entries_back ls) e
  back_into [] e c = absurd (omega (arith, c.1))
  back_into (l ∷ ls) e c = ⊎_elim
      (λ first. Contains-append_right (entries_back ls) (option_to_list l) e (option_into l e first))
      (λ behind. Contains-append_left (entries_back ls) (option_to_list l) e (back_into ls e behind))
      (first_or_later l ls (Some e) c)

  sum_back : (f : Entry A → ℕ) (ls : List (Option (Entry A))) → sum_by f (entries_back ls) ≡ sum_by (or_zero f) ls
  sum_back f [] = refl
  sum_back f (l ∷ ls) = omega (arith, sum_by-append f (entries_back ls) (option_to_list l), sum_option f l, sum_back f ls, sum_by-cons (or_zero f) l ls)

  none_back : (ls : List (Option (Entry A))) → ((k : ℕ) → get_or ls k None ≡ None) → entries_back ls ≡ []
  none_back [] none = refl
  none_back (None ∷ ls) none = append-nil (entries_back ls) ∙ none_back ls (λ k. none (suc k))
  none_back (Some e ∷ ls) none = absurd (none-some e (sym (none zero)))

  back_none : (ls : List (Option (Entry A))) → entries_back ls ≡ [] → (k : ℕ) → get_or ls k None ≡ None
  back_none [] is k = refl
  back_none (None ∷ ls) is zero = refl
  back_none (None ∷ ls) is (suc k) = back_none ls (sym (append-nil (entries_back ls)) ∙ is) k
  back_none (Some e ∷ ls) is k = absurd (omega (arith, length_push (entries_back ls) e, ap (λ (es : List (Entry A)). length es) is))

  -- the pairs of cells
  pair_from : (o : Option (Entry A)) (p : ℕ × (ℕ × Timed A)) → Contains (pair_of o) p → (e : Entry A) × (o ≡ Some e) × ((e.id, e.value) ≡ p)
  pair_from None p c = absurd (omega (arith, c.1))
  pair_from (Some e) p c = ⊎_elim (λ first. (e, refl, first)) (λ behind. absurd (omega (arith, behind.1))) (first_or_later (e.id, e.value) [] p c)

  sum_pair : (f : ℕ × (ℕ × Timed A) → ℕ) (o : Option (Entry A)) → sum_by f (pair_of o) ≡ or_zero (λ (e : Entry A). f (e.id, e.value)) o
  unfolding or_zero
  sum_pair f None = refl
  sum_pair f (Some e) = omega (arith, sum_by-cons f (e.id, e.value) [])

  sum_cells : (f : ℕ × (ℕ × Timed A) → ℕ) (os : List (Option (Entry A))) → sum_by f (flat_map pair_of os) ≡ sum_by (or_zero (λ (e : Entry A). f (e.id, e.value))) os
  sum_cells f [] = refl
  sum_cells f (o ∷ os) =
      omega (arith, sum_by-append f (pair_of o) (flat_map pair_of os), sum_pair f o, sum_cells f os, sum_by-cons (or_zero (λ (e : Entry A). f (e.id, e.value))) o os)

  -- a rest that is seen as nothing has empty cells alone
  pub seen_none : (ls : List (Option (Entry A))) (v : List (Timer A)) → rest_seen ls ≡ v → v ≡ [] → (k : ℕ) → get_or ls k None ≡ None
  seen_none ls v seen none =
      back_none ls (nil_from_length (entries_back ls) (omega (arith, length-map (entries_back ls) timer_of_entry, ap (λ (ts : List (Timer A)). length ts) (seen ∙ none))))

  pub seen_left : (left : ℕ) (ls : List (Option (Entry A))) (v : List (Timer A)) → IsResting left ls → rest_seen ls ≡ v → left ≡ length v
  seen_left left ls v rest seen = rest.size ∙ sym (length-map (entries_back ls) timer_of_entry) ∙ ap (λ (ts : List (Timer A)). length ts) seen

  packed_front : (ls : List (Option (Entry A))) (o : Option (Entry A)) → IsPacked (ls ++ o ∷ []) → IsPacked ls
  packed_front ls o packed i j e le low some none =
      packed i j e le (omega (arith, low, length_push ls o)) (get_or_append_left ls (o ∷ []) None i (omega (arith, le, low)) ∙ some)
      (get_or_append_left ls (o ∷ []) None j low ∙ none)

  popped_is : (ls new : List (Option (Entry A))) (r : Option (Option (Entry A))) (cell : Option (Entry A)) → ls ≡ new ++ option_to_list r → r ≡ Some cell → ls ≡ new ++ cell ∷ []
  popped_is ls new r cell is some = is ∙ ap (λ (o : Option (Option (Entry A))). new ++ option_to_list o) some

  -- the last cell is empty: nothing is left
  pub none_popped : (left : ℕ) (ls new : List (Option (Entry A))) (r : Option (Option (Entry A))) (cell : Option (Entry A)) → IsResting left ls → ls ≡ new ++ option_to_list r
      → r ≡ Some cell → cell ≡ None → IsResting left new × ((rest_seen ls ≡ []) × (rest_seen new ≡ []))
  none_popped left ls new r cell rest is some none =
      let all : ls ≡ new ++ None ∷ [] = popped_is ls new r cell is some ∙ ap (λ (o : Option (Entry A)). new ++ o ∷ []) none in
      let packed : IsPacked (new ++ None ∷ []) = subst (λ (xs : List (Option (Entry A))). IsPacked xs) all rest.packed in
      let empty : entries_back new ≡ [] = none_back new (λ k. each k packed (get_or new k None) refl) in
      let back : entries_back ls ≡ entries_back new = ap entries_back all ∙ back_push new None in (
        record { size = rest.size ∙ ap (λ (es : List (Entry A)). length es) back; packed = packed_front new None packed },
        (ap (map timer_of_entry) (back ∙ empty), ap (map timer_of_entry) empty),
      )
    where
      each : (k : ℕ) → IsPacked (new ++ None ∷ []) → (o : Option (Entry A)) → get_or new k None ≡ o → get_or new k None ≡ None
      each k packed None at = at
      each k packed (Some e) at =
          let low : k < length new = slice_low new k e at in
          absurd (packed k (length new) e (omega (arith, low)) (omega (arith, length_push new None)) (get_or_append_left new (None ∷ []) None k low ∙ at) (get_or_push new None None (length new) refl))
        where
          slice_low : (xs : List (Option (Entry A))) (k : ℕ) (e : Entry A) → get_or xs k None ≡ Some e → k < length xs
          slice_low [] k e at = absurd (none-some e at)
          slice_low (x ∷ xs) zero e at = omega arith
          slice_low (x ∷ xs) (suc k) e at = let r = slice_low xs k e at in omega (arith, r)

  -- an entry leaves
  pub some_popped : (left : ℕ) (ls new : List (Option (Entry A))) (r : Option (Option (Entry A))) (cell : Option (Entry A)) (e : Entry A) → IsResting left ls
      → ls ≡ new ++ option_to_list r → r ≡ Some cell → cell ≡ Some e → (1 ≤ left) × IsResting (left - 1) new × (rest_seen ls ≡ timer_of_entry e ∷ rest_seen new)
  some_popped left ls new r cell e rest is some at =
      let all : ls ≡ new ++ Some e ∷ [] = popped_is ls new r cell is some ∙ ap (λ (o : Option (Entry A)). new ++ o ∷ []) at in
      let back : entries_back ls ≡ e ∷ entries_back new = ap entries_back all ∙ back_push new (Some e) in
      let size : left ≡ length (entries_back new) + 1 = rest.size ∙ ap (λ (es : List (Entry A)). length es) back ∙ (omega arith) in (
        omega (arith, size),
        record { size = omega (arith, size); packed = packed_front new (Some e) (subst (λ (xs : List (Option (Entry A))). IsPacked xs) all rest.packed) },
        ap (map timer_of_entry) back,
      )

  -- entries that are ordered by their keys ascend from the last cell on
  ascends_back : (ls : List (Option (Entry A))) → IsNonDecreasingBy key_of ls → ((e : Entry A) → Contains ls (Some e) → key_of_entry e < 340282366920938463463374607431768211455)
      → Ascends (entries_back ls)
  unfolding Ascends
  ascends_back [] rises fits = tt
  ascends_back (l ∷ ls) rises fits =
      let rest : Ascends (entries_back ls) = ascends_back ls (λ i j d le low. rises (suc i) (suc j) d (omega (arith, le)) (omega (arith, low))) (λ e c. fits e (suc c.0, omega (arith, c.1), c.2)) in
      one l refl rest
    where
      one : (o : Option (Entry A)) → l ≡ o → Ascends (entries_back ls) → Ascends (entries_back ls ++ option_to_list o)
      one None is rest = subst Ascends (sym (append-nil (entries_back ls))) rest
      one (Some e) is rest = ascends_push (entries_back ls) e rest (λ x c.
          let there = back_from ls x c in
          let le = rises zero (suc there.0) (Some x) (omega arith) (omega (arith, there.1)) in
          let first : key_of l ≡ 340282366920938463463374607431768211455 - key_of_entry e = ap key_of is in
          let last : key_of (get_or ls there.0 (Some x)) ≡ 340282366920938463463374607431768211455 - key_of_entry x = ap key_of there.2 in
          let high = fits e (zero, omega arith, is) in
          let also = fits x (suc there.0, omega (arith, there.1), there.2) in
          omega (arith, le, first, last, high, also))

  -- the ids of an index
  none_count : (k : ℕ) (xs : Index A) → AllByRecursion (λ y. nat_eq k y ≡ false) (keys_of xs) → sum_by (λ (x : ℕ × Held A). cond (x.0 == k) 1 0) xs ≡ 0
  none_count k [] all = refl
  none_count k (x ∷ xs) all = omega (arith, sum_by-cons (λ (x : ℕ × Held A). cond (x.0 == k) 1 0) x xs, other k x.0 all.0, none_count k xs all.1)
    where
      other : (a b : ℕ) → nat_eq a b ≡ false → one_if_same b a ≡ 0
      other a b f = grind (arith, common_steps)

  count_ids : (xs : Index A) (q : ℕ) → IsDistinct nat_eq (keys_of xs) → sum_by (λ (x : ℕ × Held A). cond (x.0 == q) 1 0) xs ≤ 1
  count_ids [] q distinct = omega arith
  count_ids (x ∷ xs) q distinct =
      ⊎_elim
      (λ same.
      let none : sum_by (λ (y : ℕ × Held A). cond (y.0 == q) 1 0) xs ≡ 0 =
      subst (λ k. sum_by (λ (y : ℕ × Held A). cond (y.0 == k) 1 0) xs ≡ 0) same (none_count x.0 xs (IsDistinct-head nat_eq x.0 (keys_of xs) distinct)) in
      omega (arith, sum_by-cons (λ (y : ℕ × Held A). cond (y.0 == q) 1 0) x xs, none, most x.0 q))
      (λ ne. omega (arith, sum_by-cons (λ (y : ℕ × Held A). cond (y.0 == q) 1 0) x xs, apart x.0 q ne, count_ids xs q (IsDistinct-tail nat_eq x.0 (keys_of xs) distinct)))
      (cases_eq x.0 q)
    where
      most : (a b : ℕ) → one_if_same a b ≤ 1
      most a b = grind (arith, common_steps)

      apart : (a b : ℕ) → a ≢ b → one_if_same a b ≡ 0
      apart a b ne = grind (arith, common_steps)

  -- a wheel's cells in order
  module _ (index : Index A) (ls sorted : List (Option (Entry A))) (unique : AreApart index) (fits : Fit index) (all_is : seen_pairs (flat_map pair_of ls) ≡ index)
      (same : IsPermutation ls sorted) (rises : IsNonDecreasingBy key_of sorted) where
    -- an entry of a cell is held
    cell_held : (e : Entry A) → Contains sorted (Some e) → held_at index e.id ≡ Some (held_of e.value)
    cell_held e c =
        let pair = flat_into pair_of ls (Some e) (e.id, e.value) (Contains-permutation sorted ls (Some e) (IsPermutation-sym ls sorted same) c) (here (e.id, e.value) []) in
        let there = subst (λ (es : Index A). Contains es (e.id, held_of e.value)) all_is (mapped_into seen_pair (flat_map pair_of ls) (e.id, e.value) pair) in
        lookup-from_Contains nat_eq_equiv e.id (held_of e.value) index unique.unique there

    -- what is held lies in a cell
    held_cell : (id : ℕ) (h : Held A) → held_at index id ≡ Some h → (e : Entry A) × Contains sorted (Some e) × (seen_pair (e.id, e.value) ≡ (id, h))
    held_cell id h is =
        let there = subst (λ (es : Index A). Contains es (id, h)) (sym all_is) (Contains-from_lookup equal_keys id h index is) in
        let pair = mapped_from seen_pair (flat_map pair_of ls) (id, h) there in
        let cell = flat_from pair_of ls pair.0 pair.1 in
        let entry = pair_from cell.0 pair.0 cell.2 in
        (entry.0, Contains-permutation ls sorted (Some entry.0) same (subst (λ (o : Option (Entry A)). Contains ls o) entry.1 cell.1), ap seen_pair entry.2 ∙ pair.2)
      where
        equal_keys : (a b : ℕ) → nat_eq a b ≡ true → a ≡ b
        equal_keys a b t = grind (arith, common_steps)

    cell_fits : (e : Entry A) → Contains sorted (Some e) → (key_of_entry e < 340282366920938463463374607431768211455) × (e.value.1.order < 18446744073709551616)
    cell_fits e c =
        let f = fits e.id (held_of e.value) (cell_held e c) in
        (omega (arith, f.0, f.1), f.1)

    -- sums are the same
    sum_index : (f : ℕ × Held A → ℕ) → sum_by (λ (e : Entry A). f (e.id, held_of e.value)) (entries_back sorted) ≡ sum_by f index
    sum_index f =
        sum_back (λ (e : Entry A). f (e.id, held_of e.value)) sorted ∙ sum_by-IsPermutation (or_zero (λ (e : Entry A). f (e.id, held_of e.value))) ls sorted same
        ∙ sym (sum_cells (λ (p : ℕ × (ℕ × Timed A)). f (seen_pair p)) ls) ∙ sym (sum_map f seen_pair (flat_map pair_of ls)) ∙ ap (sum_by f) all_is

    pub rested_kept : (left : ℕ) → left ≡ length index → IsResting left sorted
    rested_kept left is = record {
      size = is ∙ sym (ones index) ∙ sym (sum_index (λ _. 1)) ∙ ones (entries_back sorted);
      packed = λ i j e le low some none.
          let c : Contains sorted (Some e) = (i, omega (arith, le, low), at_default sorted i (Some e) (omega (arith, le, low)) some) in
          let f = cell_fits e c in
          let r = rises i j None le low in
          let first : key_of (get_or sorted i None) ≡ 340282366920938463463374607431768211455 - key_of_entry e = ap key_of some in
          let last : key_of (get_or sorted j None) ≡ 0 = ap key_of none in
          omega (arith, r, first, last, f.0);
    }
      where
        at_default : (xs : List (Option (Entry A))) (k : ℕ) (x : Option (Entry A)) → k < length xs → get_or xs k None ≡ x → get_or xs k x ≡ x
        at_default xs k x low is = get_or_default xs k x None low ∙ is

    pub rested_seen : rest_seen sorted ≡ by_due (timers_of index)
    rested_seen =
        rest_order (entries_back sorted) (numbered index) (numbered_sorted index)
        (λ e c. held_found index e.id (held_of e.value) unique (cell_held e (back_from sorted e c)))
        (λ k t f.
        let m = found_held index k t unique f in
        let r = held_cell t.id m.0 m.1 in (
          r.0,
          back_into sorted r.0 r.1,
          ap (λ (x : ℕ × Held A). x.1.order) r.2 ∙ ap (λ (x : ℕ × Timer A). x.0) m.2,
          ap (λ (x : ℕ × Held A). timer_of x.0 x.1) r.2 ∙ ap (λ (x : ℕ × Timer A). x.1) m.2,
        ))
        (λ k l t u f g id.
        let m = found_held index k t unique f in
        let n = found_held index l u unique g in
        let one : m.0 ≡ n.0 = same_Some m.0 n.0 (sym m.1 ∙ ap (held_at index) id ∙ n.1) in
        sym (ap (λ (r : ℕ × Timer A). r.0) m.2) ∙ ap (λ (h : Held A). h.order) one ∙ ap (λ (r : ℕ × Timer A). r.0) n.2)
        (λ q. let most = count_ids index q unique.unique in omega (arith, sum_index (λ (x : ℕ × Held A). cond (x.0 == q) 1 0), most))
        (ascends_back sorted rises (λ e c. (cell_fits e c).0))
        (λ e c. (cell_fits e (back_from sorted e c)).1)

  -- as the code hands them on
  pub rested_back : (index : Index A) (ls lent sorted back : List (Option (Entry A))) (left : ℕ) → AreApart index → Fit index → seen_pairs (flat_map pair_of ls) ≡ index → lent ≡ ls
      → IsPermutation lent sorted → IsNonDecreasingBy key_of sorted → back ≡ sorted → left ≡ length index
      → IsResting left back × (rest_seen back ≡ by_due (timers_of index))
  rested_back index ls lent sorted back left apart fits all_is lent_is same rises back_is left_is =
      let same' : IsPermutation ls sorted = subst (λ (xs : List (Option (Entry A))). IsPermutation xs sorted) lent_is same in (
        subst (λ (xs : List (Option (Entry A))). IsResting left xs) (sym back_is) (rested_kept index ls sorted apart fits all_is same' rises left left_is),
        ap rest_seen back_is ∙ rested_seen index ls sorted apart fits all_is same' rises,
      )

  pub given_back : (ws xs : List (Option (Entry A))) (n : ℕ) → length ws ≡ n → take n (ws ++ drop (length ws) xs) ≡ ws
  given_back ws xs n size = take_at ws (drop (length ws) xs) n size

  pub kept_fits : (tick next : ℕ) (index : Index A) → IsKept tick next index → Fit index
  kept_fits tick next index kept id h is =
      (due_bound tick h.due h.slot (kept.ahead id h is) kept.now, (let last = kept.last in omega (arith, kept.below id h is, last)))
    where
      due_bound : (now due slot : ℕ) → IsAhead now due slot → now ≤ 2 ^ 63 → due < 18446744073709551615
      due_bound now due slot ahead low = grind (arith, ahead.finest, ahead.second, ahead.third, ahead.coarsest, ahead.within)
