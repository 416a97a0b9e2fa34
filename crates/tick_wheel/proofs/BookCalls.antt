-- What the calls of a book make of its table, its slots and its index.
use Rattle.std.proofs.Common.{◌≡◌, ◌≢◌, ℕ, zero, suc, ◌+◌, ◌-◌, ◌*◌, ◌/◌, ◌%◌, ◌<◌, ◌≤◌, ◌==◌, cond, nat_eq, List, [], ◌∷◌, ◌++◌, length, take, get_or, slice_get, Option, Some, None, Result, Ok, Err, slice_index, option_map, option_to_list, is_some, true, false, refl, sym, ap, ◌∙◌, subst, arith, ⊎_elim}
use Rattle.std.specs.List.{sum_by, Contains}
use Rattle.std.proofs.lemmas.List.{append-nil, append_assoc}
use Rattle.std.proofs.lemmas.List.Elements.{Contains-append_left, Contains-append_right, Contains-append_cases}
use Rattle.std.specs.List.Sorted.{IsPermutation}
use Rattle.std.proofs.lemmas.List.Sorted.{Contains-permutation, IsPermutation-sym}
use Rattle.std.specs.Option.{IsSome, IfNone}
use Rattle.std.specs.Result.{OnOk}
use Rattle.std.proofs.lemmas.Bool.{cases_eq}
use Rattle.std.proofs.lemmas.Grind.{common_steps}
use Rattle.std.proofs.lemmas.Option.{none-some, same_Some}
use Rattle.id_table.specs.Pairs.{value_of, with_number, AreDistinct}
use Rattle.timer_slots.specs.Seen.{SlotsSeen, id_in, list_of, next_of, spot_at, tail_at, tail_of, times}
use Rattle.timer_slots.specs.Steps.{Puts, Moves}
use Rattle.tick_wheel.specs.Book.{IsBook, IsDueFrom, IsGone, IsPut, key_list, key_of_value, key_option, keys_from, spot_of}
use Rattle.tick_wheel.specs.Held.{Held, held_in, held_of, seen_pairs}
use Rattle.tick_wheel.specs.Place.{slot_for}
use Rattle.tick_wheel.specs.Table.{IsLeft, PlacesAnew, ListsIds, held_at, moved}
use Rattle.tick_wheel.specs.declared.timed.Timed.{Timed}
use Rattle.tick_wheel.proofs.Flat.{option_from, option_into}
use Rattle.tick_wheel.proofs.Booked.{at_yes, at_no, held_has, held_same, value_held, free_value, free_held, spot_has, value_spot, free_spot, unique_seen, seen_number, sum_number}
use Rattle.tick_wheel.proofs.Inverse.{inverse_add, inverse_drop, inverse_move}

is_not_none : {X : Type 0} (o : Option X) (x : X) → o ≡ Some x → o ≢ None
is_not_none o x is none = none-some x (sym none ∙ is)

to_some : {X : Type 0} (o : Option X) (x : X) → o ≡ Some x → IsSome o
to_some {X = X} o x is = ap (λ (p : Option X). is_some p) is

pub if_none : {X : Type 0} (o : Option X) (P : Type 0) → o ≡ None → P → IfNone o P
if_none {X = X} o P is p = subst (λ (q : Option X). IfNone q P) (sym is) p

pub put_stands : (slots mid : SlotsSeen) (slot id spot : ℕ) → Puts slots mid slot id spot → IsSome (spot_at mid spot)
put_stands slots mid slot id spot puts = to_some (spot_at mid spot) id (puts.values spot ∙ at_yes spot spot (Some id) (spot_at slots spot) refl)

pub on_ok : {X E : Type 0} (r : Result X E) (P : Type 0) → P → OnOk r P
on_ok (Ok x) P p = p
on_ok (Err e) P p = tt

pub equal_zero : (n : ℕ) → nat_eq n 0 ≡ true → n ≡ 0
equal_zero n t = grind (arith, common_steps)

plus_zero : (n : ℕ) → n + 0 ≡ n
plus_zero n = omega arith

one_more : (n : ℕ) → suc n ≡ n + 1
one_more n = omega arith

next : (spot n : ℕ) → spot + 1 + n ≡ spot + suc n
next spot n = omega arith

-- a spot is its slot and its place
spot_slot : (spot slot place : ℕ) → place < 18014398509481984 → spot ≡ slot * 18014398509481984 + place → spot / 18014398509481984 ≡ slot
spot_slot spot slot place low is = omega (arith, low, is)

spot_parts : (spot slot : ℕ) → spot / 18014398509481984 ≡ slot → spot ≡ slot * 18014398509481984 + spot % 18014398509481984
spot_parts spot slot is = omega (arith, is)

-- where an id is seen at a spot, the slot's list has it there
in_list : (slots : SlotsSeen) (q id : ℕ) → spot_at slots q ≡ Some id → id_in slots.lists q ≡ Some id
in_list slots q id is =
    elim (times slots.late q == 0) as (λ b. cond b (id_in slots.lists q) None ≡ Some id → id_in slots.lists q ≡ Some id) [
      | true ↦ λ e. e
      | false ↦ λ e. absurd (none-some id e)
    ] is

none_where : (o : Option ℕ) → ((x : ℕ) → o ≡ Some x → ⊥) → o ≡ None
none_where None never = refl
none_where (Some x) never = absurd (never x refl)

module _ {T : Type 0} where
  -- the same ids at the same spots
  pub book_same : (pairs : List (ℕ × (ℕ × Timed T))) (slots new : SlotsSeen) → IsBook pairs slots → ((q : ℕ) → spot_at new q ≡ spot_at slots q) → IsBook pairs new
  book_same pairs slots new book same = record {
    linked = record {
      there = λ a b is. same b ∙ book.linked.there a b is;
      back = λ a b is. book.linked.back a b (sym (same b) ∙ is);
    };
    distinct = book.distinct;
  }

  -- an id comes
  module _ (old new : List (ℕ × (ℕ × Timed T))) (slots slots' : SlotsSeen) (slot id spot : ℕ) (timed : Timed T) (book : IsBook old slots)
      (puts : Puts slots slots' slot id spot) (free : held_at (seen_pairs old) id ≡ None)
      (values : (q : ℕ) → value_of new q ≡ cond (nat_eq q id) (Some (spot, timed)) (value_of old q)) (distinct : AreDistinct new) where
    spots : (q : ℕ) → spot_of new q ≡ cond (nat_eq q id) (Some spot) (spot_of old q)
    spots q = ⊎_elim
        (λ e. ap (option_map (λ (v : ℕ × Timed T). v.0)) (values q ∙ at_yes q id (Some (spot, timed)) (value_of old q) e) ∙ sym (at_yes q id (Some spot) (spot_of old q) e))
        (λ ne. ap (option_map (λ (v : ℕ × Timed T). v.0)) (values q ∙ at_no q id (Some (spot, timed)) (value_of old q) ne) ∙ sym (at_no q id (Some spot) (spot_of old q) ne))
        (cases_eq q id)

    pub put_book : IsBook new slots'
    put_book = record {
      linked = inverse_add (spot_of old) (spot_of new) (spot_at slots) (spot_at slots') id spot book.linked (free_spot old id (free_value old id free)) puts.free spots puts.values;
      distinct = distinct;
    }

    pub put_is : IsPut (seen_pairs old) (seen_pairs new) slot id timed
    put_is q = ⊎_elim
        (λ e.
        value_held new q (spot, timed) (values q ∙ at_yes q id (Some (spot, timed)) (value_of old q) (sym e))
        ∙ (ap (λ (s : ℕ). Some (held_in s timed)) puts.slot_is ∙ sym (at_yes id q (Some (held_in slot timed)) (held_at (seen_pairs old) q) e)))
        (λ ne. held_same old new q (values q ∙ at_no q id (Some (spot, timed)) (value_of old q) (λ e. ne (sym e))) ∙ sym (at_no id q (Some (held_in slot timed)) (held_at (seen_pairs old) q) ne))
        (cases_eq id q)

  -- an id that came and could not be held leaves again
  pub back_book : (pairs : List (ℕ × (ℕ × Timed T))) (slots mid new : SlotsSeen) (slot id spot : ℕ) → IsBook pairs slots → Puts slots mid slot id spot
      → ((q : ℕ) → spot_at new q ≡ cond (nat_eq q spot) None (spot_at mid q)) → IsBook pairs new
  back_book pairs slots mid new slot id spot book puts leaves =
      book_same pairs slots new book (λ q. ⊎_elim
      (λ e. leaves q ∙ (at_yes q spot None (spot_at mid q) e ∙ sym (ap (spot_at slots) e ∙ puts.free)))
      (λ ne. leaves q ∙ (at_no q spot None (spot_at mid q) ne ∙ (puts.values q ∙ at_no q spot (Some id) (spot_at slots q) ne)))
      (cases_eq q spot))

  -- an id leaves
  module _ (old new : List (ℕ × (ℕ × Timed T))) (slots : SlotsSeen) (id : ℕ) (value : ℕ × Timed T) (book : IsBook old slots) (was : value_of old id ≡ Some value) where
    pub gone_stands : IsSome (spot_at slots value.0)
    gone_stands = to_some (spot_at slots value.0) id (book.linked.there id value.0 (value_spot old id value was))

    pub gone_book : (slots' : SlotsSeen) → ((q : ℕ) → value_of new q ≡ cond (nat_eq q id) None (value_of old q)) → AreDistinct new
        → ((q : ℕ) → spot_at slots' q ≡ cond (nat_eq q value.0) None (spot_at slots q)) → IsBook new slots'
    gone_book slots' values distinct leaves = record {
      linked = inverse_drop (spot_of old) (spot_of new) (spot_at slots) (spot_at slots') id value.0 book.linked (value_spot old id value was)
          (λ q. ⊎_elim
          (λ e. free_spot new q (values q ∙ at_yes q id None (value_of old q) e) ∙ sym (at_yes q id None (spot_of old q) e))
          (λ ne. ap (option_map (λ (v : ℕ × Timed T). v.0)) (values q ∙ at_no q id None (value_of old q) ne) ∙ sym (at_no q id None (spot_of old q) ne))
          (cases_eq q id))
          leaves;
      distinct = distinct;
    }

    pub gone_was : (slot : ℕ) × (held_at (seen_pairs old) id ≡ Some (held_in slot value.1))
    gone_was = (value.0 / 18014398509481984, value_held old id value was)

  pub gone_is : (old new : List (ℕ × (ℕ × Timed T))) (id : ℕ) → ((q : ℕ) → value_of new q ≡ cond (nat_eq q id) None (value_of old q))
      → IsGone (seen_pairs old) (seen_pairs new) id
  gone_is old new id values q = ⊎_elim
      (λ e. free_held new q (values q ∙ at_yes q id None (value_of old q) (sym e)) ∙ sym (at_yes id q None (held_at (seen_pairs old) q) e))
      (λ ne. held_same old new q (values q ∙ at_no q id None (value_of old q) (λ e. ne (sym e))) ∙ sym (at_no id q None (held_at (seen_pairs old) q) ne))
      (cases_eq id q)

  -- an id is at another spot
  module _ (old new : List (ℕ × (ℕ × Timed T))) (slots slots' : SlotsSeen) (slot id from to : ℕ) (book : IsBook old slots) (moves : Moves slots slots' slot id from to) where
    pub moved_value : (value : ℕ × Timed T) × (value_of old id ≡ Some value) × (value.0 ≡ from)
    moved_value = spot_has old id from (book.linked.back id from moves.was)

    pub moved_held : value_of old id ≢ None
    moved_held = is_not_none (value_of old id) moved_value.0 moved_value.1

    module _ (list : new ≡ with_number old id to)
        (values : (q : ℕ) → value_of new q ≡ cond (nat_eq q id) (option_map (λ (value : ℕ × Timed T). (to, value.1)) (value_of old q)) (value_of old q))
        (distinct : AreDistinct new) where
      here : value_of new id ≡ Some (to, moved_value.0.1)
      here = values id ∙ (at_yes id id (option_map (λ (value : ℕ × Timed T). (to, value.1)) (value_of old id)) (value_of old id) refl
          ∙ ap (option_map (λ (value : ℕ × Timed T). (to, value.1))) moved_value.1)

      others : (q : ℕ) → q ≢ id → value_of new q ≡ value_of old q
      others q ne = values q ∙ at_no q id (option_map (λ (value : ℕ × Timed T). (to, value.1)) (value_of old q)) (value_of old q) ne

      pub moved_book : IsBook new slots'
      moved_book = record {
        linked = inverse_move (spot_of old) (spot_of new) (spot_at slots) (spot_at slots') id from to book.linked (book.linked.back id from moves.was) moves.free
            (λ q. ⊎_elim
            (λ e. ap (spot_of new) e ∙ (value_spot new id (to, moved_value.0.1) here ∙ sym (at_yes q id (Some to) (spot_of old q) e)))
            (λ ne. ap (option_map (λ (v : ℕ × Timed T). v.0)) (others q ne) ∙ sym (at_no q id (Some to) (spot_of old q) ne))
            (cases_eq q id))
            moves.values;
        distinct = distinct;
      }

      -- within its slot
      pub moved_seen : slot ≡ from / 18014398509481984 → seen_pairs new ≡ seen_pairs old
      moved_seen same =
          ap seen_pairs list
          ∙ seen_number old id to (λ value is.
          let own : moved_value.0 ≡ value = same_Some moved_value.0 value (sym moved_value.1 ∙ is) in
          ap (λ (v : ℕ × Timed T). v.0 / 18014398509481984) (sym own) ∙ (ap (λ (n : ℕ). n / 18014398509481984) moved_value.2 ∙ (sym same ∙ sym moves.slot_is)))

      -- into the slot where it belongs
      pub moved_anew : (first tick : ℕ) (value : ℕ × Timed T) → from / 18014398509481984 ≡ first → value_of old id ≡ Some value → slot ≡ slot_for tick value.1.due
          → PlacesAnew (seen_pairs old) (seen_pairs new) first tick
      moved_anew first tick value was_in own is =
          let v : ℕ × Timed T = moved_value.0 in
          let at_due : slot_for tick value.1.due ≡ slot_for tick v.1.due = ap (λ (w : ℕ × Timed T). slot_for tick w.1.due) (same_Some value v (sym own ∙ moved_value.1)) in
          let placed : held_of (to, v.1) ≡ moved (held_of v) (slot_for tick v.1.due) = ap (λ (s : ℕ). held_in s v.1) (moves.slot_is ∙ (is ∙ at_due)) in
          record {
            id = id;
            held = held_of v;
            was = value_held old id v moved_value.1;
            slot_is = ap (λ (n : ℕ). n / 18014398509481984) moved_value.2 ∙ was_in;
            at = λ q. ⊎_elim
                (λ e.
                ap (held_at (seen_pairs new)) (sym e)
                ∙ (value_held new id (to, v.1) here ∙ (ap (λ (h : Held T). Some h) placed ∙ sym (at_yes id q (Some (moved (held_of v) (slot_for tick v.1.due))) (held_at (seen_pairs old) q) e))))
                (λ ne.
                held_same old new q (others q (λ e. ne (sym e))) ∙ sym (at_no id q (Some (moved (held_of v) (slot_for tick v.1.due))) (held_at (seen_pairs old) q) ne))
                (cases_eq id q);
            unique = unique_seen new distinct;
            sums = λ f.
                let sum = sum_number f old id to v moved_value.1 in
                let now = ap (λ (ps : List (ℕ × (ℕ × Timed T))). sum_by f (seen_pairs ps)) list in
                let same = ap (λ (h : Held T). f (id, h)) placed in
                omega (arith, sum, now, same);
          }

  -- the last id in the list of the spot that is cleared next
  module _ (pairs : List (ℕ × (ℕ × Timed T))) (slots : SlotsSeen) (id from count : ℕ) (book : IsBook pairs slots) (from_is : from ≡ tail_at slots (count - 1))
      (count_is : count ≡ length slots.late) where
    tail_is : tail_of slots ≡ from
    tail_is = sym (from_is ∙ ap (λ n. tail_at slots (n - 1)) count_is)

    -- is held where the table has it there
    module _ (held : spot_of pairs id ≡ Some from) where
      tail_there : spot_at slots (tail_of slots) ≡ Some id
      tail_there = ap (spot_at slots) tail_is ∙ book.linked.there id from held

      pub tail_held : IsSome (spot_at slots (tail_of slots))
      tail_held = to_some (spot_at slots (tail_of slots)) id tail_there

      pub tail_moves : (new : SlotsSeen) (to : ℕ) → to ≡ get_or slots.late (count - 1) 0
          → ((own : ℕ) → spot_at slots (tail_of slots) ≡ Some own → Moves slots new (tail_of slots / 18014398509481984) own (tail_of slots) (next_of slots))
          → Moves slots new (from / 18014398509481984) id from to
      tail_moves new to to_is moves =
          subst (λ t. Moves slots new (from / 18014398509481984) id from t) (sym (to_is ∙ ap (λ n. get_or slots.late (n - 1) 0) count_is))
          (subst (λ f. Moves slots new (f / 18014398509481984) id f (next_of slots)) tail_is (moves id tail_there))

    -- and has left where it hasn't
    pub tail_left : spot_of pairs id ≢ Some from → ((own : ℕ) → spot_at slots from ≡ Some own → own ≡ id) → spot_at slots (tail_of slots) ≡ None
    tail_left other own =
        ap (spot_at slots) tail_is ∙ none_where (spot_at slots from) (λ x is. other (book.linked.back id from (is ∙ ap Some (own x is))))

  -- what is last in a slot
  pub left_of : (pairs : List (ℕ × (ℕ × Timed T))) (slots : SlotsSeen) (slot : ℕ) → IsBook pairs slots → ((q id : ℕ) → spot_at slots q ≡ Some id → q / 18014398509481984 ≢ slot)
      → IsLeft slot (seen_pairs pairs)
  left_of pairs slots slot book none id held is same =
      let v = held_has pairs id held is in
      none v.0.0 id (book.linked.there id v.0.0 (value_spot pairs id v.0 v.1)) (ap (λ (h : Held T). h.slot) v.2 ∙ same)

  pub found_there : (pairs : List (ℕ × (ℕ × Timed T))) (slots : SlotsSeen) (id spot : ℕ) → IsBook pairs slots → spot_at slots spot ≡ Some id → value_of pairs id ≢ None
  found_there pairs slots id spot book is =
      let v = spot_has pairs id spot (book.linked.back id spot is) in
      is_not_none (value_of pairs id) v.0 v.1

  pub found_due : (pairs : List (ℕ × (ℕ × Timed T))) (slots : SlotsSeen) (id spot slot tick : ℕ) (value : ℕ × Timed T) → IsBook pairs slots → spot_at slots spot ≡ Some id
      → spot / 18014398509481984 ≡ slot → value_of pairs id ≡ Some value → IsDueFrom (seen_pairs pairs) slot tick → tick ≤ value.1.due
  found_due pairs slots id spot slot tick value book is in_slot own due =
      let at : value.0 ≡ spot = same_Some value.0 spot (sym (value_spot pairs id value own) ∙ book.linked.back id spot is) in
      due id (held_of value) (value_held pairs id value own) (ap (λ (n : ℕ). n / 18014398509481984) at ∙ in_slot)

  -- the keys of ids at spots one behind the other
  keys_step : (pairs : List (ℕ × (ℕ × Timed T))) (spot : ℕ) (ids : List ℕ) (n : ℕ) → n < length ids
      → keys_from pairs spot (take n ids) ++ key_list pairs (spot + n) (get_or ids n 0) ≡ keys_from pairs spot (take (suc n) ids)
  keys_step pairs spot [] n low = absurd (omega (arith, low))
  keys_step pairs spot (id ∷ ids) zero low = ap (λ s. key_list pairs s id) (plus_zero spot) ∙ sym (append-nil (key_list pairs spot id))
  keys_step pairs spot (id ∷ ids) (suc n) low =
      append_assoc (key_list pairs spot id) (keys_from pairs (spot + 1) (take n ids)) (key_list pairs (spot + suc n) (get_or ids n 0))
      ∙ ap (λ (ks : List (ℕ × ℕ)). key_list pairs spot id ++ ks)
      (ap (λ s. keys_from pairs (spot + 1) (take n ids) ++ key_list pairs s (get_or ids n 0)) (sym (next spot n)) ∙ keys_step pairs (spot + 1) ids n (omega (arith, low)))

  pub keys_next : (pairs : List (ℕ × (ℕ × Timed T))) (first spot : ℕ) (ids : List ℕ) (n : ℕ) (keys : List (ℕ × ℕ)) → keys ≡ keys_from pairs first (take n ids)
      → spot ≡ first + n → n < length ids → keys ++ key_list pairs spot (get_or ids n 0) ≡ keys_from pairs first (take (n + 1) ids)
  keys_next pairs first spot ids n keys is spot_is low =
      ap (λ (ks : List (ℕ × ℕ)). ks ++ key_list pairs spot (get_or ids n 0)) is
      ∙ (ap (λ s. keys_from pairs first (take n ids) ++ key_list pairs s (get_or ids n 0)) spot_is
      ∙ (keys_step pairs first ids n low ∙ ap (λ m. keys_from pairs first (take m ids)) (one_more n)))

  keys_to : (pairs : List (ℕ × (ℕ × Timed T))) (spot : ℕ) (ids : List ℕ) (g : ℕ × ℕ) → Contains (keys_from pairs spot ids) g
      → (i : ℕ) × (i < length ids) × Contains (key_list pairs (spot + i) (get_or ids i 0)) g
  keys_to pairs spot [] g c = absurd (omega (arith, c.1))
  keys_to pairs spot (id ∷ ids) g c = ⊎_elim
      (λ first. (zero, omega arith, subst (λ s. Contains (key_list pairs s id) g) (sym (plus_zero spot)) first))
      (λ behind.
      let r = keys_to pairs (spot + 1) ids g behind in
      (suc r.0, omega (arith, r.1), subst (λ s. Contains (key_list pairs s (get_or ids r.0 0)) g) (next spot r.0) r.2))
      (Contains-append_cases (key_list pairs spot id) (keys_from pairs (spot + 1) ids) g c)

  keys_at : (pairs : List (ℕ × (ℕ × Timed T))) (spot : ℕ) (ids : List ℕ) (i id : ℕ) (g : ℕ × ℕ) → slice_get ids i ≡ Some id
      → Contains (key_list pairs (spot + i) id) g → Contains (keys_from pairs spot ids) g
  keys_at pairs spot [] i id g is c = absurd (none-some id is)
  keys_at pairs spot (x ∷ xs) zero id g is c =
      Contains-append_left (key_list pairs spot x) (keys_from pairs (spot + 1) xs) g
      (subst (λ s. Contains (key_list pairs s x) g) (plus_zero spot) (subst (λ y. Contains (key_list pairs (spot + 0) y) g) (sym (same_Some x id is)) c))
  keys_at pairs spot (x ∷ xs) (suc i) id g is c =
      Contains-append_right (key_list pairs spot x) (keys_from pairs (spot + 1) xs) g
      (keys_at pairs (spot + 1) xs i id g is (subst (λ s. Contains (key_list pairs s id) g) (sym (next spot i)) c))

  -- the keys of a slot
  module _ (pairs : List (ℕ × (ℕ × Timed T))) (slots : SlotsSeen) (slot : ℕ) (ids : List ℕ) (book : IsBook pairs slots)
      (list : ids ≡ list_of slots.lists slot) (short : length ids < 18014398509481984) where
    key_held : (spot : ℕ) (o : Option (ℕ × Timed T)) (id : ℕ) (key : ℕ × ℕ) → key_of_value spot id o ≡ Some key
        → (v : ℕ × Timed T) × (o ≡ Some v) × ((v.0 ≡ spot) × ((v.1.order ≡ key.0) × (id ≡ key.1)))
    key_held spot None id key is = absurd (none-some key is)
    key_held spot (Some v) id key is = ⊎_elim
        (λ e.
        let same : (v.1.order, id) ≡ key = same_Some (v.1.order, id) key (sym (at_yes v.0 spot (Some (v.1.order, id)) None e) ∙ is) in
        (v, refl, (e, (ap (λ (k : ℕ × ℕ). k.0) same, ap (λ (k : ℕ × ℕ). k.1) same))))
        (λ ne. absurd (none-some key (sym (at_no v.0 spot (Some (v.1.order, id)) None ne) ∙ is)))
        (cases_eq v.0 spot)

    stands_in : (q id : ℕ) → spot_at slots q ≡ Some id → q / 18014398509481984 ≡ slot → slice_get ids (q % 18014398509481984) ≡ Some id
    stands_in q id is same =
        ap (λ (zs : List ℕ). slice_get zs (q % 18014398509481984)) (list ∙ ap (list_of slots.lists) (sym same)) ∙ in_list slots q id is

    pub listed : (keys : List (ℕ × ℕ)) → keys ≡ keys_from pairs (slot * 18014398509481984) ids → ListsIds (seen_pairs pairs) slot keys
    listed keys is = record {
      each = λ g c.
          let r = keys_to pairs (slot * 18014398509481984) ids g (subst (λ (ks : List (ℕ × ℕ)). Contains ks g) is c) in
          let id : ℕ = get_or ids r.0 0 in
          let spot : ℕ = slot * 18014398509481984 + r.0 in
          let v = key_held spot (value_of pairs id) id g (option_from (key_of_value spot id (value_of pairs id)) g r.2) in
          let own : held_at (seen_pairs pairs) g.1 ≡ Some (held_of v.0) = ap (held_at (seen_pairs pairs)) (sym v.2.1.1) ∙ value_held pairs id v.0 v.1 in
          (held_of v.0, own, spot_slot v.0.0 slot r.0 (omega (arith, r.1, short)) v.2.0, v.2.1.0);
      all = λ id held at same.
          let v = held_has pairs id held at in
          let in_slot : v.0.0 / 18014398509481984 ≡ slot = ap (λ (h : Held T). h.slot) v.2 ∙ same in
          let there = stands_in v.0.0 id (book.linked.there id v.0.0 (value_spot pairs id v.0 v.1)) in_slot in
          let spot : ℕ = slot * 18014398509481984 + v.0.0 % 18014398509481984 in
          let key : key_of_value spot id (value_of pairs id) ≡ Some (held.order, id) =
          ap (key_of_value spot id) v.1 ∙ (at_yes v.0.0 spot (Some (v.0.1.order, id)) None (spot_parts v.0.0 slot in_slot) ∙ ap (λ (h : Held T). Some (h.order, id)) v.2) in
          subst (λ (ks : List (ℕ × ℕ)). Contains ks (held.order, id)) (sym is)
          (keys_at pairs (slot * 18014398509481984) ids (v.0.0 % 18014398509481984) id (held.order, id) there
          (option_into (key_of_value spot id (value_of pairs id)) (held.order, id) key));
    }

  pub only_keys : (pairs : List (ℕ × (ℕ × Timed T))) (first spot : ℕ) (ids : List ℕ) (key : ℕ × ℕ) → spot ≡ first + 0 → length ids ≡ 1
      → key_option pairs spot (slice_index ids 0) ≡ Some key → key ∷ [] ≡ keys_from pairs first ids
  only_keys pairs first spot [] key spot_is len is = absurd (omega (arith, len))
  only_keys pairs first spot (id ∷ []) key spot_is len is =
      sym (ap (λ (o : Option (ℕ × ℕ)). option_to_list o ++ []) (ap (λ s. key_option pairs s id) (sym (spot_is ∙ plus_zero first)) ∙ is))
  only_keys pairs first spot (id ∷ other ∷ ids) key spot_is len is = absurd (omega (arith, len))

  pub listed_permuted : (pairs : List (ℕ × (ℕ × Timed T))) (slot : ℕ) (keys sorted : List (ℕ × ℕ)) → ListsIds (seen_pairs pairs) slot keys → IsPermutation keys sorted
      → ListsIds (seen_pairs pairs) slot sorted
  listed_permuted pairs slot keys sorted lists same = record {
    each = λ g c. lists.each g (Contains-permutation sorted keys g (IsPermutation-sym keys sorted same) c);
    all = λ id held is slot_is. Contains-permutation keys sorted (held.order, id) same (lists.all id held is slot_is);
  }
