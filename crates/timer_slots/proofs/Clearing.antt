-- What a clearing and a move make of the slots.
use Rattle.std.proofs.Common.{◌≡◌, ◌≢◌, ℕ, ◌+◌, ◌-◌, ◌*◌, ◌/◌, ◌%◌, ◌<◌, ◌==◌, cond, List, [], ◌∷◌, ◌++◌, length, set, get_or, slice_get, Option, Some, None, refl, sym, ap, ◌∙◌, subst, arith, ⊎_elim}
use Rattle.std.specs.Prelude.{IsSome}
use Rattle.std.proofs.lemmas.Bool.{cases_eq}
use Rattle.std.proofs.lemmas.List.{length-set, length_push, get_or-set_other, get_or-set_same, get_or_default, get_or_push}
use Rattle.std.proofs.lemmas.Option.{none-some, same_Some, slice_get_within, get_or_from_slice_get}
use Rattle.timer_slots.specs.Lists.{Pushes, Pops}
use Rattle.timer_slots.specs.Seen.{SlotsSeen, list_of, id_in, times, spot_at, next_of, tail_in, tail_of}
use Rattle.timer_slots.specs.Slots.{AreSlots}
use Rattle.timer_slots.specs.Steps.{Moves, IsLast}
use Rattle.timer_slots.proofs.Calls.{put_slots, slot_within, popped_at, fewer_slots, last_gone}
use Rattle.timer_slots.proofs.Edits.{if_same, if_apart, one_spot, edited, edited_set, still_short, pushed, spot_parts}
use Rattle.timer_slots.proofs.Waits.{seen_of, one, times_push, times_set, at_free, at_late, is_free, same_at, none_waits}

-- the slot of a spot that waits
spot_slot : (to slot : ℕ) (lists : List (List ℕ)) (late mid : List ℕ) → AreSlots lists late → late ≡ mid ++ to ∷ [] → slot ≡ to / 18014398509481984 → slot < 1024
spot_slot to slot lists late mid slots late_is slot_is =
    let waits : times late to ≡ times mid to + one to to = ap (λ (zs : List ℕ). times zs to) late_is ∙ times_push mid to to in
    omega (arith, slot_is, (slot_within lists to slots.room (slots.within to (omega (arith, waits, if_same {X = ℕ} to to 1 0 refl)))).0)

-- the spot that waits no more, and what is known of its list
pub record Clears (lists new : List (List ℕ)) (late mid : List ℕ) (slot id from to : ℕ) : Type 0 where
  pub slots : AreSlots lists late
  pub late_is : late ≡ mid ++ to ∷ []
  pub slot_is : slot ≡ to / 18014398509481984
  pub pop : Pops lists new slot id
  pub from_slot : from / 18014398509481984 ≡ slot
  pub from_place : from % 18014398509481984 ≡ length (list_of new slot)

pub clears : {lists new : List (List ℕ)} {late mid : List ℕ} {slot id from to place : ℕ} {read : List ℕ} → AreSlots lists late → late ≡ mid ++ to ∷ [] → slot ≡ to / 18014398509481984
    → Pops lists new slot id → from / 18014398509481984 ≡ slot → from % 18014398509481984 ≡ place → place ≡ length read → read ≡ get_or new slot read
    → Clears lists new late mid slot id from to
clears {lists = lists} {new = new} {slot = slot} {to = to} {read = read} slots late_is slot_is pop from_slot from_place place_is read_is =
    let low : slot < 1024 = spot_slot to slot lists _ _ slots late_is slot_is in
    record {
      slots = slots;
      late_is = late_is;
      slot_is = slot_is;
      pop = pop;
      from_slot = from_slot;
      from_place = from_place ∙ place_is ∙ ap (λ (zs : List ℕ). length zs) (read_is ∙ get_or_default new slot read [] (omega (arith, low, pop.len, slots.room)));
    }

-- the last spot of its list, where that isn't told
pub clears_tail : {lists new : List (List ℕ)} {late mid : List ℕ} {slot id to : ℕ} → AreSlots lists late → late ≡ mid ++ to ∷ [] → slot ≡ to / 18014398509481984
    → Pops lists new slot id → Clears lists new late mid slot id (slot * 18014398509481984 + length (list_of new slot)) to
clears_tail {new = new} {slot = slot} {id = id} slots late_is slot_is pop =
    let short : length (list_of new slot) < 18014398509481984 = omega (arith, slots.short slot, ap (λ (zs : List ℕ). length zs) pop.was, length_push (list_of new slot) id) in
    let parts = spot_parts slot (length (list_of new slot)) (slot * 18014398509481984 + length (list_of new slot)) short refl in
    record {
      slots = slots;
      late_is = late_is;
      slot_is = slot_is;
      pop = pop;
      from_slot = parts.0;
      from_place = parts.1;
    }

module _ {lists new : List (List ℕ)} {late mid : List ℕ} {slot id from to : ℕ} (c : Clears lists new late mid slot id from to) where
  had : (q : ℕ) → times late q ≡ times mid q + one q to
  had q = ap (λ (zs : List ℕ). times zs q) c.late_is ∙ times_push mid to q

  had_to : times late to ≡ times mid to + 1
  had_to = omega (arith, had to, if_same {X = ℕ} to to 1 0 refl)

  there : (to / 18014398509481984 < 1024) × (to % 18014398509481984 < length (list_of lists (to / 18014398509481984)))
  there = slot_within lists to c.slots.room (c.slots.within to (omega (arith, had_to)))

  low : slot < 1024
  low = omega (arith, c.slot_is, there.0)

  gone : (id_in lists from ≡ Some id) × ((q : ℕ) → id_in new q ≡ cond (q == from) None (id_in lists q))
  gone = popped_at from c.slots low c.pop c.from_slot c.from_place

  shorter : length late ≡ length mid + 1
  shorter = ap (λ (zs : List ℕ). length zs) c.late_is ∙ length_push mid to

  -- the last id of the list had left, too
  module _ (then : List ℕ) (size : length then ≡ length mid) (less : (q : ℕ) → times then q + one q from ≡ times late q) where
    own : times then from ≡ 0
    own = omega (arith, less from, if_same {X = ℕ} from from 1 0 refl, c.slots.once from)

    pub cleared_slots : AreSlots new then
    cleared_slots =
        fewer_slots from c.slots low c.pop c.from_slot c.from_place (omega (arith, size, shorter)) (λ q. omega (arith, less q)) own

    pub cleared_values : {now : SlotsSeen} → seen_of lists late ≡ now → (q : ℕ) → spot_at (seen_of new then) q ≡ spot_at now q
    cleared_values {now = now} view q =
        subst (λ (n : SlotsSeen). spot_at (seen_of new then) q ≡ spot_at n q) view
        (⊎_elim
        (λ e. at_free new then q (ap (times then) e ∙ own) ∙ gone.1 q ∙ if_same q from _ _ e
        ∙ sym (at_late lists late q (λ none. absurd (omega (arith, none, less q, if_same {X = ℕ} q from 1 0 e)))))
        (λ ne. same_at lists new late then q (omega (arith, less q, if_apart {X = ℕ} q from 1 0 ne)) (gone.1 q ∙ if_apart q from _ _ ne))
        (cases_eq q from))

  next : next_of (seen_of lists late) ≡ to
  next = ap (λ (zs : List ℕ). get_or zs (length zs - 1) 0) c.late_is ∙ get_or_push mid to 0 (length (mid ++ to ∷ []) - 1) (omega (arith, length_push mid to))

  own_tail : tail_in lists slot ≡ from
  own_tail = omega (arith, c.from_slot, c.from_place, ap (λ (zs : List ℕ). length zs) c.pop.was, length_push (list_of new slot) id)

  tail : tail_of (seen_of lists late) ≡ from
  tail = ap (λ n. tail_in lists (n / 18014398509481984)) next ∙ (ap (tail_in lists) (sym c.slot_is) ∙ own_tail)

  -- where the last id of the list is held its spot doesn't wait
  module _ {now : SlotsSeen} (view : seen_of lists late ≡ now) (some : IsSome (spot_at now (tail_of now))) where
    tail_waits : times late from ≡ 0
    tail_waits =
        let seen : IsSome (spot_at (seen_of lists late) (tail_of (seen_of lists late))) = subst (λ (n : SlotsSeen). IsSome (spot_at n (tail_of n))) (sym view) some in
        is_free lists late from (subst (λ s. IsSome (spot_at (seen_of lists late) s)) tail seen)

    pub tail_free : times mid from ≡ 0
    tail_free = omega (arith, tail_waits, had from)

    pub tail_apart : from ≢ to
    tail_apart e = omega (arith, tail_waits, ap (times late) e, had_to)

    pub next_apart : tail_of now ≢ next_of now
    next_apart e = tail_apart (sym tail ∙ (ap (λ (n : SlotsSeen). tail_of n) view ∙ (e ∙ (sym (ap (λ (n : SlotsSeen). next_of n) view) ∙ next))))

  -- where it has left its spot waits, or was the one that is cleared
  pub left_waits : {now : SlotsSeen} → seen_of lists late ≡ now → spot_at now (tail_of now) ≡ None → from ≢ to → times mid from ≡ 0 → ⊥
  left_waits {now = now} view left apart none =
      let at : spot_at (seen_of lists late) from ≡ Some id = at_free lists late from (omega (arith, had from, none, if_apart {X = ℕ} from to 1 0 apart)) ∙ gone.0 in
      let gone_there : spot_at (seen_of lists late) from ≡ None
      = ap (spot_at (seen_of lists late)) (sym tail) ∙ (ap (λ (n : SlotsSeen). spot_at n (tail_of n)) view ∙ left) in
      none-some id (sym gone_there ∙ at)

  pub same_less : from ≡ to → (q : ℕ) → times mid q + one q from ≡ times late q
  same_less same q = ap (λ s. times mid q + one q s) same ∙ sym (had q)

  pub other_less : (i : ℕ) {then : List ℕ} → slice_get mid i ≡ Some from → then ≡ set mid i to → (q : ℕ) → times then q + one q from ≡ times late q
  other_less i {then = then} is then_is q =
      ap (λ (zs : List ℕ). times zs q + one q from) then_is
      ∙ times_set mid i to from q (slice_get_within mid i from is) (get_or_from_slice_get mid i from from is)
      ∙ sym (had q)

  pub other_size : (i : ℕ) {then : List ℕ} → then ≡ set mid i to → length then ≡ length mid
  other_size i {then = then} then_is = ap (λ (zs : List ℕ). length zs) then_is ∙ length-set mid i to

  -- the last id of the list comes to the spot
  module _ (apart : from ≢ to) (none : times mid from ≡ 0) where
    pub place_low : to % 18014398509481984 < length (list_of new slot)
    place_low =
        below (to % 18014398509481984) (from % 18014398509481984) (length (list_of new slot)) (length (list_of lists slot))
        (subst (λ s. to % 18014398509481984 < length (list_of lists s)) (sym c.slot_is) there.1)
        c.from_place (ap (λ (zs : List ℕ). length zs) c.pop.was ∙ length_push (list_of new slot) id)
        (λ same. apart (one_spot from to (c.from_slot ∙ c.slot_is) (sym same)))
      where
        below : (p last m n : ℕ) → p < n → last ≡ m → n ≡ m + 1 → p ≢ last → p < m
        below p last m n low last_is n_is ne = omega (arith, low, last_is, n_is, ne)

    module _ {end : List (List ℕ)} {place : ℕ} (place_is : place ≡ to % 18014398509481984) (made : end ≡ set new slot (set (list_of new slot) place id)) where
      end_is : end ≡ set new slot (set (list_of new slot) (to % 18014398509481984) id)
      end_is = made ∙ ap (λ p. set new slot (set (list_of new slot) p id)) place_is

      put : (q : ℕ) → id_in end q ≡ cond (q == to) (Some id) (id_in new q)
      put q =
          ap (λ (zs : List (List ℕ)). id_in zs q) end_is
          ∙ edited new slot (set (list_of new slot) (to % 18014398509481984) id) to (Some id) (omega (arith, low, c.pop.len, c.slots.room)) (sym c.slot_is)
          (edited_set (list_of new slot) (to % 18014398509481984) id place_low) q

      free_to : times mid to ≡ 0
      free_to = omega (arith, had_to, c.slots.once to)

      short_new : (s : ℕ) → length (list_of new s) < 18014398509481984
      short_new s =
          subst (λ (zs : List (List ℕ)). length (list_of zs s) < 18014398509481984) (sym c.pop.new_is)
          (still_short lists slot (list_of new slot)
          (omega (arith, c.slots.short slot, ap (λ (zs : List ℕ). length zs) c.pop.was, length_push (list_of new slot) id)) c.slots.short s)

      pub moved_slots : AreSlots end mid
      moved_slots = record {
        room = ap (λ (zs : List (List ℕ)). length zs) end_is ∙ length-set new slot _ ∙ c.pop.len ∙ c.slots.room;
        short = λ s. subst (λ (zs : List (List ℕ)). length (list_of zs s) < 18014398509481984) (sym end_is)
            (still_short new slot _ (subst (λ n. n < 18014398509481984) (sym (length-set (list_of new slot) (to % 18014398509481984) id)) (short_new slot)) short_new s);
        few = omega (arith, shorter, c.slots.few);
        once = λ q. omega (arith, had q, c.slots.once q);
        within = λ q waits. subst (λ (o : Option ℕ). IsSome o)
            (sym (put q ∙ if_apart q to _ _ (λ e. absurd (omega (arith, waits, ap (times mid) e, free_to)))
            ∙ gone.1 q ∙ if_apart q from _ _ (λ e. absurd (omega (arith, waits, ap (times mid) e, none)))))
            (c.slots.within q (omega (arith, waits, had q)));
      }

      moved_value : (q : ℕ) → spot_at (seen_of end mid) q ≡ cond (q == to) (Some id) (cond (q == from) None (spot_at (seen_of lists late) q))
      moved_value q =
          ⊎_elim
          (λ e. at_free end mid q (ap (times mid) e ∙ free_to) ∙ put q ∙ if_same q to _ _ e ∙ sym (if_same q to _ _ e))
          (λ ne. ⊎_elim
          (λ e. at_free end mid q (ap (times mid) e ∙ none) ∙ put q ∙ if_apart q to _ _ ne ∙ gone.1 q ∙ if_same q from _ _ e
          ∙ sym (if_apart q to _ _ ne ∙ if_same q from _ _ e))
          (λ other. same_at lists end late mid q (omega (arith, had q, if_apart {X = ℕ} q to 1 0 ne)) (put q ∙ if_apart q to _ _ ne ∙ gone.1 q ∙ if_apart q from _ _ other)
          ∙ sym (if_apart q to _ _ ne ∙ if_apart q from _ _ other))
          (cases_eq q from))
          (cases_eq q to)

      pub moved : {now : SlotsSeen} → seen_of lists late ≡ now → Moves now (seen_of end mid) (from / 18014398509481984) id from to
      moved {now = now} view =
          subst (λ (n : SlotsSeen). Moves n (seen_of end mid) (from / 18014398509481984) id from to) view
          (record {
            slot_is = sym (c.from_slot ∙ c.slot_is);
            was = at_free lists late from (omega (arith, had from, none, if_apart {X = ℕ} from to 1 0 apart)) ∙ gone.0;
            free = λ ne. at_late lists late to (λ e. absurd (omega (arith, e, had_to)));
            values = moved_value;
          })

      pub moved_next : {now : SlotsSeen} → seen_of lists late ≡ now → (own : ℕ) → spot_at now (tail_of now) ≡ Some own
          → Moves now (seen_of end mid) (tail_of now / 18014398509481984) own (tail_of now) (next_of now)
      moved_next {now = now} view own is =
          let m : Moves now (seen_of end mid) (from / 18014398509481984) id from to = moved view in
          let from_is : from ≡ tail_of now = sym tail ∙ ap (λ (n : SlotsSeen). tail_of n) view in
          let to_is : to ≡ next_of now = sym next ∙ ap (λ (n : SlotsSeen). next_of n) view in
          let id_is : id ≡ own = same_Some id own (sym m.was ∙ (ap (spot_at now) from_is ∙ is)) in
          subst (λ i. Moves now (seen_of end mid) (tail_of now / 18014398509481984) i (tail_of now) (next_of now)) id_is
          (subst (λ t. Moves now (seen_of end mid) (tail_of now / 18014398509481984) id (tail_of now) t) to_is
          (subst (λ f. Moves now (seen_of end mid) (f / 18014398509481984) id f to) from_is m))

-- the last id of a list goes to the end of another
module _ {lists mid new : List (List ℕ)} {late : List ℕ} {now : SlotsSeen} {from slot id popped_id spot to : ℕ} (view : seen_of lists late ≡ now)
    (slots : AreSlots lists late) (empty : length now.late ≡ 0) (last : IsLast now id spot) (from_is : from ≡ spot / 18014398509481984) (low : slot < 1024) (apart : from ≢ slot)
    (push : Pushes lists mid slot id to) (pop : Pops mid new from popped_id) where
  free : (q : ℕ) → times late q ≡ 0
  free q = none_waits late q (ap (λ (n : SlotsSeen). length n.late) view ∙ empty)

  held : IsSome (spot_at (seen_of lists late) spot)
  held = subst (λ (o : Option ℕ). IsSome o) (sym (ap (λ (n : SlotsSeen). spot_at n spot) view ∙ last.is)) refl

  from_low : from < 1024
  from_low = omega (arith, from_is, (slot_within lists spot slots.room (subst (λ (o : Option ℕ). IsSome o) (at_free lists late spot (free spot)) held)).0)

  p : (to / 18014398509481984 ≡ slot) × (id_in lists to ≡ None) × ((q : ℕ) → id_in mid q ≡ cond (q == to) (Some id) (id_in lists q))
  p = pushed lists mid slot id to (omega (arith, low, slots.room)) push

  same : list_of mid from ≡ list_of lists from
  same = ap (λ (zs : List (List ℕ)). list_of zs from) push.new_is ∙ get_or-set_other lists slot from _ [] apart

  end : spot % 18014398509481984 ≡ length (list_of new from)
  end =
      last_gone spot pop
      (last.place ∙ ap (λ (n : SlotsSeen). length (list_of n.lists (spot / 18014398509481984))) (sym view) ∙ ap (λ s. length (list_of lists s)) (sym from_is)
      ∙ ap (λ (zs : List ℕ). length zs) (sym same))

  mid_slots : AreSlots mid late
  mid_slots = put_slots slots low push

  pub moves_slots : AreSlots new late
  moves_slots = fewer_slots spot mid_slots from_low pop (sym from_is) end (omega arith) (λ q. omega arith) (free spot)

  o : (id_in mid spot ≡ Some popped_id) × ((q : ℕ) → id_in new q ≡ cond (q == spot) None (id_in mid q))
  o = popped_at spot mid_slots from_low pop (sym from_is) end

  moves_value : (q : ℕ) → spot_at (seen_of new late) q ≡ cond (q == to) (Some id) (cond (q == spot) None (spot_at (seen_of lists late) q))
  moves_value q =
      ⊎_elim
      (λ e. at_free new late q (free q) ∙ o.1 q ∙ if_apart q spot _ _ (λ is. apart (from_is ∙ ap (λ n. n / 18014398509481984) (sym is ∙ e) ∙ p.0))
      ∙ p.2 q ∙ if_same q to _ _ e ∙ sym (if_same q to _ _ e))
      (λ ne. ⊎_elim
      (λ e. at_free new late q (free q) ∙ o.1 q ∙ if_same q spot _ _ e ∙ sym (if_apart q to _ _ ne ∙ if_same q spot _ _ e))
      (λ other. same_at lists new late late q refl (o.1 q ∙ if_apart q spot _ _ other ∙ p.2 q ∙ if_apart q to _ _ ne)
      ∙ sym (if_apart q to _ _ ne ∙ if_apart q spot _ _ other))
      (cases_eq q spot))
      (cases_eq q to)

  pub moves : Moves now (seen_of new late) slot id spot to
  moves =
      subst (λ (n : SlotsSeen). Moves n (seen_of new late) slot id spot to) view
      (record {
        slot_is = p.0;
        was = ap (λ (n : SlotsSeen). spot_at n spot) view ∙ last.is;
        free = λ ne. at_free lists late to (free to) ∙ p.1;
        values = moves_value;
      })

  -- the id is the last of its slot there
  own_list : list_of new slot ≡ list_of lists slot ++ id ∷ []
  own_list =
      ap (λ (zs : List (List ℕ)). list_of zs slot) pop.new_is ∙ get_or-set_other mid from slot _ [] (λ e. apart (sym e))
      ∙ ap (λ (zs : List (List ℕ)). list_of zs slot) push.new_is ∙ get_or-set_same lists slot _ [] (omega (arith, low, slots.room))

  pub moves_last : IsLast (seen_of new late) id to
  moves_last = record {
    is = moves_value to ∙ if_same to to _ _ refl;
    place = omega (arith, push.spot_is, push.fits, length_push (list_of lists slot) id, ap (λ (zs : List ℕ). length zs) own_list)
        ∙ sym (ap (λ s. length (list_of new s)) p.0);
  }
