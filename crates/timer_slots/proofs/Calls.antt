-- What each call makes of the slots.
use Rattle.std.proofs.Common.{◌≡◌, ℕ, ◌+◌, ◌-◌, ◌*◌, ◌/◌, ◌%◌, ◌<◌, ◌≤◌, ◌==◌, cond, List, [], ◌∷◌, ◌++◌, length, get_or, slice_get, Option, Some, None, refl, sym, ap, ◌∙◌, subst, arith, ⊎_elim}
use Rattle.std.specs.Prelude.{IsSome}
use Rattle.std.proofs.lemmas.Bool.{cases_eq, cases_lt}
use Rattle.std.proofs.lemmas.List.{length-set, length_push, get_or_past, get_or_default}
use Rattle.std.proofs.lemmas.Option.{get_or_from_slice_get, slice_get_past}
use Rattle.timer_slots.specs.Lists.{Pushes, Pops}
use Rattle.timer_slots.specs.Seen.{SlotsSeen, list_of, id_in, times, spot_at, tail_in, tail_at}
use Rattle.timer_slots.specs.Slots.{AreSlots}
use Rattle.timer_slots.specs.Steps.{Puts}
use Rattle.timer_slots.proofs.Edits.{if_same, if_apart, still_short, pushed, popped}
use Rattle.timer_slots.proofs.Waits.{seen_of, one, found_waits, times_push, at_free, at_late, is_free, same_at, none_free, no_some}

-- an id more at the end of a list
pub puts : {lists new : List (List ℕ)} {late : List ℕ} {now : SlotsSeen} {slot id spot : ℕ} → seen_of lists late ≡ now → AreSlots lists late → slot < 1024
    → Pushes lists new slot id spot → Puts now (seen_of new late) slot id spot
puts {lists = lists} {new = new} {late = late} {now = now} {slot = slot} {id = id} {spot = spot} view slots low push =
    let p = pushed lists new slot id spot (omega (arith, low, slots.room)) push in
    let free = none_free lists late spot slots p.1 in
    subst (λ (n : SlotsSeen). Puts n (seen_of new late) slot id spot) view
    (record {
      slot_is = p.0;
      free = at_free lists late spot free ∙ p.1;
      values = λ q. ⊎_elim
          (λ e. at_free new late q (ap (times late) e ∙ free) ∙ p.2 q ∙ if_same q spot _ _ e ∙ sym (if_same q spot _ _ e))
          (λ ne. same_at lists new late late q refl (p.2 q ∙ if_apart q spot _ _ ne) ∙ sym (if_apart q spot _ _ ne))
          (cases_eq q spot);
    })

pub put_slots : {lists new : List (List ℕ)} {late : List ℕ} {slot id spot : ℕ} → AreSlots lists late → slot < 1024 → Pushes lists new slot id spot → AreSlots new late
put_slots {lists = lists} {new = new} {late = late} {slot = slot} {id = id} {spot = spot} slots low push =
    let p = pushed lists new slot id spot (omega (arith, low, slots.room)) push in
    let own : length (list_of lists slot ++ id ∷ []) < 18014398509481984 = omega (arith, push.fits, length_push (list_of lists slot) id) in
    record {
      room = ap (λ (zs : List (List ℕ)). length zs) push.new_is ∙ length-set lists slot _ ∙ slots.room;
      short = λ s. subst (λ (zs : List (List ℕ)). length (list_of zs s) < 18014398509481984) (sym push.new_is) (still_short lists slot _ own slots.short s);
      few = slots.few;
      once = slots.once;
      within = λ q waits. subst (λ (o : Option ℕ). IsSome o)
          (sym (p.2 q ∙ if_apart q spot _ _ (λ e. absurd (omega (arith, waits, ap (times late) e, none_free lists late spot slots p.1)))))
          (slots.within q waits);
    }

-- the spot of an id lies in one of the lists
pub slot_within : (lists : List (List ℕ)) (q : ℕ) → length lists ≡ 1024 → IsSome (id_in lists q) → (q / 18014398509481984 < 1024) × (q % 18014398509481984 < length (list_of lists (q / 18014398509481984)))
slot_within lists q room some =
    let place = place_within (list_of lists (q / 18014398509481984)) (q % 18014398509481984) some in (
      ⊎_elim (λ low. low)
          (λ past. absurd (omega (arith, place, ap (λ (zs : List ℕ). length zs) (get_or_past lists (q / 18014398509481984) [] (omega (arith, past, room))))))
          (cases_lt (q / 18014398509481984) 1024),
      place,
    )
  where
    place_within : (xs : List ℕ) (p : ℕ) → IsSome (slice_get xs p) → p < length xs
    place_within xs p some =
        ⊎_elim (λ low. low)
        (λ past. absurd (no_some (subst (λ (o : Option ℕ). IsSome o) (slice_get_past xs p past) some)))
        (cases_lt p (length xs))

-- the list of a slot, as it is read
pub list_is : (lists : List (List ℕ)) (slot : ℕ) (read ids : List ℕ) → slot < length lists → read ≡ get_or lists slot read → ids ≡ read → ids ≡ list_of lists slot
list_is lists slot read ids low read_is ids_is = ids_is ∙ (read_is ∙ get_or_default lists slot read [] low)

-- the last spot of the slot of one that waits
pub tail_is : (lists : List (List ℕ)) (late : List ℕ) (now : SlotsSeen) (place waits slot spot : ℕ) (read ids : List ℕ) → seen_of lists late ≡ now → length lists ≡ 1024 → slot < 1024
    → slice_get late place ≡ Some waits → slot ≡ waits / 18014398509481984 → read ≡ get_or lists slot read → ids ≡ read → spot ≡ slot * 18014398509481984 + (length ids - 1)
    → spot ≡ tail_at now place
tail_is lists late now place waits slot spot read ids view room low is slot_is read_is ids_is spot_is =
    let whole = list_is lists slot read ids (omega (arith, low, room)) read_is ids_is in
    spot_is ∙ (ap (λ (zs : List ℕ). slot * 18014398509481984 + (length zs - 1)) whole ∙ (ap (tail_in lists) slot_is
    ∙ (ap (λ n. tail_in lists (n / 18014398509481984)) (sym (get_or_from_slice_get late place waits 0 is)) ∙ ap (λ (n : SlotsSeen). tail_at n place) view)))

-- the last id in the list of a spot that waits
module _ {lists : List (List ℕ)} {late : List ℕ} {to slot : ℕ} (place : ℕ) (slots : AreSlots lists late) (is : slice_get late place ≡ Some to)
    (slot_is : slot ≡ to / 18014398509481984) where
  waits_there : (to / 18014398509481984 < 1024) × (to % 18014398509481984 < length (list_of lists (to / 18014398509481984)))
  waits_there = slot_within lists to slots.room (slots.within to (found_waits late place to is))

  pub waits_low : slot < 1024
  waits_low = omega (arith, waits_there.0, slot_is)

  module _ {read ids : List ℕ} (read_is : read ≡ get_or lists slot read) (ids_is : ids ≡ read) where
    waits_ids : ids ≡ list_of lists slot
    waits_ids = list_is lists slot read ids (omega (arith, waits_low, slots.room)) read_is ids_is

    pub waits_some : 1 ≤ length ids
    waits_some =
        let own : to % 18014398509481984 < length (list_of lists slot) = subst (λ s. to % 18014398509481984 < length (list_of lists s)) (sym slot_is) waits_there.1 in
        omega (arith, own, ap (λ (zs : List ℕ). length zs) waits_ids)

    pub waits_id : {now : SlotsSeen} → seen_of lists late ≡ now → (spot : ℕ) → spot / 18014398509481984 ≡ slot → spot % 18014398509481984 ≡ length ids - 1
        → (id : ℕ) → spot_at now spot ≡ Some id → id ≡ get_or ids (length ids - 1) 0
    waits_id view spot in_slot at_end id at =
        let seen : spot_at (seen_of lists late) spot ≡ Some id = ap (λ (n : SlotsSeen). spot_at n spot) view ∙ at in
        let free = is_free lists late spot (subst (λ (o : Option ℕ). IsSome o) (sym seen) refl) in
        let there : id_in lists spot ≡ Some id = sym (at_free lists late spot free) ∙ seen in
        let own : slice_get ids (length ids - 1) ≡ Some id
        = ap (λ (zs : List ℕ). slice_get zs (length ids - 1)) waits_ids ∙ (ap (λ p. slice_get (list_of lists slot) p) (sym at_end)
        ∙ (ap (λ s. slice_get (list_of lists s) (spot % 18014398509481984)) (sym in_slot) ∙ there)) in
        sym (get_or_from_slice_get ids (length ids - 1) id 0 own)

-- the last id of a list goes
pub popped_at : {lists new : List (List ℕ)} {late : List ℕ} {slot id : ℕ} (from : ℕ) → AreSlots lists late → slot < 1024 → Pops lists new slot id
    → from / 18014398509481984 ≡ slot → from % 18014398509481984 ≡ length (list_of new slot) → (id_in lists from ≡ Some id) × ((q : ℕ) → id_in new q ≡ cond (q == from) None (id_in lists q))
popped_at {lists = lists} {new = new} {late = late} {slot = slot} {id = id} from slots low pop slot_is place_is =
    popped lists new slot id from (omega (arith, low, slots.room)) (slots.short slot) pop slot_is place_is

-- and the spots that wait then had one more of it, or as many
pub fewer_slots : {lists new : List (List ℕ)} {late then : List ℕ} {slot id : ℕ} (from : ℕ) → AreSlots lists late → slot < 1024 → Pops lists new slot id
    → from / 18014398509481984 ≡ slot → from % 18014398509481984 ≡ length (list_of new slot)
    → length then ≤ length late → ((q : ℕ) → times then q ≤ times late q) → times then from ≡ 0 → AreSlots new then
fewer_slots {lists = lists} {new = new} {late = late} {then = then} {slot = slot} {id = id} from slots low pop slot_is place_is few less none =
    let p = popped_at from slots low pop slot_is place_is in
    let long : length (list_of lists slot) ≡ length (list_of new slot) + 1 = ap (λ (zs : List ℕ). length zs) pop.was ∙ length_push (list_of new slot) id in
    let own : length (list_of new slot) < 18014398509481984 = omega (arith, long, slots.short slot) in
    record {
      room = pop.len ∙ slots.room;
      short = λ s. subst (λ (zs : List (List ℕ)). length (list_of zs s) < 18014398509481984) (sym pop.new_is) (still_short lists slot _ own slots.short s);
      few = omega (arith, few, slots.few);
      once = λ q. omega (arith, less q, slots.once q);
      within = λ q waits. subst (λ (o : Option ℕ). IsSome o)
          (sym (p.1 q ∙ if_apart q from _ _ (λ e. absurd (omega (arith, waits, ap (times then) e, none)))))
          (slots.within q (omega (arith, waits, less q)));
    }

-- an id leaves that is the last of its list
pub last_gone : {lists new : List (List ℕ)} {slot id : ℕ} (spot : ℕ) → Pops lists new slot id → spot % 18014398509481984 + 1 ≡ length (list_of lists slot) → spot % 18014398509481984 ≡ length (list_of new slot)
last_gone {lists = lists} {new = new} {slot = slot} {id = id} spot pop last =
    omega (arith, last, ap (λ (zs : List ℕ). length zs) pop.was, length_push (list_of new slot) id)

pub left_last : {lists : List (List ℕ)} {late : List ℕ} {now : SlotsSeen} {slot place len : ℕ} {read : List ℕ} (spot : ℕ) → seen_of lists late ≡ now → AreSlots lists late
    → IsSome (spot_at now spot) → slot ≡ spot / 18014398509481984 → place ≡ spot % 18014398509481984 → place + 1 ≡ len → len ≡ length read → read ≡ get_or lists slot read
    → spot % 18014398509481984 + 1 ≡ length (list_of lists slot)
left_last {lists = lists} {late = late} {now = now} {slot = slot} {place = place} {len = len} {read = read} spot view slots some slot_is place_is last len_is read_is =
    let held : IsSome (spot_at (seen_of lists late) spot) = subst (λ (n : SlotsSeen). IsSome (spot_at n spot)) (sym view) some in
    let free = is_free lists late spot held in
    let there = slot_within lists spot slots.room (subst (λ (o : Option ℕ). IsSome o) (at_free lists late spot free) held) in
    let whole : read ≡ list_of lists slot = read_is ∙ get_or_default lists slot read [] (omega (arith, there.0, slot_is, slots.room)) in
    omega (arith, place_is, last, len_is, ap (λ (zs : List ℕ). length zs) whole)

pub left_slots : {lists new : List (List ℕ)} {late : List ℕ} {now : SlotsSeen} {slot id : ℕ} (spot : ℕ) → seen_of lists late ≡ now → AreSlots lists late → IsSome (spot_at now spot)
    → slot ≡ spot / 18014398509481984 → Pops lists new slot id → spot % 18014398509481984 + 1 ≡ length (list_of lists slot) → AreSlots new late
left_slots {lists = lists} {new = new} {late = late} {now = now} {slot = slot} {id = id} spot view slots some slot_is pop last =
    let held : IsSome (spot_at (seen_of lists late) spot) = subst (λ (n : SlotsSeen). IsSome (spot_at n spot)) (sym view) some in
    let free = is_free lists late spot held in
    let there = slot_within lists spot slots.room (subst (λ (o : Option ℕ). IsSome o) (at_free lists late spot free) held) in
    fewer_slots spot slots (omega (arith, there.0, slot_is)) pop (sym slot_is) (last_gone spot pop last)
    (omega arith) (λ q. omega arith) free

pub left_values : {lists new : List (List ℕ)} {late : List ℕ} {now : SlotsSeen} {slot id : ℕ} (spot : ℕ) → seen_of lists late ≡ now → AreSlots lists late → IsSome (spot_at now spot)
    → slot ≡ spot / 18014398509481984 → Pops lists new slot id → spot % 18014398509481984 + 1 ≡ length (list_of lists slot)
    → (q : ℕ) → spot_at (seen_of new late) q ≡ cond (q == spot) None (spot_at now q)
left_values {lists = lists} {new = new} {late = late} {now = now} {slot = slot} {id = id} spot view slots some slot_is pop last q =
    let held : IsSome (spot_at (seen_of lists late) spot) = subst (λ (n : SlotsSeen). IsSome (spot_at n spot)) (sym view) some in
    let free = is_free lists late spot held in
    let there = slot_within lists spot slots.room (subst (λ (o : Option ℕ). IsSome o) (at_free lists late spot free) held) in
    let p = popped_at spot slots (omega (arith, there.0, slot_is)) pop (sym slot_is) (last_gone spot pop last) in
    subst (λ (n : SlotsSeen). spot_at (seen_of new late) q ≡ cond (q == spot) None (spot_at n q)) view
    (⊎_elim
    (λ e. at_free new late q (ap (times late) e ∙ free) ∙ p.1 q ∙ if_same q spot _ _ e ∙ sym (if_same q spot _ _ e))
    (λ ne. same_at lists new late late q refl (p.1 q ∙ if_apart q spot _ _ ne) ∙ sym (if_apart q spot _ _ ne))
    (cases_eq q spot))

-- an id leaves that isn't the last
pub late_slots : {lists : List (List ℕ)} {late then : List ℕ} {now : SlotsSeen} (spot : ℕ) → seen_of lists late ≡ now → AreSlots lists late → IsSome (spot_at now spot)
    → length now.late < 64 → then ≡ late ++ spot ∷ [] → AreSlots lists then
late_slots {lists = lists} {late = late} {then = then} {now = now} spot view slots some few is =
    let held : IsSome (spot_at (seen_of lists late) spot) = subst (λ (n : SlotsSeen). IsSome (spot_at n spot)) (sym view) some in
    let free = is_free lists late spot held in
    let more : (q : ℕ) → times then q ≡ times late q + one q spot = λ q. ap (λ (zs : List ℕ). times zs q) is ∙ times_push late spot q in
    record {
      room = slots.room;
      short = slots.short;
      few = omega (arith, few, ap (λ (n : SlotsSeen). length n.late) view, ap (λ (zs : List ℕ). length zs) is, length_push late spot);
      once = λ q. ⊎_elim
          (λ e. omega (arith, more q, if_same {X = ℕ} q spot 1 0 e, ap (times late) e, free))
          (λ ne. omega (arith, more q, if_apart {X = ℕ} q spot 1 0 ne, slots.once q))
          (cases_eq q spot);
      within = λ q waits. ⊎_elim
          (λ e. subst (λ n. IsSome (id_in lists n)) (sym e) (subst (λ (o : Option ℕ). IsSome o) (at_free lists late spot free) held))
          (λ ne. slots.within q (omega (arith, waits, more q, if_apart {X = ℕ} q spot 1 0 ne)))
          (cases_eq q spot);
    }

pub late_values : {lists : List (List ℕ)} {late then : List ℕ} {now : SlotsSeen} (spot : ℕ) → seen_of lists late ≡ now → then ≡ late ++ spot ∷ []
    → (q : ℕ) → spot_at (seen_of lists then) q ≡ cond (q == spot) None (spot_at now q)
late_values {lists = lists} {late = late} {then = then} {now = now} spot view is q =
    let more : times then q ≡ times late q + one q spot = ap (λ (zs : List ℕ). times zs q) is ∙ times_push late spot q in
    subst (λ (n : SlotsSeen). spot_at (seen_of lists then) q ≡ cond (q == spot) None (spot_at n q)) view
    (⊎_elim
    (λ e. at_late lists then q (λ none. absurd (omega (arith, none, more, if_same {X = ℕ} q spot 1 0 e))) ∙ sym (if_same q spot _ _ e))
    (λ ne. same_at lists lists late then q (omega (arith, more, if_apart {X = ℕ} q spot 1 0 ne)) refl ∙ sym (if_apart q spot _ _ ne))
    (cases_eq q spot))
