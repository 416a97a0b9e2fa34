-- A slot fires: its entries leave one by one, in order of scheduling.
use Rattle.std.proofs.Common.{◌≡◌, ◌≢◌, ℕ, ◌+◌, ◌%◌, ◌<◌, ◌≤◌, ◌==◌, not, Bool, true, false, cond, nat_eq, List, [], ◌∷◌, ◌++◌, length, Option, Some, None, sym, ap, ◌∙◌, subst, arith}
use Rattle.std.specs.FinMap.Entries.{find}
use Rattle.std.specs.List.Sorted.{IsNonDecreasingBy}
use Rattle.std.specs.Ordering.{nat_cmp}
use Rattle.std.proofs.lemmas.Grind.{common_steps}
use Rattle.std.proofs.lemmas.List.{get_or_default, append_assoc, append-nil}
use Rattle.std.proofs.lemmas.List.Elements.{Contains-get_or}
use Rattle.std.proofs.lemmas.List.Sorted.{IsNonDecreasingBy-short}
use Rattle.std.proofs.lemmas.Option.{none-some, same_Some}
use Rattle.tick_wheel.specs.Handouts.{handouts_of}
use Rattle.tick_wheel.specs.Held.{Held}
use Rattle.tick_wheel.specs.declared.timer.Timer.{Timer}
use Rattle.tick_wheel.specs.Firing.{IsFiring, IsPartOf, Fires, key_at}
use Rattle.tick_wheel.specs.Kept.{numbered, timers_of}
use Rattle.tick_wheel.specs.Place.{IsAhead}
use Rattle.tick_wheel.specs.Table.{Index, IsUnique, AreApart, AreAhead, AreSettled, ListsIds, held_at, timer_of}
use Rattle.tick_wheel.specs.TimerList.{due_at, due_later, without}
use Rattle.tick_wheel.proofs.InOrder.{first_passes, filter_filter, filter_none, filter_all}
use Rattle.tick_wheel.proofs.Keeping.{was_held, gone_ranks}
use Rattle.tick_wheel.proofs.Places.{slot_from_due, due_from_slot, ahead_at_next}
use Rattle.tick_wheel.proofs.Views.{numbered_sorted, found_held, held_found, timers_drop, apart_from_drop}

module _ {A : Type 0} where
  -- what was gathered fires
  pub firing_first : (index : Index A) (slot : ℕ) (keys : List (ℕ × ℕ)) → ListsIds index slot keys → IsNonDecreasingBy (λ (k : ℕ × ℕ). k.0) keys → IsFiring slot keys 0 index
  firing_first index slot keys lists rises = record {
    rises = rises;
    each = λ i h _ low is.
        let r = lists.each (key_at keys i) (Contains-get_or keys i (0, 0) low) in
        let same : r.0 ≡ h = same_Some r.0 h (sym r.1 ∙ is) in
        (ap (λ (k : Held A). k.slot) (sym same) ∙ r.2, ap (λ (k : Held A). k.order) (sym same) ∙ r.3);
    all = λ id h is at.
        let c = lists.all id h is at in
        (c.0, omega arith, c.1, get_or_default keys c.0 (0, 0) (h.order, id) c.1 ∙ c.2);
  }

  -- no key
  firing_none : (index : Index A) (slot : ℕ) → ListsIds index slot [] → IsFiring slot [] 0 index
  firing_none index slot lists = firing_first index slot [] lists (IsNonDecreasingBy-short (λ (k : ℕ × ℕ). k.0) [] (omega arith))

  -- one key alone
  pub firing_one : (index : Index A) (slot : ℕ) (key : ℕ × ℕ) → ListsIds index slot (key ∷ []) → IsFiring slot (key ∷ []) 0 index
  firing_one index slot key lists = firing_first index slot (key ∷ []) lists (IsNonDecreasingBy-short (λ (k : ℕ × ℕ). k.0) (key ∷ []) (omega arith))

  -- one key further, and its id is not held any more
  pub firing_next : (index index1 : Index A) (slot : ℕ) (keys : List (ℕ × ℕ)) (place : ℕ) → IsFiring slot keys place index
      → ((q : ℕ) → held_at index1 q ≡ cond (nat_eq (key_at keys place).1 q) None (held_at index q)) → IsFiring slot keys (place + 1) index1
  firing_next index index1 slot keys place firing gone = record {
    rises = firing.rises;
    each = λ i h low high is. firing.each i h (omega (arith, low)) high (was_held index index1 (key_at keys place).1 gone ((key_at keys i).1) h is);
    all = λ id h is at.
        let r = firing.all id h (was_held index index1 (key_at keys place).1 gone id h is) at in
        let apart : r.0 ≢ place = λ same. still id h is (ap (λ (k : ℕ × ℕ). k.1) (ap (key_at keys) (sym same) ∙ r.3)) in
        (r.0, further r.0 r.1 apart, r.2, r.3);
  }
    where
      further : (n : ℕ) → place ≤ n → n ≢ place → place + 1 ≤ n
      further n low ne = omega (arith, low, ne)

      -- the id of this key is gone
      still : (id : ℕ) (h : Held A) → held_at index1 id ≡ Some h → (key_at keys place).1 ≢ id
      still id h is same = none-some h (sym (gone id ∙ here (key_at keys place).1 id (held_at index id) same) ∙ is)
        where
          here : (a b : ℕ) (o : Option (Held A)) → a ≡ b → cond (nat_eq a b) None o ≡ None
          here a b o e = grind (arith, common_steps)

  pub fired_part : (index index1 : Index A) (id : ℕ) → ((q : ℕ) → held_at index1 q ≡ cond (nat_eq id q) None (held_at index q)) → IsPartOf index1 index
  fired_part index index1 id gone q h is = was_held index index1 id gone q h is

  pub fired_apart : (index index1 : Index A) (id : ℕ) → AreApart index → IsUnique index1 → ((q : ℕ) → held_at index1 q ≡ cond (nat_eq id q) None (held_at index q)) → AreApart index1
  fired_apart index index1 id apart unique gone = apart_from_drop index index1 id apart unique (gone_ranks index index1 id gone)

-- the list loses its first timer of the tick
module _ {A : Type 0} (index index1 : Index A) (now : ℕ) (keys : List (ℕ × ℕ)) (place : ℕ) (firing : IsFiring ((now + 1) % 256) keys place index) (apart : AreApart index)
    (ahead : AreAhead now index) (settled : AreSettled (now + 1) index) (within : place < length keys)
    (gone : (q : ℕ) → held_at index1 q ≡ cond (nat_eq (key_at keys place).1 q) None (held_at index q)) (unique : IsUnique index1) where
  pub fired_timers : (h : Held A) → held_at index (key_at keys place).1 ≡ Some h
      → (due_at (now + 1) (timers_of index) ≡ timer_of (key_at keys place).1 h ∷ due_at (now + 1) (timers_of index1))
      × (due_later (now + 1) (timers_of index1) ≡ due_later (now + 1) (timers_of index))
  fired_timers h is =
      let s : ℕ = (now + 1) % 256 in
      let id : ℕ = (key_at keys place).1 in
      let own = firing.each place h (omega arith) within is in
      let due : h.due ≡ now + 1 = due_from_slot now h.due (subst (λ t. IsAhead now h.due t) own.0 (ahead id h is)) in
      let sorted = numbered_sorted index in
      let found = held_found index id h apart is in
      let p : Timer A → Bool = λ t. t.due == (now + 1) in
      let q : Timer A → Bool = λ t. not (t.id == id) in
      let only : (n : ℕ) (w : Timer A) → find nat_cmp n (numbered index) ≡ Some w → w.id ≡ id → n ≡ h.order = λ n w f d.
      let m = found_held index n w apart f in
      sym (ap (λ (r : ℕ × Timer A). r.0) m.2) ∙ ap (λ (x : Held A). x.order) (same_Some _ _ (sym m.1 ∙ ap (held_at index) d ∙ is)) in
      let least : (n : ℕ) (w : Timer A) → find nat_cmp n (numbered index) ≡ Some w → p w ≡ true → h.order ≤ n = λ n w f t.
      let m = found_held index n w apart f in
      let w_due : m.0.due ≡ now + 1 = ap (λ (r : ℕ × Timer A). r.1.due) m.2 ∙ equal_ids w.due (now + 1) t in
      let w_at : m.0.slot ≡ s = slot_from_due now m.0.due m.0.slot (ahead w.id m.0 m.1) (settled w.id m.0 m.1) w_due in
      let c = firing.all w.id m.0 m.1 w_at in
      let rises = firing.rises place c.0 (0, 0) c.1 c.2 in
      omega (
        arith,
        rises,
        own.1,
        ap (λ (k : ℕ × ℕ). k.0) c.3,
        ap (λ (r : ℕ × Timer A). r.0) m.2,
      ) in
      let drop : timers_of index1 ≡ without id (timers_of index) = timers_drop index index1 id apart (fired_apart index index1 id apart unique gone) (gone_ranks index index1 id gone) in (
        first_passes p q (numbered index) h.order (timer_of id h) sorted found (itself h.due (now + 1) due) (not_itself id)
            (λ n w f ne. not_equal w.id id (λ d. ne (only n w f d))) least
            ∙ ap (λ (ts : List (Timer A)). timer_of id h ∷ due_at (now + 1) ts) (sym drop),
        ap (due_later (now + 1)) drop ∙ filter_filter (λ (t : Timer A). not (t.due == (now + 1))) q (numbered index) sorted
            (λ n w f t.
            let d : w.id ≡ id = not_not w.id id t in
            let m = found_held index n w apart f in
            let same_h : m.0 ≡ h = same_Some _ _ (sym m.1 ∙ ap (held_at index) d ∙ is) in
            not_later w.due (now + 1) (sym (ap (λ (r : ℕ × Timer A). r.1.due) m.2) ∙ ap (λ (x : Held A). x.due) same_h ∙ due)),
      )
    where
      equal_ids : (a b : ℕ) → (a == b) ≡ true → a ≡ b
      equal_ids a b t = grind (arith, common_steps)

      itself : (a b : ℕ) → a ≡ b → (a == b) ≡ true
      itself a b d = grind (arith, common_steps)

      not_itself : (a : ℕ) → not (a == a) ≡ false
      not_itself a = grind (arith, common_steps)

      not_equal : (a b : ℕ) → a ≢ b → not (a == b) ≡ true
      not_equal a b d = grind (arith, common_steps)

      not_not : (a b : ℕ) → not (a == b) ≡ false → a ≡ b
      not_not a b t = grind (arith, common_steps)

      not_later : (a b : ℕ) → a ≡ b → not (a == b) ≡ false
      not_later a b d = grind (arith, common_steps)

-- no key is left: nothing is due any more
module _ {A : Type 0} (index : Index A) (now : ℕ) (keys : List (ℕ × ℕ)) (place : ℕ) (firing : IsFiring ((now + 1) % 256) keys place index) (apart : AreApart index)
    (over : length keys ≤ place) where
  left : (id : ℕ) (h : Held A) → held_at index id ≡ Some h → h.slot ≢ (now + 1) % 256
  left id h is at = let r = firing.all id h is at in omega (arith, over, r.1, r.2)

  pub fired_ahead : AreAhead now index → AreSettled (now + 1) index → AreAhead (now + 1) index
  fired_ahead ahead settled id h is =
      ahead_at_next now h.due h.slot (ahead id h is) (settled id h is)
      (λ due. left id h is (slot_from_due now h.due h.slot (ahead id h is) (settled id h is) due))

  pub none_due : AreAhead now index → AreSettled (now + 1) index
      → (due_at (now + 1) (timers_of index) ≡ []) × (due_later (now + 1) (timers_of index) ≡ timers_of index)
  none_due ahead settled =
      let apart : (n : ℕ) (w : Timer A) → find nat_cmp n (numbered index) ≡ Some w → w.due ≢ now + 1 = λ n w f d.
      let m = found_held index n w apart f in
      left w.id m.0 m.1 (slot_from_due now m.0.due m.0.slot (ahead w.id m.0 m.1) (settled w.id m.0 m.1) (ap (λ (r : ℕ × Timer A). r.1.due) m.2 ∙ d)) in (
        filter_none (λ (t : Timer A). t.due == (now + 1)) (numbered index) (numbered_sorted index) (λ n w f. not_same w.due (now + 1) (apart n w f)),
        filter_all (λ (t : Timer A). not (t.due == (now + 1))) (numbered index) (numbered_sorted index) (λ n w f. is_later w.due (now + 1) (apart n w f)),
      )
    where
      not_same : (a b : ℕ) → a ≢ b → (a == b) ≡ false
      not_same a b d = grind (arith, common_steps)

      is_later : (a b : ℕ) → a ≢ b → not (a == b) ≡ true
      is_later a b d = grind (arith, common_steps)

-- what was handed out of a timer stands behind what was before
pub moved_on : {A X : Type 0} (handout : ℕ → A → X) (before after : List X) (due rest : List (Timer A)) (t : Timer A) (x : X) → due ≡ t ∷ rest → x ≡ handout t.id t.item
    → after ≡ before ++ x ∷ [] → before ++ handouts_of handout due ≡ after ++ handouts_of handout rest
moved_on {A = A} {X = X} handout before after due rest t x is given more =
    ap (λ (ts : List (Timer A)). before ++ handouts_of handout ts) is ∙ ap (λ (y : X). before ++ y ∷ handouts_of handout rest) (sym given)
    ∙ sym (append_assoc before (x ∷ []) (handouts_of handout rest)) ∙ ap (λ (xs : List X). xs ++ handouts_of handout rest) (sym more)

-- where nothing is due any more, all has been handed out
pub all_moved : {A X : Type 0} (handout : ℕ → A → X) (due fired : List X) (rest : List (Timer A)) → rest ≡ [] → due ≡ fired ++ handouts_of handout rest → fired ≡ due
all_moved {A = A} handout due fired rest none is =
    sym (append-nil fired) ∙ ap (λ (ts : List (Timer A)). fired ++ handouts_of handout ts) (sym none) ∙ sym is

-- where the slot has no timer, the tick fires nothing, and all stays as it is
pub fires_none : {A X : Type 0} (handout : ℕ → A → X) (index : Index A) (now steps : ℕ) (fired : List X) → ListsIds index ((now + 1) % 256) [] → AreApart index → AreAhead now index
    → AreSettled (now + 1) index → fired ≡ [] → Fires handout now index index steps steps fired
fires_none {A = A} {X = X} handout index now steps fired lists apart ahead settled empty =
    let firing = firing_none index ((now + 1) % 256) lists in
    let n = none_due index now [] 0 firing apart (omega arith) ahead settled in
    record {
      apart = apart;
      ahead = fired_ahead index now [] 0 firing apart (omega arith) ahead settled;
      part = λ id held is. is;
      fired_is = empty ∙ sym (ap (λ (ts : List (Timer A)). handouts_of handout ts) n.0);
      rest = sym n.1;
      counted = sym (ap (λ (xs : List X). steps + length xs) empty ∙ omega arith);
    }
