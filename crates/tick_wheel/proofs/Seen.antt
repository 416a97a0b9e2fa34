-- From what the index holds to the list that contracts see.
use Rattle.std.proofs.Common.{◌≡◌, ◌≢◌, ℕ, ◌+◌, ◌^◌, ◌<◌, ◌≤◌, ◌==◌, Bool, true, cond, nat_eq, List, [], ◌∷◌, ◌++◌, length, Option, Some, None, Result, Ok, Err, option_map, is_some, refl, sym, ap, ◌∙◌, subst, arith}
use Rattle.std.specs.List.{IsDistinct}
use Rattle.std.specs.Result.{OnErr}
use Rattle.std.specs.Map.{keys_of, lookup}
use Rattle.std.proofs.lemmas.Grind.{common_steps}
use Rattle.std.proofs.lemmas.List.{length-map, nil_from_length}
use Rattle.std.proofs.lemmas.List.Sums.{length-filter}
use Rattle.std.proofs.lemmas.Option.{none-some}
use Rattle.tick_wheel.specs.Handouts.{HandsOut, handouts_of}
use Rattle.tick_wheel.specs.Held.{Held}
use Rattle.tick_wheel.specs.declared.timer.Timer.{Timer}
use Rattle.tick_wheel.specs.Firing.{IsPartOf}
use Rattle.tick_wheel.specs.Kept.{timers_of, IsKept}
use Rattle.tick_wheel.specs.Place.{IsAhead, slot_for}
use Rattle.tick_wheel.specs.Steps.{count_due, turning_bound, tick_bound}
use Rattle.tick_wheel.specs.Table.{Index, AreApart, AreAhead, held_at, ranked_at, timer_of}
use Rattle.tick_wheel.specs.TimerList.{TimerList, timer_at, without, cancelled, scheduled, due_at, due_later, Ticks}
use Rattle.tick_wheel.proofs.Counting.{length-timers_of}
use Rattle.tick_wheel.proofs.Places.{ahead_from_delay}
use Rattle.tick_wheel.proofs.Views.{none_distinct, unmapped, timers_push, timers_same, timer_at-timers_of}

module _ {A : Type 0} where
  abbrev pub seen_of : ℕ → Index A → TimerList A
  seen_of tick index = record { tick = tick; timers = timers_of index }

  pub seen_length : (tick : ℕ) (index : Index A) (v : TimerList A) → AreApart index → seen_of tick index ≡ v → length index ≡ length v.timers
  seen_length tick index v apart seen = sym (length-timers_of index apart) ∙ ap (λ (w : TimerList A). length w.timers) seen

  pub seen_timer : (tick : ℕ) (index : Index A) (v : TimerList A) (id : ℕ) → AreApart index → seen_of tick index ≡ v
      → option_map (timer_of id) (held_at index id) ≡ timer_at id v.timers
  seen_timer tick index v id apart seen = sym (timer_at-timers_of index id apart) ∙ ap (λ (w : TimerList A). timer_at id w.timers) seen

  pub seen_holds : (tick : ℕ) (index : Index A) (v : TimerList A) (id : ℕ) (b : Bool) → AreApart index → seen_of tick index ≡ v
      → b ≡ is_some (held_at index id) → b ≡ is_some (timer_at id v.timers)
  seen_holds tick index v id b apart seen is =
      is ∙ sym (mapped (held_at index id)) ∙ ap (λ (o : Option (Timer A)). is_some o) (seen_timer tick index v id apart seen)
    where
      mapped : (o : Option (Held A)) → is_some (option_map (timer_of id) o) ≡ is_some o
      mapped None = refl
      mapped (Some h) = refl

  pub seen_free : (tick : ℕ) (index : Index A) (v : TimerList A) (id : ℕ) → AreApart index → seen_of tick index ≡ v
      → timer_at id v.timers ≡ None → held_at index id ≡ None
  seen_free tick index v id apart seen free = unmapped (timer_of id) (held_at index id) (seen_timer tick index v id apart seen ∙ free)

  pub seen_empty : (tick : ℕ) (index : Index A) (v : TimerList A) → AreApart index → seen_of tick index ≡ v → v.timers ≡ [] → index ≡ []
  seen_empty tick index v apart seen empty =
      nil_from_length index (seen_length tick index v apart seen ∙ ap (λ (ts : List (Timer A)). length ts) empty)

  pub seen_cancel : (tick : ℕ) (index index' : Index A) (v : TimerList A) (id : ℕ) → seen_of tick index ≡ v
      → timers_of index' ≡ without id (timers_of index) → seen_of tick index' ≡ cancelled v id
  seen_cancel tick index index' v id seen drop = (λ i. record { tick = tick; timers = drop i }) ∙ ap (λ (w : TimerList A). cancelled w id) seen

  pub seen_schedule : (tick next : ℕ) (index index' : Index A) (v : TimerList A) (delay id : ℕ) (h : Held A)
      → IsKept tick next index → AreApart index' → seen_of tick index ≡ v → timer_at id v.timers ≡ None
      → h.order ≡ next → h.due ≡ tick + delay
      → ((q : ℕ) → held_at index' q ≡ cond (nat_eq id q) (Some h) (held_at index q))
      → seen_of tick index' ≡ scheduled v delay id h.item
  seen_schedule tick next index index' v delay id h kept apart seen free order due updates =
      let pushed = timers_push index index' next id h kept.apart apart kept.below (seen_free tick index v id kept.apart seen free) order updates in
      (λ i. record { tick = tick; timers = pushed i })
      ∙ (λ i. record { tick = tick; timers = timers_of index ++ record { due = due i; id = id; item = h.item } ∷ [] })
      ∙ ap (λ (w : TimerList A). scheduled w delay id h.item) seen

  -- the same ranks are seen as the same
  pub seen_settled : (tick : ℕ) (index index' : Index A) (v : TimerList A) → AreApart index → AreApart index' → ((q : ℕ) → ranked_at index' q ≡ ranked_at index q)
      → seen_of tick index ≡ v → seen_of tick index' ≡ v
  seen_settled tick index index' v apart apart' same seen = (λ i. record { tick = tick; timers = timers_same index index' apart apart' same i }) ∙ seen

  -- the same, where nothing changed since
  pub seen_still : (tick : ℕ) (index mid index' : Index A) (v : TimerList A) → AreApart index → AreApart mid → ((q : ℕ) → ranked_at mid q ≡ ranked_at index q)
      → seen_of tick index ≡ v → index' ≡ mid → seen_of tick index' ≡ v
  seen_still tick index mid index' v apart apart' same seen still =
      subst (λ (ix : Index A). seen_of tick ix ≡ v) (sym still) (seen_settled tick index mid v apart apart' same seen)

  -- a tick's steps
  pub seen_bound : (tick : ℕ) (index : Index A) (v : TimerList A) (n m : ℕ) → seen_of tick index ≡ v
      → n ≤ m + (count_due (tick + 1) (timers_of index) + turning_bound (tick + 1) (timers_of index)) → n ≤ m + tick_bound v
  seen_bound tick index v n m seen le = subst (λ (w : TimerList A). n ≤ m + tick_bound w) seen le

  pub count_fired : {X : Type 0} (handout : ℕ → A → X) (tick : ℕ) (ts : List (Timer A)) (fired : List X) → fired ≡ handouts_of handout (due_at tick ts) → length fired ≡ count_due tick ts
  count_fired {X} handout tick ts fired is =
      ap (λ (xs : List X). length xs) is ∙ length-map (due_at tick ts) (λ (t : Timer A). handout t.id t.item) ∙ length-filter (λ (t : Timer A). t.due == tick) ts

  pub seen_tick : {X : Type 0} (handout : ℕ → A → X) (tick : ℕ) (index mid index' : Index A) (v : TimerList A) (fired : List X) → seen_of tick index ≡ v
      → timers_of mid ≡ timers_of index → fired ≡ handouts_of handout (due_at (tick + 1) (timers_of mid)) → timers_of index' ≡ due_later (tick + 1) (timers_of mid)
      → HandsOut handout v (seen_of (tick + 1) index') fired
  seen_tick handout tick index mid index' v fired seen same is rest =
      let at : tick + 1 ≡ v.tick + 1 = ap (λ (w : TimerList A). w.tick + 1) seen in
      let ts : timers_of mid ≡ v.timers = same ∙ ap (λ (w : TimerList A). w.timers) seen in
      record {
        now = at;
        fired = is ∙ ap (λ (xs : List (Timer A)). handouts_of handout (due_at (tick + 1) xs)) ts;
        rest = rest ∙ ap (λ (xs : List (Timer A)). due_later (tick + 1) xs) ts;
      }

  -- where what each carries is handed out
  pub items_ticked : (old new : TimerList A) (items : List A) → HandsOut (λ (id : ℕ) (item : A). item) old new items → Ticks old new items
  items_ticked old new items t = record { now = t.now; fired = t.fired; rest = t.rest }

  pub kept_fired : (tick next : ℕ) (index index' : Index A) → tick < 2 ^ 63 → IsKept tick next index → AreApart index' → AreAhead (tick + 1) index' → IsPartOf index' index
      → IsKept (tick + 1) next index'
  kept_fired tick next index index' low kept apart ahead part = record {
    now = omega (arith, low);
    last = kept.last;
    apart = apart;
    below = λ q h is. kept.below q h (part q h is);
    ahead = ahead;
  }

pub length_nil : {A : Type 0} (xs : List A) → xs ≡ [] → length xs ≡ 0
length_nil {A = A} xs e = ap (λ (ys : List A). length ys) e

pub ahead_placed : (now delay slot : ℕ) → slot ≡ slot_for now (now + delay) → 0 < delay → delay ≤ 4294967295 → IsAhead now (now + delay) slot
ahead_placed now delay slot is low high = subst (λ s. IsAhead now (now + delay) s) (sym is) (ahead_from_delay now (now + delay) (omega (arith, low)) (omega (arith, high)))

module _ {A : Type 0} where
  pub seen_low : (tick : ℕ) (index : Index A) (v : TimerList A) → seen_of tick index ≡ v → v.tick < 2 ^ 63 → tick < 2 ^ 63
  seen_low tick index v seen low = subst (λ n. n < 2 ^ 63) (sym (ap (λ (w : TimerList A). w.tick) seen)) low

  -- the steps of what was placed anew and of what fired
  pub fired_bound : {X : Type 0} (handout : ℕ → A → X) (tick : ℕ) (before mid after : ℕ) (ts : List (Timer A)) {ms : List (Timer A)} (fired : List X) → ms ≡ ts
      → fired ≡ handouts_of handout (due_at tick ms) → mid ≤ before + turning_bound tick ts → after ≡ mid + length fired
      → after ≤ before + (count_due tick ts + turning_bound tick ts)
  fired_bound handout tick before mid after ts {ms} fired same is turned all =
      let n : length fired ≡ count_due tick ts = count_fired handout tick ms fired is ∙ ap (λ (xs : List (Timer A)). count_due tick xs) same in
      omega (arith, turned, all, n)

  pub kept_new : (start : ℕ) (index : Index A) → start ≤ 2 ^ 62 → index ≡ [] → IsKept start 0 index
  kept_new start index low empty =
      let none : (q : ℕ) (h : Held A) → held_at index q ≡ Some h → ⊥ = λ q h is. none-some h (sym (ap (λ (es : List (ℕ × Held A)). lookup (nat_eq q) es) empty) ∙ is) in
      record {
        now = omega (arith, low);
        last = omega arith;
        apart = record {
          unique = subst (λ (es : List (ℕ × Held A)). IsDistinct nat_eq (keys_of es)) (sym empty) none_distinct;
          once = λ a b x y is also. absurd (none a x is);
        };
        below = λ q h is. absurd (none q h is);
        ahead = λ q h is. absurd (none q h is);
      }

  pub kept_empty : (tick next : ℕ) (index index' : Index A) → IsKept tick next index → index' ≡ [] → IsKept tick next index'
  kept_empty tick next index index' kept empty =
      let none : (q : ℕ) (h : Held A) → held_at index' q ≡ Some h → ⊥ = λ q h is. none-some h (sym (ap (λ (es : List (ℕ × Held A)). lookup (nat_eq q) es) empty) ∙ is) in
      record {
        now = kept.now;
        last = kept.last;
        apart = record {
          unique = subst (λ (es : List (ℕ × Held A)). IsDistinct nat_eq (keys_of es)) (sym empty) none_distinct;
          once = λ a b x y is also. absurd (none a x is);
        };
        below = λ q h is. absurd (none q h is);
        ahead = λ q h is. absurd (none q h is);
      }

pub next_fits : (next : ℕ) → next < 2 ^ 64 → next ≢ 18446744073709551615 → next + 1 < 2 ^ 64
next_fits next low ne = omega (arith, low, ne)

pub is_zero : (n : ℕ) → nat_eq n 0 ≡ true → n ≡ 0
is_zero n t = grind (arith, common_steps)

pub zero_is : (n : ℕ) → n ≡ 0 → nat_eq n 0 ≡ true
zero_is n e = grind (arith, common_steps)

-- what is said of an error
pub on_err : {X E : Type 0} (r : Result X E) (P : Type 0) → P → OnErr r P
on_err (Ok x) P p = tt
on_err (Err e) P p = p
