-- A wheel whose timers carry nothing, seen with their ids: what each call makes of it.
use Rattle.std.proofs.Common.{◌≡◌, ℕ, ◌+◌, ◌-◌, ◌%◌, ◌≤◌, ◌==◌, ◌↔◌, ◌&&◌, nat_le, not, Bool, true, false, cond, List, [], ◌∷◌, length, map, Option, Some, None, option_map, is_some, IsSome, IsTrue, refl, sym, ap, ◌∙◌, subst}
use Rattle.std.specs.FinMap.Entries.{put, by_order}
use Rattle.std.specs.List.{filter, sum_by}
use Rattle.std.specs.Ordering.{nat_cmp}
use Rattle.std.specs.declared.cmp.Ordering.TheVariants.{Less, Equal, Greater}
use Rattle.std.proofs.lemmas.List.{length-map, map-append, nil_from_length}
use Rattle.std.proofs.lemmas.List.Sums.{sum_by-cons}
use Rattle.tick_wheel.specs.declared.timer.Timer.{Timer}
use Rattle.tick_wheel.specs.Handouts.{HandsOut, handouts_of}
use Rattle.tick_wheel.specs.InOrder.{in_order}
use Rattle.tick_wheel.specs.Steps.{tick_bound, count_turning}
use Rattle.tick_wheel.specs.TimerList.{TimerList, timer_at, scheduled, cancelled, by_id, due_at, due_later}
use Rattle.tick_wheel.specs.Wheel.{with_id, with_ids, ids_of, due_of, TicksIds}
use Rattle.tick_wheel.proofs.InOrder.{values}
use Rattle.tick_wheel.proofs.Views.{unmapped}

module _ {A : Type 0} where
  filter_with : (p : Timer ℕ → Bool) (ts : List (Timer A)) → filter p (map with_id ts) ≡ map with_id (filter (λ (t : Timer A). p (with_id t)) ts)
  filter_with p [] = refl
  filter_with p (t ∷ ts) =
      let q : Timer A → Bool = λ t. p (with_id t) in
      let rest = filter_with p ts in
      elim (p (with_id t)) as (λ b. cond b (with_id t ∷ filter p (map with_id ts)) (filter p (map with_id ts)) ≡ map with_id (cond b (t ∷ filter q ts) (filter q ts))) [
        | true ↦ ap (λ (us : List (Timer ℕ)). with_id t ∷ us) rest
        | false ↦ rest
      ]

  find_with : (id : ℕ) (ts : List (Timer A)) → timer_at id (map with_id ts) ≡ option_map with_id (timer_at id ts)
  find_with id [] = refl
  find_with id (t ∷ ts) =
      elim (t.id == id) as (λ b. cond b (Some (with_id t)) (timer_at id (map with_id ts)) ≡ option_map with_id (cond b (Some t) (timer_at id ts))) [
        | true ↦ refl
        | false ↦ find_with id ts
      ]

  sum_with : (f : Timer ℕ → ℕ) (ts : List (Timer A)) → sum_by f (map with_id ts) ≡ sum_by (λ (t : Timer A). f (with_id t)) ts
  sum_with f [] = refl
  sum_with f (t ∷ ts) =
      sum_by-cons f (with_id t) (map with_id ts) ∙ ap (λ n. f (with_id t) + n) (sum_with f ts) ∙ sym (sum_by-cons (λ (u : Timer A). f (with_id u)) t ts)

  ids_with : (ts : List (Timer A)) → ids_of (map with_id ts) ≡ handouts_of (λ (id : ℕ) (item : A). id) ts
  ids_with [] = refl
  ids_with (t ∷ ts) = ap (λ (ids : List ℕ). t.id ∷ ids) (ids_with ts)

  -- in order of the ids
  abbrev entry_with : ℕ × Timer A → ℕ × Timer ℕ
  entry_with e = (e.0, with_id e.1)

  put_with : (k : ℕ) (t : Timer A) (es : List (ℕ × Timer A)) → put nat_cmp k (with_id t) (map entry_with es) ≡ map entry_with (put nat_cmp k t es)
  put_with k t [] = refl
  put_with k t (e ∷ es) =
      elim (nat_cmp k e.0) as (λ o. by_order o ((k, with_id t) ∷ entry_with e ∷ map entry_with es) ((e.0, with_id t) ∷ map entry_with es) (entry_with e ∷ put nat_cmp k (with_id t) (map entry_with es))
      ≡ map entry_with (by_order o ((k, t) ∷ e ∷ es) ((e.0, t) ∷ es) (e ∷ put nat_cmp k t es))) [
        | Less ↦ refl
        | Equal ↦ refl
        | Greater ↦ ap (λ (us : List (ℕ × Timer ℕ)). entry_with e ∷ us) (put_with k t es)
      ]

  keyed_with : (ts : List (Timer A))
      → in_order (map (λ (t : Timer ℕ). (t.id, t)) (map with_id ts)) ≡ map entry_with (in_order (map (λ (t : Timer A). (t.id, t)) ts))
  keyed_with [] = refl
  keyed_with (t ∷ ts) = ap (put nat_cmp t.id (with_id t)) (keyed_with ts) ∙ put_with t.id t (in_order (map (λ (u : Timer A). (u.id, u)) ts))

  values_with : (es : List (ℕ × Timer A)) → values (map entry_with es) ≡ map with_id (values es)
  values_with [] = refl
  values_with (e ∷ es) = ap (λ (us : List (Timer ℕ)). with_id e.1 ∷ us) (values_with es)

  by_id_with : (ts : List (Timer A)) → by_id (map with_id ts) ≡ map with_id (by_id ts)
  by_id_with ts = ap values (keyed_with ts) ∙ values_with (in_order (map (λ (t : Timer A). (t.id, t)) ts))

  -- the bound of a tick
  turning_with : (width tick : ℕ) (ts : List (Timer A)) → count_turning width tick (map with_id ts) ≡ count_turning width tick ts
  turning_with width tick ts = ap (λ n. cond (tick % width == 0) n 0) (sum_with (λ (t : Timer ℕ). cond (nat_le tick t.due && nat_le t.due (tick + (width - 1))) 1 0) ts)

  bound_with : (w : TimerList A) → tick_bound (with_ids w) ≡ tick_bound w
  bound_with w =
      let tick = w.tick + 1 in
      (λ i. sum_with (λ (t : Timer ℕ). cond (t.due == tick) 1 0) w.timers i
      + (turning_with 256 tick w.timers i + turning_with 65536 tick w.timers i + turning_with 16777216 tick w.timers i))

-- a list of timers that is seen with their ids
module _ {A : Type 0} (w : TimerList A) (v : TimerList ℕ) (seen : with_ids w ≡ v) where
  pub seen_holds : (id : ℕ) (b : Bool) → (IsTrue b ↔ IsSome (timer_at id w.timers)) → (IsTrue b ↔ IsSome (timer_at id v.timers))
  seen_holds id b is = (λ t. subst (λ b. b ≡ true) (sym same) (is.0 t), λ t. is.1 (subst (λ b. b ≡ true) same t))
    where
      mapped : (o : Option (Timer A)) → is_some o ≡ is_some (option_map with_id o)
      mapped None = refl
      mapped (Some t) = refl

      same : is_some (timer_at id v.timers) ≡ is_some (timer_at id w.timers)
      same =
          sym (ap (λ (x : TimerList ℕ). is_some (timer_at id x.timers)) seen) ∙ (ap (λ (o : Option (Timer ℕ)). is_some o) (find_with id w.timers)
          ∙ sym (mapped (timer_at id w.timers)))

  pub seen_len : length w.timers ≡ length v.timers
  seen_len = sym (length-map w.timers with_id) ∙ ap (λ (x : TimerList ℕ). length x.timers) seen

  pub seen_empty : (b : Bool) → (IsTrue b ↔ (w.timers ≡ [])) → (IsTrue b ↔ (v.timers ≡ []))
  seen_empty b is = (
    λ t. nil_from_length v.timers (sym seen_len ∙ ap (λ (ts : List (Timer A)). length ts) (is.0 t)),
    λ none. is.1 (nil_from_length w.timers (seen_len ∙ ap (λ (ts : List (Timer ℕ)). length ts) none)),
  )

  pub seen_free : (id : ℕ) → timer_at id v.timers ≡ None → timer_at id w.timers ≡ None
  seen_free id free = unmapped with_id (timer_at id w.timers) (sym (find_with id w.timers) ∙ (ap (λ (x : TimerList ℕ). timer_at id x.timers) seen ∙ free))

  pub seen_scheduled : (new : TimerList A) (delay id : ℕ) (item : A) → new ≡ scheduled w delay id item → with_ids new ≡ scheduled v delay id id
  seen_scheduled new delay id item is =
      ap with_ids is
      ∙ (λ i. record { tick = w.tick; timers = map-append with_id w.timers (record { due = w.tick + delay; id = id; item = item } ∷ []) i })
      ∙ ap (λ (x : TimerList ℕ). scheduled x delay id id) seen

  pub seen_due : (id : ℕ) (o : Option (Timer A)) → o ≡ timer_at id w.timers → option_map (λ (t : Timer A). t.due) o ≡ option_map due_of (timer_at id v.timers)
  seen_due id o is =
      mapped o ∙ (ap (λ (p : Option (Timer A)). option_map due_of (option_map with_id p)) is ∙ (ap (option_map due_of) (sym (find_with id w.timers))
      ∙ ap (λ (x : TimerList ℕ). option_map due_of (timer_at id x.timers)) seen))
    where
      mapped : (p : Option (Timer A)) → option_map (λ (t : Timer A). t.due) p ≡ option_map due_of (option_map with_id p)
      mapped None = refl
      mapped (Some t) = refl

  pub seen_cancelled : (new : TimerList A) (id : ℕ) → new ≡ cancelled w id → with_ids new ≡ cancelled v id
  seen_cancelled new id is =
      ap with_ids is
      ∙ (λ i. record { tick = w.tick; timers = sym (filter_with (λ (t : Timer ℕ). not (t.id == id)) w.timers) i })
      ∙ ap (λ (x : TimerList ℕ). cancelled x id) seen

  pub seen_ticked : (new : TimerList A) (ids : List ℕ) → HandsOut (λ (id : ℕ) (item : A). id) w new ids → TicksIds v (with_ids new) ids
  seen_ticked new ids t = record {
    now = t.now ∙ ap (λ (x : TimerList ℕ). x.tick + 1) seen;
    fired = t.fired ∙ (sym (ids_with (due_at new.tick w.timers)) ∙ (ap ids_of (sym (filter_with (λ (u : Timer ℕ). u.due == new.tick) w.timers))
        ∙ ap (λ (x : TimerList ℕ). ids_of (due_at new.tick x.timers)) seen));
    rest = ap (λ (ts : List (Timer A)). map with_id ts) t.rest ∙ (sym (filter_with (λ (u : Timer ℕ). not (u.due == new.tick)) w.timers)
        ∙ ap (λ (x : TimerList ℕ). due_later new.tick x.timers) seen);
  }

  pub seen_bound : (n m : ℕ) → n ≤ m + tick_bound w → n ≤ m + tick_bound v
  seen_bound n m le = subst (λ b. n ≤ m + b) (sym (bound_with w) ∙ ap (λ (x : TimerList ℕ). tick_bound x) seen) le

  pub seen_swept : (ids : List ℕ) → ids ≡ handouts_of (λ (id : ℕ) (item : A). id) (by_id w.timers) → ids ≡ ids_of (by_id v.timers)
  seen_swept ids is =
      is ∙ (sym (ids_with (by_id w.timers)) ∙ (ap ids_of (sym (by_id_with w.timers)) ∙ ap (λ (x : TimerList ℕ). ids_of (by_id x.timers)) seen))

  pub seen_same : (new : TimerList A) → new ≡ w → with_ids new ≡ v
  seen_same new is = ap with_ids is ∙ seen

  pub seen_gone : (new : TimerList A) → new ≡ record { tick = w.tick; timers = [] } → with_ids new ≡ record { tick = v.tick; timers = [] }
  seen_gone new is = ap with_ids is ∙ ap (λ (x : TimerList ℕ). record { tick = x.tick; timers = [] }) seen
