-- An entry of the slot that turns is placed anew, in a finer wheel.
use Rattle.std.proofs.Common.{◌≡◌, ◌≢◌, ℕ, ◌+◌, ◌%◌, ◌<◌, ◌≤◌, ◌==◌, ◌⊎◌, inl, inr, Bool, true, cond, nat_eq, List, Option, Some, None, Result, Ok, option_map, refl, sym, ap, ◌∙◌, subst, arith, ⊎_elim}
use Rattle.std.proofs.lemmas.Bool.{cases_eq}
use Rattle.std.proofs.lemmas.Grind.{common_steps}
use Rattle.std.proofs.lemmas.Option.{none-some, same_Some}
use Rattle.tick_wheel.specs.Held.{Held}
use Rattle.tick_wheel.specs.declared.timer.Timer.{Timer}
use Rattle.tick_wheel.specs.Place.{slot_for, IsWheel, IsAhead, turning_slot}
use Rattle.tick_wheel.specs.Table.{Index, IsUnique, AreApart, AreAhead, PlacesAnew, Rearranges, held_at, ranked_at, rank_of, in_slot, moved}
use Rattle.fan_base.specs.declared.refusal.Memory.{Memory}
use Rattle.tick_wheel.specs.Book.{moves_of}
use Rattle.tick_wheel.specs.Kept.{timers_of}
use Rattle.tick_wheel.specs.Steps.{count_turning, turning_bound}
use Rattle.tick_wheel.proofs.Counting.{sum-values}
use Rattle.tick_wheel.proofs.Views.{timers_same}
use Rattle.tick_wheel.proofs.Places.{due_from_turning, ahead_from_turn}

module _ {T : Type 0} where
  -- what is held of an id has the same rank as before
  pub held_before : (o p : Option (Held T)) (q : ℕ) (h : Held T) → option_map (rank_of q) o ≡ option_map (rank_of q) p → o ≡ Some h
      → (k : Held T) × (p ≡ Some k) × (rank_of q k ≡ rank_of q h)
  held_before o None q h same is = absurd (none-some _ (sym same ∙ ap (option_map (rank_of q)) is))
  held_before o (Some k) q h same is = (k, refl, same_Some _ _ (sym same ∙ ap (option_map (rank_of q)) is))

  -- apart before, apart after
  pub apart_from_ranks : (old new : Index T) → AreApart old → IsUnique new → ((q : ℕ) → ranked_at new q ≡ ranked_at old q) → AreApart new
  apart_from_ranks old new apart unique same = record {
    unique = unique;
    once = λ id other h k is also e.
        let a = held_before (held_at new id) (held_at old id) id h (same id) is in
        let b = held_before (held_at new other) (held_at old other) other k (same other) also in
        apart.once id other a.0 b.0 a.1 b.1 (ap (λ (r : ℕ × Timer T). r.0) a.2 ∙ e ∙ sym (ap (λ (r : ℕ × Timer T). r.0) b.2));
  }

  -- what turns at the next tick is due from it on
  pub turning_due : (index : Index T) (first width now : ℕ) → IsWheel first width → (now + 1) % width ≡ 0 → AreAhead now index
      → (id : ℕ) (held : Held T) → held_at index id ≡ Some held → held.slot ≡ turning_slot first width (now + 1) → now + 1 ≤ held.due
  turning_due index first width now wheel turns ahead id held is at =
      (due_from_turning first width now held.due wheel turns (subst (λ s. IsAhead now held.due s) at (ahead id held is))).0

pub turning_low : (first width now : ℕ) → IsWheel first width → turning_slot first width (now + 1) < 1024
turning_low first width now (inl h) = grind arith
turning_low first width now (inr (inl h)) = grind arith
turning_low first width now (inr (inr h)) = grind arith

abbrev indicator : ℕ → ℕ → ℕ
indicator a b = cond (a == b) 1 0

indicator_yes : (a b : ℕ) → a ≡ b → indicator a b ≡ 1
indicator_yes a b same = grind (arith, common_steps)

indicator_no : (a b : ℕ) → a ≢ b → indicator a b ≡ 0
indicator_no a b apart = grind (arith, common_steps)

module _ {T : Type 0} (old new : Index T) (first width now : ℕ) (wheel : IsWheel first width) (turns : (now + 1) % width ≡ 0) (ahead : AreAhead now old)
    (placed : PlacesAnew old new (turning_slot first width (now + 1)) (now + 1)) where
  abbrev to : ℕ
  to = slot_for (now + 1) placed.held.due

  stood : IsAhead now placed.held.due (turning_slot first width (now + 1))
  stood = subst (λ s. IsAhead now placed.held.due s) placed.slot_is (ahead placed.id placed.held placed.was)

  fine : IsAhead now placed.held.due to × (to < first)
  fine =
      let range = due_from_turning first width now placed.held.due wheel turns stood in
      ahead_from_turn first width now placed.held.due wheel turns range.0 range.1

  -- what is held now: the entry in its new slot, or what was held
  new_held : (q : ℕ) (h : Held T) → held_at new q ≡ Some h → ((placed.id ≡ q) × (h ≡ moved placed.held to)) ⊎ (held_at old q ≡ Some h)
  new_held q h is =
      ⊎_elim
      (λ same. inl (same, same_Some _ _ (sym is ∙ placed.at q ∙ at_same q same)))
      (λ apart. inr (sym (at_other q apart) ∙ sym (placed.at q) ∙ is))
      (cases_eq placed.id q)
    where
      at_same : (q : ℕ) → placed.id ≡ q → cond (nat_eq placed.id q) (Some (moved placed.held to)) (held_at old q) ≡ Some (moved placed.held to)
      at_same q same = grind (arith, common_steps)

      at_other : (q : ℕ) → placed.id ≢ q → cond (nat_eq placed.id q) (Some (moved placed.held to)) (held_at old q) ≡ held_at old q
      at_other q apart = grind (arith, common_steps)

  pub turned_ahead : AreAhead now new
  turned_ahead q h is =
      ⊎_elim (λ a. subst (λ (k : Held T). IsAhead now k.due k.slot) (sym a.1) fine.0) (λ b. ahead q h b) (new_held q h is)

  same_ranked : (q : ℕ) → ranked_at new q ≡ ranked_at old q
  same_ranked q = ⊎_elim
      (λ same. ap (option_map (rank_of q)) (placed.at q ∙ here q same) ∙ sym (ap (option_map (rank_of q)) (ap (held_at old) (sym same) ∙ placed.was)))
      (λ apart. ap (option_map (rank_of q)) (placed.at q ∙ there q apart))
      (cases_eq placed.id q)
    where
      here : (q : ℕ) → placed.id ≡ q → cond (nat_eq placed.id q) (Some (moved placed.held to)) (held_at old q) ≡ Some (moved placed.held to)
      here q same = grind (arith, common_steps)

      there : (q : ℕ) → placed.id ≢ q → cond (nat_eq placed.id q) (Some (moved placed.held to)) (held_at old q) ≡ held_at old q
      there q apart = grind (arith, common_steps)

  pub turned_apart : AreApart old → AreApart new
  turned_apart apart = apart_from_ranks old new apart placed.unique same_ranked

  pub turned_same : Rearranges first old new
  turned_same = record {
    same = same_ranked;
    coarser = λ q h is low. ⊎_elim
        (λ a. absurd (omega (arith, ap (λ (k : Held T). k.slot) a.1, low, fine.1)))
        (λ b. b) (new_held q h is);
  }

  -- the slot has one entry less
  pub turned_count : in_slot (turning_slot first width (now + 1)) new + 1 ≡ in_slot (turning_slot first width (now + 1)) old
  turned_count =
      let turn : ℕ = turning_slot first width (now + 1) in
      let f : Held T → ℕ = λ h. indicator h.slot turn in
      let sum = placed.sums (λ (e : ℕ × Held T). f e.1) in
      let here : f placed.held ≡ 1 = indicator_yes placed.held.slot turn placed.slot_is in
      let gone : f (moved placed.held to) ≡ 0 = indicator_no to turn (λ same. omega (arith, fine.1, same)) in
      omega (arith, sum, here, gone, sum-values f old, sum-values f new)

-- the timers are the same through both
pub Rearranges-trans : {T : Type 0} (first : ℕ) (a b c : Index T) → Rearranges first a b → Rearranges first b c → Rearranges first a c
Rearranges-trans first a b c x y = record {
  same = λ q. y.same q ∙ x.same q;
  coarser = λ id h is low. x.coarser id h (y.coarser id h is low) low;
}

pub Rearranges-refl : {T : Type 0} (first : ℕ) (a : Index T) → Rearranges first a a
Rearranges-refl {T = T} first a = record {
  same = λ q. refl;
  coarser = λ id h is low. is;
}

-- three cascades, whose bounds speak of the same timers
pub settled_steps : {T : Type 0} (now : ℕ) (a b c : Index T) (s0 s1 s2 s3 : ℕ) → AreApart a → AreApart b → AreApart c
    → ((q : ℕ) → ranked_at b q ≡ ranked_at a q) → ((q : ℕ) → ranked_at c q ≡ ranked_at b q)
    → s1 ≤ s0 + count_turning 16777216 (now + 1) (timers_of a) → s2 ≤ s1 + count_turning 65536 (now + 1) (timers_of b) → s3 ≤ s2 + count_turning 256 (now + 1) (timers_of c)
    → s3 ≤ s0 + turning_bound (now + 1) (timers_of a)
settled_steps {T = T} now a b c s0 s1 s2 s3 apart apart' apart'' first second x y z =
    let ab : timers_of b ≡ timers_of a = timers_same a b apart apart' first in
    let bc : timers_of c ≡ timers_of a = timers_same b c apart' apart'' second ∙ ab in
    let y' = ap (λ (ts : List (Timer T)). count_turning 65536 (now + 1) ts) ab in
    let z' = ap (λ (ts : List (Timer T)). count_turning 256 (now + 1) ts) bc in
    omega (arith, x, y, z, y', z')

pub settled_part : {T : Type 0} (now : ℕ) (a b : Index T) (s0 s1 s2 : ℕ) → AreApart a → AreApart b → ((q : ℕ) → ranked_at b q ≡ ranked_at a q)
    → s1 ≤ s0 + count_turning 16777216 (now + 1) (timers_of a) → s2 ≤ s1 + count_turning 65536 (now + 1) (timers_of b)
    → s2 ≤ s0 + turning_bound (now + 1) (timers_of a)
settled_part {T = T} now a b s0 s1 s2 apart apart' first x y =
    let ab : timers_of b ≡ timers_of a = timers_same a b apart apart' first in
    let y' = ap (λ (ts : List (Timer T)). count_turning 65536 (now + 1) ts) ab in
    omega (arith, x, y, y')

-- a call that moved an entry was one step
pub one_move : (r : Result Bool Memory) (b : Bool) → r ≡ Ok b → b ≡ true → moves_of r ≡ 1
one_move r b is t = ap moves_of is ∙ ap (λ (x : Bool). moves_of (Ok x)) t
