-- The arrival that was the last gives all slots back, and is told what another had left. Two arrivals don't both complete.
use Rattle.std.proofs.Common.{◌≡◌, ◌≢◌, ℕ, ◌+◌, inl, inr, Bool, true, false, List, replicate, set, refl, sym, ap, ◌∙◌, subst, ⊎_elim, None, arith}
use Rattle.std.specs.Prelude.{slice_set, slice_index}
use mathlib.Core.Option as maybe
use mathlib.Core.Option.{some-injective, some-ne-none}
use lib.ListN.{get_elem?}
use Rattle.atomic_table.specs.Table.{Act, Valid, Allows, homes_after, carried_after}
use Rattle.atomic_table.proofs.Lists.{at_set}
use Rattle.collect_ops.specs.declared.view.Ending.{Ending}
use Rattle.collect_ops.specs.declared.view.Phase.{Phase}
use Rattle.collect_ops.specs.declared.view.Phase.TheVariants as phase
use Rattle.collect_ops.specs.declared.view.View.{View}
use Rattle.collect_ops.specs.declared.view.View.TheVariants as view
use Rattle.collect_ops.specs.Rule.{Held, DeskState, FullPhase, FullView, Full, Gathering, full_home, DeskHolds}
use Rattle.collect_ops.specs.Steps.{Standing, returns_all, empty_slots}
use Rattle.collect_ops.proofs.Lists.{words_at_left, same_arrival}
use Rattle.collect_ops.proofs.Gather.{not_unopened}
use Rattle.collect_ops.proofs.Taking.{give_all, can_give, all_given, none_carried}

module _ {X : Type 0} where
  other_phase : (last : ℕ) (xs : List X) (given : Bool) (j : ℕ) (p : Phase X) → given ≡ false → j ≢ last → FullPhase last xs given j p → FullPhase last xs true j p
  other_phase last xs given j phase.Ready e ne h = h
  other_phase last xs given j phase.Holding e ne h = h
  other_phase last xs given j (phase.Kept x found) e ne h = h
  other_phase last xs given j phase.Lost e ne h = h
  other_phase last xs given j phase.Claiming e ne h = h
  other_phase last xs given j phase.Claimed e ne h = h
  other_phase last xs given j (phase.Emptying ys) e ne h = absurd (ne h.0)
  other_phase last xs given j (phase.Emptied ys) e ne h = absurd (ne h.0)
  other_phase last xs given j (phase.Told ys i x) e ne h = absurd (ne h.0)

module _ {X E : Type 0} where
  -- what a step of the last arrival owes, once all outcomes are kept
  abbrev pub FullOwes : ℕ → ℕ → Ending X E → ℕ → Phase X → List (ℕ × Held X E) → ℕ → (ℕ → ℕ) → (ℕ → Standing X E → Type 0) → Type 0
  FullOwes id n r k p cs i f then = (s : DeskState X E) (b : Full s) → get_elem? s.views id ≡ maybe.some (view.Arriving n r k p)
      → (w : View X E) × (a : Act (Held X E)) × Valid s.homes cs a × DeskHolds record { words = slice_set s.words i (f (slice_index s.words i)); homes = homes_after s.homes cs a; views = slice_set s.views id w }
      × then (slice_index s.words i) (w, carried_after cs a)

  -- the last arrival has its seat once all outcomes are kept
  pub last_steps : (slots id n : ℕ) (r : Ending X E) (k : ℕ) (p : Phase X) (cs : List (ℕ × Held X E)) (i : ℕ) (f : ℕ → ℕ) (then : ℕ → Standing X E → Type 0)
      → ((s : DeskState X E) (b : Gathering s) → get_elem? b.phases k ≡ maybe.some p → ⊥) → FullOwes id n r k p cs i f then → Allows DeskHolds slots id (view.Arriving n r k p, cs) i f then
  last_steps slots id n r k p cs i f then not owes s (inl b) long at small = absurd (not_unopened s b id n r k p at)
  last_steps slots id n r k p cs i f then not owes s (inr (inl b)) long at small = absurd (not s b (b.views id _ at).3)
  last_steps slots id n r k p cs i f then not owes s (inr (inr b)) long at small = owes s b at

  -- the table after the last arrival's phase changes
  pub filled_up : (s : DeskState X E) (b : Full s) (id n : ℕ) (r : Ending X E) (k : ℕ) (p q : Phase X) → get_elem? s.views id ≡ maybe.some (view.Arriving n r k p) → (given : Bool) (hs : _)
      → hs ≡ replicate (b.size + 1) (full_home given) → FullPhase b.last b.xs given k q
      → ((j : ℕ) (v : View X E) → j ≢ id → FullView b.size b.ending b.last b.xs b.given j v → FullView b.size b.ending b.last b.xs given j v)
      → DeskHolds record { words = slice_set s.words 0 (slice_index s.words 0); homes = hs; views = set s.views id (view.Arriving n r k q) }
  filled_up s b id n r k p q at given hs homes own others =
      let f = b.views id _ at in
      inr (inr record {
        size = b.size;
        ending = b.ending;
        last = b.last;
        xs = b.xs;
        given = given;
        long = b.long;
        words = words_at_left s.words 0 0 (λ w. w) b.words;
        homes = homes;
        views = λ j v there. ⊎_elim
            (λ (e : (j ≡ id) × (view.Arriving n r k q ≡ v)). subst (λ w. FullView b.size b.ending b.last b.xs given j w) e.1 (f.0, f.1, e.0 ∙ f.2, own))
            (λ (e : (j ≢ id) × (get_elem? s.views j ≡ maybe.some v)). others j v e.0 (b.views j v e.1))
            (at_set s.views id j (view.Arriving n r k q) v there);
      })

  other_view : (size : ℕ) (r : Ending X E) (last : ℕ) (xs : List X) (given : Bool) (id j : ℕ) (v : View X E) → given ≡ false → id ≡ last + 2 → j ≢ id → FullView size r last xs given j v → FullView size r last xs true j v
  other_view size r last xs given id j view.Making e mine ne h = h
  other_view size r last xs given id j view.Opening e mine ne h = h
  other_view size r last xs given id j (view.Opened m q) e mine ne h = h
  other_view size r last xs given id j (view.Dealing m q d) e mine ne h = h
  other_view size r last xs given id j (view.Owner m q) e mine ne h = h
  other_view size r last xs given id j (view.Arriving m q i p) e mine ne h =
      let place = h.2 in
      let apart : i ≢ last = λ same. ne (omega arith) in
      (h.0, h.1, h.2, other_phase last xs given i p e apart h.3)
  other_view size r last xs given id j view.Clash e mine ne h = h
  other_view size r last xs given id j view.Spent e mine ne h = h

module _ {X E : Type 0} (slots id n : ℕ) (r : Ending X E) (k : ℕ) (xs : List X) where
  abbrev emptying : View X E
  emptying = view.Arriving n r k (phase.Emptying xs)

  abbrev slots_out : List (ℕ × Held X E)
  slots_out = empty_slots 0 (n + 1)

  returns_them : Allows DeskHolds slots id (emptying, slots_out) 0 (λ w. w) (returns_all (emptying, slots_out))
  returns_them = last_steps slots id n r k (phase.Emptying xs) slots_out 0 (λ w. w) (returns_all (emptying, slots_out)) (λ s b at. b.fits k (phase.Emptying xs) at) owes
    where
      owes : FullOwes id n r k (phase.Emptying xs) slots_out 0 (λ w. w) (returns_all (emptying, slots_out))
      owes s b at =
          let f = b.views id _ at in
          let g = f.3 in
          let mine : id ≡ b.last + 2 = f.2 ∙ ap (λ j. j + 2) g.0 in (
            view.Arriving n r k (phase.Emptied xs),
            give_all (n + 1),
            can_give (n + 1) s.homes slots_out,
            filled_up s b id n r k (phase.Emptying xs) (phase.Emptied xs) at true _
                ((λ i. homes_after ((b.homes ∙ (λ t. replicate (sym f.0 t + 1) (full_home (g.2 t)))) i) slots_out (give_all (n + 1))) ∙ (all_given (n + 1) ∙ ap (λ m. replicate (m + 1) (maybe.some None)) f.0))
                (g.0, g.1, refl)
                (λ j v ne h. other_view b.size b.ending b.last b.xs b.given id j v g.2 mine ne h),
            λ m q j ys eq. let same = same_arrival n r k (phase.Emptying xs) m q j (phase.Emptying ys) _ _ eq in
                let e = same.phase in
                let list : xs ≡ ys = cc in
                λ i. (view.Arriving (same.size i) (same.ending i) (same.index i) (phase.Emptied (list i)), none_carried {X = X} {E = E} (n + 1) i),
          )

module _ {X E : Type 0} where
  pub arrival_returns_all : (slots id n : ℕ) (r : Ending X E) (k : ℕ) (xs : List X) (me : Standing X E) → me ≡ (view.Arriving n r k (phase.Emptying xs), empty_slots 0 (n + 1)) → Allows DeskHolds slots id me 0 (λ w. w) (returns_all me)
  arrival_returns_all slots id n r k xs me is = subst (λ m. Allows DeskHolds slots id m 0 (λ w. w) (returns_all m)) (sym is) (returns_them slots id n r k xs)
