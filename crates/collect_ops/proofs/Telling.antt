-- The arrival that was the last is told what another had left. Two arrivals don't both complete.
use Rattle.std.proofs.Common.{◌≡◌, ◌≢◌, ℕ, inl, inr, Bool, List, [], set, refl, sym, ap, ◌∙◌, subst, ⊎_elim, Some, arith}
use Rattle.std.specs.Prelude.{slice_get}
use Rattle.atomic_table.specs.Seated.{TableId}
use mathlib.Core.Option as maybe
use lib.ListN.{get_elem?}
use Rattle.atomic_table.specs.Table.{keeps as stays, Allows, Joins}
use Rattle.atomic_table.proofs.Lists.{at_set, set_else}
use Rattle.collect_ops.specs.declared.view.Ending.{Ending}
use Rattle.collect_ops.specs.declared.view.Phase.{Phase}
use Rattle.collect_ops.specs.declared.view.Phase.TheVariants as phase
use Rattle.collect_ops.specs.declared.view.View.{View}
use Rattle.collect_ops.specs.declared.view.View.TheVariants as view
use Rattle.collect_ops.specs.Seen.{ReceiptSeen}
use Rattle.collect_ops.specs.Views.{desk_in, index_in, phase_in, kept_in, found_in, list_in}
use Rattle.collect_ops.specs.Rule.{Held, Claim, back, PhaseFits, FullPhase, FullView, DeskHolds}
use Rattle.collect_ops.specs.Steps.{Standing, at, told, reads_told, IsDone, IsKept, IsLast, IsKeeper}
use Rattle.collect_ops.proofs.Lists.{same_arrival}
use Rattle.collect_ops.proofs.Gather.{not_unopened}
use Rattle.collect_ops.proofs.Dealing.{none_before}
use Rattle.collect_ops.proofs.Passing.{by_slice}
use Rattle.collect_ops.proofs.Returning.{FullOwes, last_steps, filled_up}

module _ {X : Type 0} where
  -- one that completed while outcomes were gathered made the claim
  done_claims : (c : Claim) (k : ℕ) (p : Phase X) → IsDone p → PhaseFits c k p → c ≡ back k
  done_claims c k phase.Ready done fits = absurd done
  done_claims c k phase.Holding done fits = absurd done
  done_claims c k (phase.Kept x found) done fits = absurd done
  done_claims c k phase.Lost done fits = absurd done
  done_claims c k phase.Claiming done fits = absurd done
  done_claims c k phase.Claimed done fits = fits
  done_claims c k (phase.Emptying xs) done fits = absurd done
  done_claims c k (phase.Emptied xs) done fits = absurd fits
  done_claims c k (phase.Told xs j x) done fits = absurd done

  -- one that completed once all outcomes were kept was the last
  done_lasts : (last : ℕ) (xs : List X) (given : Bool) (k : ℕ) (p : Phase X) → IsDone p → FullPhase last xs given k p → k ≡ last
  done_lasts last xs given k phase.Ready done fits = absurd done
  done_lasts last xs given k phase.Holding done fits = absurd done
  done_lasts last xs given k (phase.Kept x found) done fits = absurd done
  done_lasts last xs given k phase.Lost done fits = absurd done
  done_lasts last xs given k phase.Claiming done fits = absurd done
  done_lasts last xs given k phase.Claimed done fits = absurd fits
  done_lasts last xs given k (phase.Emptying ys) done fits = absurd done
  done_lasts last xs given k (phase.Emptied ys) done fits = fits.0
  done_lasts last xs given k (phase.Told ys j x) done fits = absurd done

module _ {X E : Type 0} where
  -- where a seat stands that completed by the count, and one whose outcome was kept
  pub is_last : (v : View X E) (hs : List (ℕ × Held X E)) → hs ≡ [] → IsDone (phase_in v) → found_in (phase_in v) ≡ 1 → IsLast (v, hs)
  is_last view.Making hs e done one = absurd done
  is_last view.Opening hs e done one = absurd done
  is_last (view.Opened n r) hs e done one = absurd done
  is_last (view.Dealing n r d) hs e done one = absurd done
  is_last (view.Owner n r) hs e done one = absurd done
  is_last (view.Arriving n r k phase.Ready) hs e done one = absurd done
  is_last (view.Arriving n r k phase.Holding) hs e done one = absurd done
  is_last (view.Arriving n r k (phase.Kept x found)) hs e done one = absurd done
  is_last (view.Arriving n r k phase.Lost) hs e done one = absurd done
  is_last (view.Arriving n r k phase.Claiming) hs e done one = absurd done
  is_last (view.Arriving n r k phase.Claimed) hs e done one = absurd (omega arith)
  is_last (view.Arriving n r k (phase.Emptying xs)) hs e done one = absurd done
  is_last (view.Arriving n r k (phase.Emptied xs)) hs e done one = (n, r, k, xs, λ i. (view.Arriving n r k (phase.Emptied xs), e i))
  is_last (view.Arriving n r k (phase.Told xs j x)) hs e done one = absurd done
  is_last view.Clash hs e done one = absurd done
  is_last view.Spent hs e done one = absurd done

  pub is_keeper : (v : View X E) (hs : List (ℕ × Held X E)) → hs ≡ [] → IsKept (phase_in v) → IsKeeper (v, hs)
  is_keeper view.Making hs e kept = absurd kept
  is_keeper view.Opening hs e kept = absurd kept
  is_keeper (view.Opened n r) hs e kept = absurd kept
  is_keeper (view.Dealing n r d) hs e kept = absurd kept
  is_keeper (view.Owner n r) hs e kept = absurd kept
  is_keeper (view.Arriving n r k phase.Ready) hs e kept = absurd kept
  is_keeper (view.Arriving n r k phase.Holding) hs e kept = absurd kept
  is_keeper (view.Arriving n r k (phase.Kept x found)) hs e kept = (n, r, k, x, found, λ i. (view.Arriving n r k (phase.Kept x found), e i))
  is_keeper (view.Arriving n r k phase.Lost) hs e kept = absurd kept
  is_keeper (view.Arriving n r k phase.Claiming) hs e kept = absurd kept
  is_keeper (view.Arriving n r k phase.Claimed) hs e kept = absurd kept
  is_keeper (view.Arriving n r k (phase.Emptying xs)) hs e kept = absurd kept
  is_keeper (view.Arriving n r k (phase.Emptied xs)) hs e kept = absurd kept
  is_keeper (view.Arriving n r k (phase.Told xs j x)) hs e kept = absurd kept
  is_keeper view.Clash hs e kept = absurd kept
  is_keeper view.Spent hs e kept = absurd kept

  tells_it : (id n : ℕ) (r : Ending X E) (k : ℕ) (xs : List X) (other m : ℕ) (q : Ending X E) (j : ℕ) (x : X) (found : ℕ)
      → Joins DeskHolds id (view.Arriving n r k (phase.Emptied xs)) other (view.Arriving m q j (phase.Kept x found)) (view.Arriving n r k (phase.Told xs j x)) view.Spent
  tells_it id n r k xs other m q j x found s (inl b) at ne there = absurd (not_unopened s b id n r k (phase.Emptied xs) at)
  tells_it id n r k xs other m q j x found s (inr (inl b)) at ne there = absurd (b.fits k (phase.Emptied xs) (b.views id _ at).3)
  tells_it id n r k xs other m q j x found s (inr (inr b)) at ne there =
      let now : View X E = view.Arriving n r k (phase.Told xs j x) in
      let f = b.views id (view.Arriving n r k (phase.Emptied xs)) at in
      let g = f.3 in
      let kept = (b.views other (view.Arriving m q j (phase.Kept x found)) (sym (set_else s.views id other now ne) ∙ there)).3 in
      inr (inr record {
        size = b.size;
        ending = b.ending;
        last = b.last;
        xs = b.xs;
        given = b.given;
        long = b.long;
        words = b.words;
        homes = b.homes;
        views = λ i v here. ⊎_elim
            (λ (e : (i ≡ other) × (view.Spent ≡ v)). subst (λ w. FullView b.size b.ending b.last b.xs b.given i w) e.1 tt)
            (λ (e : (i ≢ other) × (get_elem? (set s.views id now) i ≡ maybe.some v)). ⊎_elim
            (λ (d : (i ≡ id) × (now ≡ v)). subst (λ w. FullView b.size b.ending b.last b.xs b.given i w) d.1 (f.0, f.1, d.0 ∙ f.2, (g.0, g.1, g.2, kept)))
            (λ (d : (i ≢ id) × (get_elem? s.views i ≡ maybe.some v)). b.views i v d.1)
            (at_set s.views id i now v e.1))
            (at_set (set s.views id now) other i view.Spent v here);
      })

  pub arrival_tells : (id : ℕ) (me : Standing X E) (other : ℕ) (its : Standing X E) → IsLast me → IsKeeper its → Joins DeskHolds id me.0 other its.0 (told me.0 its.0) view.Spent
  arrival_tells id me other its last kept =
      subst (λ (z : Standing X E × Standing X E). Joins DeskHolds id z.0.0 other z.1.0 (told z.0.0 z.1.0) view.Spent) (λ i. (sym last.4 i, sym kept.5 i))
      (tells_it id last.0 last.1 last.2 last.3 other kept.0 kept.1 kept.2 kept.3 kept.4)

  module _ (slots id n : ℕ) (r : Ending X E) (k : ℕ) (xs : List X) (j : ℕ) (x : X) where
    abbrev knowing : View X E
    knowing = view.Arriving n r k (phase.Told xs j x)

    reads_it : Allows DeskHolds slots id (knowing, []) 0 (λ w. w) (reads_told (knowing, []))
    reads_it = last_steps slots id n r k (phase.Told xs j x) [] 0 (λ w. w) (reads_told (knowing, [])) (λ s b at. b.fits k (phase.Told xs j x) at) owes
      where
        owes : FullOwes id n r k (phase.Told xs j x) [] 0 (λ w. w) (reads_told (knowing, []))
        owes s b at =
            let g = (b.views id _ at).3 in (
              view.Arriving n r k (phase.Emptied xs),
              stays,
              tt,
              filled_up s b id n r k (phase.Told xs j x) (phase.Emptied xs) at b.given s.homes b.homes (g.0, g.1, g.2) (λ i v ne h. h),
              λ m q i ys y z eq.
                  let same = same_arrival n r k (phase.Told xs j x) m q i (phase.Told ys y z) [] [] eq in
                  let e = same.phase in
                  let list : xs ≡ ys = cc in
                  let index : j ≡ y = cc in
                  let outcome : x ≡ z = cc in (
                    ap (λ (l : List X). get_elem? l y) (sym list ∙ g.1) ∙ (ap (get_elem? b.xs) (sym index) ∙ (g.3 ∙ ap (λ (w : X). maybe.some w) outcome)),
                    λ t. (view.Arriving (same.size t) (same.ending t) (same.index t) (phase.Emptied (list t)), []),
                  ),
            )

  pub arrival_reads : (slots id n : ℕ) (r : Ending X E) (k : ℕ) (xs : List X) (j : ℕ) (x : X) (me : Standing X E) → me ≡ at n r k (phase.Told xs j x) → Allows DeskHolds slots id me 0 (λ w. w) (reads_told me)
  arrival_reads slots id n r k xs j x me is = subst (λ m. Allows DeskHolds slots id m 0 (λ w. w) (reads_told m)) (sym is) (reads_it slots id n r k xs j x)

  -- where the last one stands, once it was told
  pub knows : (me its after : Standing X E) (last : IsLast me) (kept : IsKeeper its) → after ≡ (told me.0 its.0, me.1) → after ≡ at last.0 last.1 last.2 (phase.Told last.3 kept.2 kept.3)
  knows me its after last kept is = is ∙ (λ i. (told (last.4 i).0 (kept.5 i).0, (last.4 i).1))

  -- a seat that completed is that of an arrival
  pub done_view : (v : View X E) → IsDone (phase_in v) → (n : ℕ) × (r : Ending X E) × (k : ℕ) × (p : Phase X) × (v ≡ view.Arriving n r k p) × IsDone p
  done_view view.Making done = absurd done
  done_view view.Opening done = absurd done
  done_view (view.Opened n r) done = absurd done
  done_view (view.Dealing n r d) done = absurd done
  done_view (view.Owner n r) done = absurd done
  done_view (view.Arriving n r k p) done = (n, r, k, p, refl, done)
  done_view view.Clash done = absurd done
  done_view view.Spent done = absurd done

  meets_not : (id n : ℕ) (r : Ending X E) (k : ℕ) (p : Phase X) (other m : ℕ) (q : Ending X E) (j : ℕ) (u : Phase X) → IsDone p → IsDone u → Joins DeskHolds id (view.Arriving n r k p) other (view.Arriving m q j u) view.Clash view.Spent
  meets_not id n r k p other m q j u one two s (inl b) at ne there = absurd (not_unopened s b id n r k p at)
  meets_not id n r k p other m q j u one two s (inr (inl b)) at ne there =
      let f = b.views id _ at in
      let g = b.views other _ (sym (set_else s.views id other view.Clash ne) ∙ there) in
      let claim = sym (done_claims b.claim k p one (b.fits k p f.3)) ∙ done_claims b.claim j u two (b.fits j u g.3) in
      let same : k ≡ j = cc in
      let first = f.2 in
      let second = g.2 in
      absurd (ne (omega arith))
  meets_not id n r k p other m q j u one two s (inr (inr b)) at ne there =
      let f = b.views id _ at in
      let g = b.views other _ (sym (set_else s.views id other view.Clash ne) ∙ there) in
      let same = done_lasts b.last b.xs b.given k p one f.3 ∙ sym (done_lasts b.last b.xs b.given j u two g.3) in
      let first = f.2 in
      let second = g.2 in
      absurd (ne (omega arith))

  pub arrivals_meet : (id : ℕ) (v : View X E) (other : ℕ) (w : View X E) → IsDone (phase_in v) → IsDone (phase_in w) → Joins DeskHolds id v other w view.Clash view.Spent
  arrivals_meet id v other w one two =
      let a = done_view v one in
      let b = done_view w two in
      subst (λ (z : View X E × View X E). Joins DeskHolds id z.0 other z.1 view.Clash view.Spent) (λ i. (sym a.4 i, sym b.4 i)) (meets_not id a.0 a.1 a.2 a.3 other b.0 b.1 b.2 b.3 a.5 b.5)

  no_clash : (slots id : ℕ) (hs : List (ℕ × Held X E)) → Allows DeskHolds slots id (view.Clash, hs) 0 (λ w. w) (λ _ _. ⊥)
  no_clash slots id hs s (inl b) long at small = absurd (none_before s b id view.Clash (λ h. cc) (λ h. cc) at)
  no_clash slots id hs s (inr (inl b)) long at small = absurd (b.views id view.Clash at)
  no_clash slots id hs s (inr (inr b)) long at small = absurd (b.views id view.Clash at)

  pub never : (slots id : ℕ) (me : Standing X E) → me.0 ≡ view.Clash → Allows DeskHolds slots id me 0 (λ w. w) (λ _ _. ⊥)
  never slots id me is = subst (λ (m : Standing X E). Allows DeskHolds slots id m 0 (λ w. w) (λ _ _. ⊥)) (λ i. (sym is i, me.1)) (no_clash slots id me.1)

  pub kept_slots : (me : Standing X E) → IsKeeper me → me.1 ≡ []
  kept_slots me kept = ap (λ (m : Standing X E). m.1) kept.5

  -- what another had left stands in the list of the last one
  pub listed : (me its : Standing X E) (last : IsLast me) (kept : IsKeeper its) (k : ℕ) (x : X) → get_elem? last.3 kept.2 ≡ maybe.some kept.3 → index_in its.0 ≡ k → kept_in (phase_in its.0) ≡ Some x → get_elem? (list_in (phase_in me.0)) k ≡ maybe.some x
  listed me its last kept k x there index outcome =
      let same : Some kept.3 ≡ Some x = sym (ap (λ (m : Standing X E). kept_in (phase_in m.0)) kept.5) ∙ outcome in
      let is : kept.3 ≡ x = cc in
      let place = sym index ∙ ap (λ (m : Standing X E). index_in m.0) kept.5 in
      ap (λ (m : Standing X E). get_elem? (list_in (phase_in m.0)) k) last.4 ∙ (ap (get_elem? last.3) place ∙ (there ∙ ap (λ (z : X). maybe.some z) is))

  pub keeper_kept : (me : Standing X E) (kept : IsKeeper me) → kept_in (phase_in me.0) ≡ Some kept.3
  keeper_kept me kept = ap (λ (m : Standing X E). kept_in (phase_in m.0)) kept.5

  -- a receipt, as it is seen, and the list
  pub listed_by : (v : View X E) (hs : List (ℕ × Held X E)) (mine list : List X) (table : TableId) (receipt : ReceiptSeen X E) → hs ≡ [] → IsKept (phase_in v)
      → receipt ≡ record { desk = desk_in table v; index = index_in v; outcome = kept_in (phase_in v); found = found_in (phase_in v) } → mine ≡ list
      → ((k : ℕ) (x : X) → index_in v ≡ k → kept_in (phase_in v) ≡ Some x → get_elem? mine k ≡ maybe.some x) → slice_get list receipt.index ≡ receipt.outcome
  listed_by v hs mine list table receipt none kept seen same there =
      let keeper = is_keeper v hs none kept in
      let outcome = keeper_kept (v, hs) keeper in
      ap (λ (l : List X). slice_get l receipt.index) (sym same) ∙ (ap (slice_get mine) (ap (λ r. r.index) seen) ∙ (by_slice mine (index_in v) keeper.3 (there (index_in v) keeper.3 refl outcome) ∙ (sym outcome ∙ sym (ap (λ r. r.outcome) seen))))
