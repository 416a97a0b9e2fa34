-- How the pair is made, and how its two seats are put together.
use Rattle.std.proofs.Common.{◌≡◌, ◌≢◌, ℕ, zero, suc, ◌⊎◌, inl, inr, ⊎_elim, List, [], ◌∷◌, ◌++◌, None, refl, sym, ap, ◌∙◌, subst}
use Rattle.std.specs.Prelude.{slice_set, slice_index}
use mathlib.Core.Option as maybe
use lib.ListN.{get_elem?}
use Rattle.atomic_table.specs.Table.{keeps, Allows, Splits, Joins}
use Rattle.core_interrupt.specs.declared.history.RaiseEvent.{RaiseEvent}
use Rattle.core_interrupt.specs.declared.view.Hearing.{Hearing}
use Rattle.core_interrupt.specs.declared.view.Hearing.TheVariants as hearing
use Rattle.core_interrupt.specs.declared.view.Raising.{Raising}
use Rattle.core_interrupt.specs.declared.view.Raising.TheVariants as raising
use Rattle.core_interrupt.specs.declared.view.View.{View}
use Rattle.core_interrupt.specs.declared.view.View.TheVariants as view
use Rattle.core_interrupt.specs.History.{InterruptHistory, SidesAgree}
use Rattle.core_interrupt.specs.Views.{Held, hears_of, Fit}
use Rattle.core_interrupt.specs.Rule.{TableState, words_of, homes_of, Unpaired, Paired, Together, InterruptHolds}
use Rattle.core_interrupt.specs.Steps.{Standing, begin_hearer, begin_raiser, both_views, compares}
use Rattle.core_interrupt.proofs.Merging.{nothing_done}
use Rattle.core_interrupt.proofs.Sides.{of_one, of_two}

module _ {H I : Type 0} where
  pairs : (id : ℕ) → Splits {S = Held H I} InterruptHolds id view.Pair (view.Hearer hearing.Ready) (view.Raiser raising.Resting [])
  pairs id s (inl u) at =
      let here = of_one id view.Pair view.Pair (subst (λ (vs : List (View H I)). get_elem? vs id ≡ maybe.some view.Pair) u.views at) in
      inr (inl record {
        p = hearing.Ready;
        r = raising.Resting;
        raises = [];
        views = λ k. slice_set (u.views k) (here.0 k) (view.Hearer hearing.Ready) ++ view.Raiser raising.Resting [] ∷ [];
        words = u.words;
        homes = u.homes;
        fit = record { calls = tt; aware = tt; hand = tt };
        history = nothing_done;
      })
  pairs id s (inr (inl b)) at = absurd (⊎_elim (λ (r : (id ≡ 0) × (view.Pair ≡ view.Hearer b.p)). let e = r.1 in cc) (λ (r : (id ≡ 1) × (view.Pair ≡ view.Raiser b.r b.raises)). let e = r.1 in cc)
      (of_two id (view.Hearer b.p) (view.Raiser b.r b.raises) view.Pair (subst (λ (vs : List (View H I)). get_elem? vs id ≡ maybe.some view.Pair) b.views at)))
  pairs id s (inr (inr t)) at = absurd (⊎_elim (λ (r : (id ≡ 0) × (view.Pair ≡ view.Both t.p t.raises)). let e = r.1 in cc) (λ (r : (id ≡ 1) × (view.Pair ≡ view.Spent)). let e = r.1 in cc)
      (of_two id (view.Both t.p t.raises) view.Spent view.Pair (subst (λ (vs : List (View H I)). get_elem? vs id ≡ maybe.some view.Pair) t.views at)))

  -- the maker of a pair becomes the hearer, and a new seat the raiser
  pub pairs_allowed : (id : ℕ) (v : View H I) → v ≡ view.Pair → Splits {S = Held H I} InterruptHolds id v (begin_hearer v) (begin_raiser v)
  pairs_allowed id v e = subst (λ (w : View H I). Splits {S = Held H I} InterruptHolds id w (begin_hearer w) (begin_raiser w)) (sym e) (pairs id)

  after_hearer : (other : ℕ) (a b v w : View H I) → other ≢ 0 → get_elem? (a ∷ b ∷ []) other ≡ maybe.some w → (other ≡ 1) × (w ≡ b)
  after_hearer other a b v w apart at = ⊎_elim (λ (r : (other ≡ 0) × (w ≡ a)). absurd (apart r.0)) (λ (r : (other ≡ 1) × (w ≡ b)). r) (of_two other a b w at)

  joins : (id other : ℕ) (p : Hearing H I) (es : List (RaiseEvent H I)) → Joins {S = Held H I} InterruptHolds id (view.Hearer p) other (view.Raiser raising.Resting es) (view.Both p es) view.Spent
  joins id other p es s (inl u) at apart there =
      let r = of_one id view.Pair (view.Hearer p) (subst (λ (vs : List (View H I)). get_elem? vs id ≡ maybe.some (view.Hearer p)) u.views at) in
      let e = r.1 in absurd (cc)
  joins id other p es s (inr (inl b)) at apart there = ⊎_elim
      (λ (r : (id ≡ 0) × (view.Hearer p ≡ view.Hearer b.p)).
      let e = r.1 in
      let same : b.p ≡ p = cc in
      let set : slice_set s.views id (view.Both p es) ≡ view.Both p es ∷ view.Raiser b.r b.raises ∷ [] = λ k. slice_set (b.views k) (r.0 k) (view.Both p es) in
      let second = after_hearer other (view.Both p es) (view.Raiser b.r b.raises) (view.Both p es) (view.Raiser raising.Resting es) (λ z. apart (z ∙ sym r.0))
      (subst (λ (vs : List (View H I)). get_elem? vs other ≡ maybe.some (view.Raiser raising.Resting es)) set there) in
      let f = second.1 in
      let hand : b.r ≡ raising.Resting = cc in
      let all : b.raises ≡ es = cc in
      inr (inr record {
        p = p;
        raises = es;
        views = λ k. slice_set (set k) (second.0 k) view.Spent;
        words = b.words ∙ (λ k. words_of (same k) (all k));
        homes = b.homes ∙ (λ k. homes_of (same k) (hand k) (all k));
        fit = subst (λ (z : Hearing H I × (Raising × List (RaiseEvent H I))). Fit z.0 z.1.0 z.1.1) (λ k. (same k, (hand k, all k))) b.fit;
        history = subst (λ (z : Hearing H I × List (RaiseEvent H I)). InterruptHistory (hears_of z.0) z.1) (λ k. (same k, all k)) b.history;
      }))
      (λ (r : (id ≡ 1) × (view.Hearer p ≡ view.Raiser b.r b.raises)). let e = r.1 in absurd (cc))
      (of_two id (view.Hearer b.p) (view.Raiser b.r b.raises) (view.Hearer p) (subst (λ (vs : List (View H I)). get_elem? vs id ≡ maybe.some (view.Hearer p)) b.views at))
  joins id other p es s (inr (inr t)) at apart there = absurd (⊎_elim (λ (r : (id ≡ 0) × (view.Hearer p ≡ view.Both t.p t.raises)). let e = r.1 in cc) (λ (r : (id ≡ 1) × (view.Hearer p ≡ view.Spent)). let e = r.1 in cc)
      (of_two id (view.Both t.p t.raises) view.Spent (view.Hearer p) (subst (λ (vs : List (View H I)). get_elem? vs id ≡ maybe.some (view.Hearer p)) t.views at)))

  -- a hearer's seat takes in the raiser's
  pub joins_allowed : (id other : ℕ) (p : Hearing H I) (es : List (RaiseEvent H I)) (v w : View H I) → v ≡ view.Hearer p → w ≡ view.Raiser raising.Resting es → Joins {S = Held H I} InterruptHolds id v other w (both_views v w) view.Spent
  joins_allowed id other p es v w is_v is_w = subst (λ (z : View H I × View H I). Joins {S = Held H I} InterruptHolds id z.0 other z.1 (both_views z.0 z.1) view.Spent) (λ k. (sym is_v k, sym is_w k)) (joins id other p es)

  looks : (slots id : ℕ) (cs : List (ℕ × Held H I)) (p : Hearing H I) (es : List (RaiseEvent H I)) → Allows InterruptHolds slots id (view.Both p es, cs) 0 (λ n. n) (compares (view.Both p es, cs))
  looks slots id cs p es s (inl u) long at small =
      let r = of_one id view.Pair (view.Both p es) (subst (λ (vs : List (View H I)). get_elem? vs id ≡ maybe.some (view.Both p es)) u.views at) in
      let e = r.1 in absurd (cc)
  looks slots id cs p es s (inr (inl b)) long at small = absurd (⊎_elim (λ (r : (id ≡ 0) × (view.Both p es ≡ view.Hearer b.p)). let e = r.1 in cc) (λ (r : (id ≡ 1) × (view.Both p es ≡ view.Raiser b.r b.raises)). let e = r.1 in cc)
      (of_two id (view.Hearer b.p) (view.Raiser b.r b.raises) (view.Both p es) (subst (λ (vs : List (View H I)). get_elem? vs id ≡ maybe.some (view.Both p es)) b.views at)))
  looks slots id cs p es s (inr (inr t)) long at small = ⊎_elim
      (λ (r : (id ≡ 0) × (view.Both p es ≡ view.Both t.p t.raises)).
      let e = r.1 in
      let same : t.p ≡ p = cc in
      let all : t.raises ≡ es = cc in (
        view.Both p es,
        keeps,
        tt,
        inr (inr record {
          p = t.p;
          raises = t.raises;
          views = (λ k. slice_set (t.views k) (r.0 k) (view.Both p es)) ∙ (λ k. view.Both (sym same k) (sym all k) ∷ view.Spent ∷ []);
          words = ap (λ ws. slice_set ws 0 (slice_index ws 0)) t.words;
          homes = t.homes;
          fit = t.fit;
          history = t.history;
        }),
        (subst (λ (z : Hearing H I × List (RaiseEvent H I)). SidesAgree (hears_of z.0) z.1) (λ k. (same k, all k)) t.fit.calls, subst (λ (z : Hearing H I × List (RaiseEvent H I)). InterruptHistory (hears_of z.0) z.1) (λ k. (same k, all k)) t.history),
      ))
      (λ (r : (id ≡ 1) × (view.Both p es ≡ view.Spent)). let e = r.1 in absurd (cc))
      (of_two id (view.Both t.p t.raises) view.Spent (view.Both p es) (subst (λ (vs : List (View H I)). get_elem? vs id ≡ maybe.some (view.Both p es)) t.views at))

  -- a seat that has both views sees that they agree
  pub looks_allowed : (slots id : ℕ) (me : Standing H I) (cs : List (ℕ × Held H I)) (p : Hearing H I) (es : List (RaiseEvent H I)) (v w : View H I) → v ≡ view.Hearer p → w ≡ view.Raiser raising.Resting es → me ≡ (both_views v w, cs)
      → Allows InterruptHolds slots id me 0 (λ n. n) (compares me)
  looks_allowed slots id me cs p es v w is_v is_w e = subst (λ (m : Standing H I). Allows InterruptHolds slots id m 0 (λ n. n) (compares m)) (λ k. sym (e ∙ (λ j. (both_views (is_v j) (is_w j), cs))) k) (looks slots id cs p es)
