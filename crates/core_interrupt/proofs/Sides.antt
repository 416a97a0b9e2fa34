-- What a side owes for a step: for any other side that fits it, the word, the slots and the two sides after the step fit again.
use Rattle.std.proofs.Common.{◌≡◌, ℕ, zero, suc, ◌⊎◌, inl, inr, ⊎_elim, List, [], ◌∷◌, refl, sym, ap, ◌∙◌, subst}
use Rattle.std.specs.Prelude.{slice_set, slice_index}
use mathlib.Core.Option as maybe
use mathlib.Core.Option.{some-injective}
use lib.ListN.{get_elem?}
use Rattle.atomic_table.specs.Table.{Act, Valid, Allows, homes_after, carried_after}
use Rattle.core_interrupt.specs.declared.history.RaiseEvent.{RaiseEvent}
use Rattle.core_interrupt.specs.declared.view.Hearing.{Hearing}
use Rattle.core_interrupt.specs.declared.view.Raising.{Raising}
use Rattle.core_interrupt.specs.declared.view.View.{View}
use Rattle.core_interrupt.specs.declared.view.View.TheVariants as view
use Rattle.core_interrupt.specs.State.{code_of}
use Rattle.core_interrupt.specs.History.{state_from, InterruptHistory}
use Rattle.core_interrupt.specs.Views.{Held, Place, hears_of, Fit}
use Rattle.core_interrupt.specs.Rule.{TableState, words_of, homes_of, Unpaired, Paired, Together, InterruptHolds}
use Rattle.core_interrupt.specs.Steps.{Standing}

module _ {A : Type 0} where
  -- which of two seats it is
  pub of_two : (id : ℕ) (a b v : A) → get_elem? (a ∷ b ∷ []) id ≡ maybe.some v → ((id ≡ 0) × (v ≡ a)) ⊎ ((id ≡ 1) × (v ≡ b))
  of_two zero a b v at = inl (refl, sym (some-injective _ _ at))
  of_two (suc zero) a b v at = inr (refl, sym (some-injective _ _ at))
  of_two (suc (suc k)) a b v at = absurd (cc)

  pub of_one : (id : ℕ) (a v : A) → get_elem? (a ∷ []) id ≡ maybe.some v → (id ≡ 0) × (v ≡ a)
  of_one zero a v at = (refl, sym (some-injective _ _ at))
  of_one (suc k) a v at = absurd (cc)

module _ {H I : Type 0} where
  module _ (cs : List (ℕ × Held H I)) (f : ℕ → ℕ) (then : ℕ → Standing H I → Type 0) where
    -- a step of a table with this word, these slots and these views
    abbrev pub StepsFrom : ℕ → List ℕ → List (Place H I) → List (View H I) → Type 0
    StepsFrom id ws hs vs = (w : View H I) × (a : Act (Held H I)) × Valid hs cs a
        × InterruptHolds record { words = slice_set ws 0 (f (slice_index ws 0)); homes = homes_after hs cs a; views = slice_set vs id w }
        × then (slice_index ws 0) (w, carried_after cs a)

    pub stands_as : (id id' : ℕ) (ws ws' : List ℕ) (hs hs' : List (Place H I)) (vs vs' : List (View H I)) → id ≡ id' → ws ≡ ws' → hs ≡ hs' → vs ≡ vs' → StepsFrom id' ws' hs' vs' → StepsFrom id ws hs vs
    stands_as id id' ws ws' hs hs' vs vs' i w h v =
        subst (λ (z : (ℕ × List ℕ) × (List (Place H I) × List (View H I))). StepsFrom z.0.0 z.0.1 z.1.0 z.1.1) (λ k. ((sym i k, sym w k), (sym h k, sym v k)))

    abbrev pub HearerOwes : Hearing H I → Type 0
    HearerOwes p = (r : Raising) (es : List (RaiseEvent H I)) → Fit p r es → InterruptHistory (hears_of p) es
        → (q : Hearing H I) × (a : Act (Held H I)) × Valid (homes_of p r es) cs a
        × (f (code_of (state_from (hears_of p) es)) ≡ code_of (state_from (hears_of q) es))
        × (homes_after (homes_of p r es) cs a ≡ homes_of q r es)
        × Fit q r es
        × InterruptHistory (hears_of q) es
        × then (code_of (state_from (hears_of p) es)) (view.Hearer q, carried_after cs a)

    abbrev pub RaiserOwes : Raising → List (RaiseEvent H I) → Type 0
    RaiserOwes r es = (p : Hearing H I) → Fit p r es → InterruptHistory (hears_of p) es
        → (q : Raising) × (rs : List (RaiseEvent H I)) × (a : Act (Held H I)) × Valid (homes_of p r es) cs a
        × (f (code_of (state_from (hears_of p) es)) ≡ code_of (state_from (hears_of p) rs))
        × (homes_after (homes_of p r es) cs a ≡ homes_of p q rs)
        × Fit p q rs
        × InterruptHistory (hears_of p) rs
        × then (code_of (state_from (hears_of p) es)) (view.Raiser q rs, carried_after cs a)

    hearer_paired : (id : ℕ) (p : Hearing H I) → HearerOwes p → (s : TableState H I) (b : Paired s) → get_elem? s.views id ≡ maybe.some (view.Hearer p) → StepsFrom id s.words s.homes s.views
    hearer_paired id p owes s b at =
        let two = of_two id (view.Hearer b.p) (view.Raiser b.r b.raises) (view.Hearer p) (subst (λ (vs : List (View H I)). get_elem? vs id ≡ maybe.some (view.Hearer p)) b.views at) in
        ⊎_elim (λ (r : (id ≡ 0) × (view.Hearer p ≡ view.Hearer b.p)).
        let e = r.1 in
        let same : b.p ≡ p = cc in
        let o = owes b.r b.raises (subst (λ q. Fit q b.r b.raises) same b.fit) (subst (λ q. InterruptHistory (hears_of q) b.raises) same b.history) in
        stands_as id 0 s.words (words_of p b.raises) s.homes (homes_of p b.r b.raises) s.views (view.Hearer p ∷ view.Raiser b.r b.raises ∷ [])
        r.0 (b.words ∙ ap (λ q. words_of q b.raises) same) (b.homes ∙ ap (λ q. homes_of q b.r b.raises) same) (b.views ∙ ap (λ (q : Hearing H I). view.Hearer q ∷ view.Raiser b.r b.raises ∷ []) same)
        (view.Hearer o.0, o.1, o.2, inr (inl record { p = o.0; r = b.r; raises = b.raises; views = refl; words = ap (λ (n : ℕ). n ∷ []) o.3; homes = o.4; fit = o.5; history = o.6 }), o.7))
        (λ (r : (id ≡ 1) × (view.Hearer p ≡ view.Raiser b.r b.raises)). let e = r.1 in absurd (cc))
        two

    -- a step of the hearer
    pub hearer_steps : (slots id : ℕ) (p : Hearing H I) → HearerOwes p → Allows InterruptHolds slots id (view.Hearer p, cs) 0 f then
    hearer_steps slots id p owes s (inl u) long at small =
        let r = of_one id view.Pair (view.Hearer p) (subst (λ (vs : List (View H I)). get_elem? vs id ≡ maybe.some (view.Hearer p)) u.views at) in
        let e = r.1 in absurd (cc)
    hearer_steps slots id p owes s (inr (inl b)) long at small = hearer_paired id p owes s b at
    hearer_steps slots id p owes s (inr (inr t)) long at small =
        ⊎_elim (λ (r : (id ≡ 0) × (view.Hearer p ≡ view.Both t.p t.raises)). let e = r.1 in absurd (cc))
        (λ (r : (id ≡ 1) × (view.Hearer p ≡ view.Spent)). let e = r.1 in absurd (cc))
        (of_two id (view.Both t.p t.raises) view.Spent (view.Hearer p) (subst (λ (vs : List (View H I)). get_elem? vs id ≡ maybe.some (view.Hearer p)) t.views at))

    raiser_paired : (id : ℕ) (r : Raising) (es : List (RaiseEvent H I)) → RaiserOwes r es → (s : TableState H I) (b : Paired s) → get_elem? s.views id ≡ maybe.some (view.Raiser r es) → StepsFrom id s.words s.homes s.views
    raiser_paired id r es owes s b at =
        let two = of_two id (view.Hearer b.p) (view.Raiser b.r b.raises) (view.Raiser r es) (subst (λ (vs : List (View H I)). get_elem? vs id ≡ maybe.some (view.Raiser r es)) b.views at) in
        ⊎_elim (λ (x : (id ≡ 0) × (view.Raiser r es ≡ view.Hearer b.p)). let e = x.1 in absurd (cc))
        (λ (x : (id ≡ 1) × (view.Raiser r es ≡ view.Raiser b.r b.raises)).
        let e = x.1 in
        let hand : b.r ≡ r = cc in
        let all : b.raises ≡ es = cc in
        let o = owes b.p (subst (λ (z : Raising × List (RaiseEvent H I)). Fit b.p z.0 z.1) (λ k. (hand k, all k)) b.fit) (subst (λ q. InterruptHistory (hears_of b.p) q) all b.history) in
        stands_as id 1 s.words (words_of b.p es) s.homes (homes_of b.p r es) s.views (view.Hearer b.p ∷ view.Raiser r es ∷ [])
        x.0 (b.words ∙ ap (λ q. words_of b.p q) all) (b.homes ∙ (λ k. homes_of b.p (hand k) (all k))) (b.views ∙ (λ k. view.Hearer b.p ∷ view.Raiser (hand k) (all k) ∷ []))
        (view.Raiser o.0 o.1, o.2, o.3, inr (inl record { p = b.p; r = o.0; raises = o.1; views = refl; words = ap (λ (n : ℕ). n ∷ []) o.4; homes = o.5; fit = o.6; history = o.7 }), o.8))
        two

    -- a step of the raiser
    pub raiser_steps : (slots id : ℕ) (r : Raising) (es : List (RaiseEvent H I)) → RaiserOwes r es → Allows InterruptHolds slots id (view.Raiser r es, cs) 0 f then
    raiser_steps slots id r es owes s (inl u) long at small =
        let x = of_one id view.Pair (view.Raiser r es) (subst (λ (vs : List (View H I)). get_elem? vs id ≡ maybe.some (view.Raiser r es)) u.views at) in
        let e = x.1 in absurd (cc)
    raiser_steps slots id r es owes s (inr (inl b)) long at small = raiser_paired id r es owes s b at
    raiser_steps slots id r es owes s (inr (inr t)) long at small =
        ⊎_elim (λ (x : (id ≡ 0) × (view.Raiser r es ≡ view.Both t.p t.raises)). let e = x.1 in absurd (cc))
        (λ (x : (id ≡ 1) × (view.Raiser r es ≡ view.Spent)). let e = x.1 in absurd (cc))
        (of_two id (view.Both t.p t.raises) view.Spent (view.Raiser r es) (subst (λ (vs : List (View H I)). get_elem? vs id ≡ maybe.some (view.Raiser r es)) t.views at))
