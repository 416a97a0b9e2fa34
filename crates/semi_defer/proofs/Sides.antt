-- What a side owes for a step: for any other side that fits it, the word, the slot and the two sides after the step fit again.
use Rattle.std.proofs.Common.{◌≡◌, ℕ, zero, suc, ◌⊎◌, inl, inr, ⊎_elim, List, [], ◌∷◌, Option, refl, sym, ap, ◌∙◌, subst}
use Rattle.std.specs.Prelude.{slice_set, slice_index}
use mathlib.Core.Option as maybe
use mathlib.Core.Option.{some-injective}
use lib.ListN.{get_elem?}
use Rattle.atomic_table.specs.Table.{Act, Valid, Allows, homes_after, carried_after}
use Rattle.semi_defer.specs.declared.view.Adding.{Adding}
use Rattle.semi_defer.specs.declared.view.Choosing.{Choosing}
use Rattle.semi_defer.specs.declared.view.View.{View}
use Rattle.semi_defer.specs.declared.view.View.TheVariants as view
use Rattle.semi_defer.specs.State.{code_of}
use Rattle.semi_defer.specs.Views.{state_from, Fit}
use Rattle.semi_defer.specs.Rule.{TableState, words_of, homes_of, Paired, DeferHolds}
use Rattle.semi_defer.specs.Steps.{Standing}

module _ {A : Type 0} where
  -- which of two seats it is
  pub of_two : (id : ℕ) (a b v : A) → get_elem? (a ∷ b ∷ []) id ≡ maybe.some v → ((id ≡ 0) × (v ≡ a)) ⊎ ((id ≡ 1) × (v ≡ b))
  of_two zero a b v at = inl (refl, sym (some-injective _ _ at))
  of_two (suc zero) a b v at = inr (refl, sym (some-injective _ _ at))
  of_two (suc (suc k)) a b v at = absurd (cc)

  pub of_one : (id : ℕ) (a v : A) → get_elem? (a ∷ []) id ≡ maybe.some v → (id ≡ 0) × (v ≡ a)
  of_one zero a v at = (refl, sym (some-injective _ _ at))
  of_one (suc k) a v at = absurd (cc)

module _ {J : Type 0} where
  module _ (cs : List (ℕ × Option J)) (f : ℕ → ℕ) (then : ℕ → Standing J → Type 0) where
    -- a step of a table with this word, this slot and these views
    abbrev pub StepsFrom : ℕ → List ℕ → List (maybe.Option (Option J)) → List (View J) → Type 0
    StepsFrom id ws hs vs = (w : View J) × (a : Act (Option J)) × Valid hs cs a
        × DeferHolds record { words = slice_set ws 0 (f (slice_index ws 0)); homes = homes_after hs cs a; views = slice_set vs id w }
        × then (slice_index ws 0) (w, carried_after cs a)

    pub stands_as : (id id' : ℕ) (ws ws' : List ℕ) (hs hs' : List (maybe.Option (Option J))) (vs vs' : List (View J)) → id ≡ id' → ws ≡ ws' → hs ≡ hs' → vs ≡ vs' → StepsFrom id' ws' hs' vs' → StepsFrom id ws hs vs
    stands_as id id' ws ws' hs hs' vs vs' i w h v =
        subst (λ (z : (ℕ × List ℕ) × (List (maybe.Option (Option J)) × List (View J))). StepsFrom z.0.0 z.0.1 z.1.0 z.1.1) (λ k. ((sym i k, sym w k), (sym h k, sym v k)))

    abbrev pub AdderOwes : Adding J → Type 0
    AdderOwes a = (h : Choosing J) → Fit a h
        → (b : Adding J) × (act : Act (Option J)) × Valid (homes_of a h) cs act
        × (f (code_of (state_from a h)) ≡ code_of (state_from b h))
        × (homes_after (homes_of a h) cs act ≡ homes_of b h)
        × Fit b h
        × then (code_of (state_from a h)) (view.Adder b, carried_after cs act)

    abbrev pub HolderOwes : Choosing J → Type 0
    HolderOwes h = (a : Adding J) → Fit a h
        → (k : Choosing J) × (act : Act (Option J)) × Valid (homes_of a h) cs act
        × (f (code_of (state_from a h)) ≡ code_of (state_from a k))
        × (homes_after (homes_of a h) cs act ≡ homes_of a k)
        × Fit a k
        × then (code_of (state_from a h)) (view.Holder k, carried_after cs act)

    adder_paired : (id : ℕ) (a : Adding J) → AdderOwes a → (s : TableState J) (b : Paired s) → get_elem? s.views id ≡ maybe.some (view.Adder a) → StepsFrom id s.words s.homes s.views
    adder_paired id a owes s b at = ⊎_elim
        (λ (r : (id ≡ 0) × (view.Adder a ≡ view.Adder b.a)).
        let e = r.1 in
        let same : b.a ≡ a = cc in
        let o = owes b.h (subst (λ q. Fit q b.h) same b.fit) in
        stands_as id 0 s.words (words_of a b.h) s.homes (homes_of a b.h) s.views (view.Adder a ∷ view.Holder b.h ∷ [])
        r.0 (b.words ∙ ap (λ q. words_of q b.h) same) (b.homes ∙ ap (λ q. homes_of q b.h) same) (b.views ∙ ap (λ (q : Adding J). view.Adder q ∷ view.Holder b.h ∷ []) same)
        (view.Adder o.0, o.1, o.2, inr (inl record { a = o.0; h = b.h; views = refl; words = ap (λ (n : ℕ). n ∷ []) o.3; homes = o.4; fit = o.5 }), o.6))
        (λ (r : (id ≡ 1) × (view.Adder a ≡ view.Holder b.h)). let e = r.1 in absurd (cc))
        (of_two id (view.Adder b.a) (view.Holder b.h) (view.Adder a) (subst (λ (vs : List (View J)). get_elem? vs id ≡ maybe.some (view.Adder a)) b.views at))

    -- a step of the adder
    pub adder_steps : (slots id : ℕ) (a : Adding J) → AdderOwes a → Allows DeferHolds slots id (view.Adder a, cs) 0 f then
    adder_steps slots id a owes s (inl u) long at small =
        let r = of_one id view.Pair (view.Adder a) (subst (λ (vs : List (View J)). get_elem? vs id ≡ maybe.some (view.Adder a)) u.views at) in
        let e = r.1 in absurd (cc)
    adder_steps slots id a owes s (inr (inl b)) long at small = adder_paired id a owes s b at
    adder_steps slots id a owes s (inr (inr t)) long at small =
        ⊎_elim (λ (r : (id ≡ 0) × (view.Adder a ≡ view.Both t.a t.h)). let e = r.1 in absurd (cc))
        (λ (r : (id ≡ 1) × (view.Adder a ≡ view.Spent)). let e = r.1 in absurd (cc))
        (of_two id (view.Both t.a t.h) view.Spent (view.Adder a) (subst (λ (vs : List (View J)). get_elem? vs id ≡ maybe.some (view.Adder a)) t.views at))

    holder_paired : (id : ℕ) (h : Choosing J) → HolderOwes h → (s : TableState J) (b : Paired s) → get_elem? s.views id ≡ maybe.some (view.Holder h) → StepsFrom id s.words s.homes s.views
    holder_paired id h owes s b at = ⊎_elim
        (λ (r : (id ≡ 0) × (view.Holder h ≡ view.Adder b.a)). let e = r.1 in absurd (cc))
        (λ (r : (id ≡ 1) × (view.Holder h ≡ view.Holder b.h)).
        let e = r.1 in
        let same : b.h ≡ h = cc in
        let o = owes b.a (subst (λ q. Fit b.a q) same b.fit) in
        stands_as id 1 s.words (words_of b.a h) s.homes (homes_of b.a h) s.views (view.Adder b.a ∷ view.Holder h ∷ [])
        r.0 (b.words ∙ ap (λ q. words_of b.a q) same) (b.homes ∙ ap (λ q. homes_of b.a q) same) (b.views ∙ ap (λ (q : Choosing J). view.Adder b.a ∷ view.Holder q ∷ []) same)
        (view.Holder o.0, o.1, o.2, inr (inl record { a = b.a; h = o.0; views = refl; words = ap (λ (n : ℕ). n ∷ []) o.3; homes = o.4; fit = o.5 }), o.6))
        (of_two id (view.Adder b.a) (view.Holder b.h) (view.Holder h) (subst (λ (vs : List (View J)). get_elem? vs id ≡ maybe.some (view.Holder h)) b.views at))

    -- a step of the holder
    pub holder_steps : (slots id : ℕ) (h : Choosing J) → HolderOwes h → Allows DeferHolds slots id (view.Holder h, cs) 0 f then
    holder_steps slots id h owes s (inl u) long at small =
        let r = of_one id view.Pair (view.Holder h) (subst (λ (vs : List (View J)). get_elem? vs id ≡ maybe.some (view.Holder h)) u.views at) in
        let e = r.1 in absurd (cc)
    holder_steps slots id h owes s (inr (inl b)) long at small = holder_paired id h owes s b at
    holder_steps slots id h owes s (inr (inr t)) long at small =
        ⊎_elim (λ (r : (id ≡ 0) × (view.Holder h ≡ view.Both t.a t.h)). let e = r.1 in absurd (cc))
        (λ (r : (id ≡ 1) × (view.Holder h ≡ view.Spent)). let e = r.1 in absurd (cc))
        (of_two id (view.Both t.a t.h) view.Spent (view.Holder h) (subst (λ (vs : List (View J)). get_elem? vs id ≡ maybe.some (view.Holder h)) t.views at))
