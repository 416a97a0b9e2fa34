-- The seat of a new table puts the end into its slot.
use Rattle.std.proofs.Common.{◌≡◌, ℕ, zero, suc, ◌+◌, ◌-◌, ◌<◌, inl, inr, List, [], ◌∷◌, ◌++◌, map, length, replicate, set, refl, sym, ap, ◌∙◌, subst, ⊎_elim, Some, None, arith, length-append}
use mathlib.Core.Option as maybe
use mathlib.Core.Option.{some-injective, some-ne-none}
use lib.ListN.{get_elem?}
use Rattle.atomic_table.specs.Table.{takes, gives, rest, opening, Allows}
use Rattle.atomic_table.proofs.Lists.{at_last}
use Rattle.collect_ops.specs.declared.view.Ending.{Ending}
use Rattle.collect_ops.specs.declared.view.Item.TheVariants as item
use Rattle.collect_ops.specs.declared.view.Phase.{Phase}
use Rattle.collect_ops.specs.declared.view.Phase.TheVariants as phase
use Rattle.collect_ops.specs.declared.view.View.{View}
use Rattle.collect_ops.specs.declared.view.View.TheVariants as view
use Rattle.collect_ops.specs.Rule.{Held, DeskState, free, left_of, PhaseFits, home_of, GatheringView, Unopened, DeskHolds}
use Rattle.collect_ops.specs.Steps.{Standing, takes_end_slot, gives_end}
use Rattle.collect_ops.proofs.Lists.{first_slot, first_held, set_last, words_at_left}

module _ {A : Type 0} (a : A) where
  abbrev all_home : ℕ → List (maybe.Option A)
  all_home n = map maybe.some (replicate n a)

  length_all : (n : ℕ) → length (all_home n) ≡ n
  length_all zero = refl
  length_all (suc n) = ap suc (length_all n)

  one_more : (n : ℕ) → all_home (suc n) ≡ all_home n ++ maybe.some a ∷ []
  one_more zero = refl
  one_more (suc n) = ap (λ l. maybe.some a ∷ l) (one_more n)

  all_and_one : (n : ℕ) → all_home (n + 1) ≡ all_home n ++ maybe.some a ∷ []
  all_and_one n = let e : n + 1 ≡ suc n = omega arith in ap all_home e ∙ one_more n

module _ (X : Type 0) where
  abbrev ready : Phase X
  ready = phase.Ready

  left_readies : (n : ℕ) → left_of (replicate n ready) ≡ n
  left_readies zero = refl
  left_readies (suc n) = let rest = left_readies n in omega arith

  long_readies : (n : ℕ) → length (replicate n ready) ≡ n
  long_readies zero = refl
  long_readies (suc n) = ap suc (long_readies n)

  ready_at : (n k : ℕ) → k < n → get_elem? (replicate n ready) k ≡ maybe.some ready
  ready_at zero k lt = absurd (omega arith)
  ready_at (suc n) zero lt = refl
  ready_at (suc n) (suc k) lt = ready_at n k (omega arith)

  moved : (j : ℕ) (q : Phase X) → PhaseFits free j q → PhaseFits free (suc j) q
  moved j phase.Ready h = tt
  moved j phase.Holding h = tt
  moved j (phase.Kept x found) h = tt
  moved j phase.Lost h = h
  moved j phase.Claiming h = let e : free ≡ _ = h in cc
  moved j phase.Claimed h = let e : free ≡ _ = h in cc
  moved j (phase.Emptying xs) h = h
  moved j (phase.Emptied xs) h = h
  moved j (phase.Told xs i x) h = h

  only_ready : (n k : ℕ) (p : Phase X) → get_elem? (replicate n ready) k ≡ maybe.some p → PhaseFits free k p
  only_ready zero k p at = absurd (some-ne-none p (sym at))
  only_ready (suc n) zero p at = subst (λ q. PhaseFits free 0 q) (some-injective _ _ at) tt
  only_ready (suc n) (suc k) p at = moved k p (only_ready n k p at)

module _ {X E : Type 0} where
  abbrev none : Held X E
  none = None

  abbrev making : View X E
  making = view.Making

  abbrev opening_view : View X E
  opening_view = view.Opening

  -- a new table
  pub begins : (size : ℕ) (words : List ℕ) → words ≡ size ∷ 0 ∷ [] → DeskHolds {X = X} {E = E} (opening words (replicate (size + 1) None) view.Making)
  begins size words e = inl record { size = size; words = e; stage = inl (refl, refl) }

  -- only a table that isn't open has such a seat
  making_is : (s : DeskState X E) (id : ℕ) → DeskHolds s → get_elem? s.views id ≡ maybe.some view.Making → (b : Unopened s) × (s.views ≡ view.Making ∷ []) × (s.homes ≡ map maybe.some (replicate (b.size + 1) None))
  making_is s id (inl b) at = ⊎_elim
      (λ (e : (s.views ≡ view.Making ∷ []) × (s.homes ≡ map maybe.some (replicate (b.size + 1) None))). (b, e.0, e.1))
      (λ (e : (s.views ≡ view.Opening ∷ []) × _). absurd (other id (sym (ap (λ vs. get_elem? vs id) e.0) ∙ at)))
      b.stage
    where
      other : (j : ℕ) → get_elem? (opening_view ∷ []) j ≡ maybe.some view.Making → ⊥
      other zero h = let same = some-injective _ _ h in cc
      other (suc j) h = some-ne-none _ (sym h)
  making_is s id (inr (inl b)) at = absurd (b.views id view.Making at)
  making_is s id (inr (inr b)) at = absurd (b.views id view.Making at)

  opening_is : (s : DeskState X E) (id : ℕ) → DeskHolds s → get_elem? s.views id ≡ maybe.some view.Opening → (b : Unopened s) × (s.views ≡ view.Opening ∷ []) × (s.homes ≡ map maybe.some (replicate b.size None) ++ maybe.none ∷ [])
  opening_is s id (inl b) at = ⊎_elim
      (λ (e : (s.views ≡ view.Making ∷ []) × _). absurd (other id (sym (ap (λ vs. get_elem? vs id) e.0) ∙ at)))
      (λ (e : (s.views ≡ view.Opening ∷ []) × (s.homes ≡ map maybe.some (replicate b.size None) ++ maybe.none ∷ [])). (b, e.0, e.1))
      b.stage
    where
      other : (j : ℕ) → get_elem? (making ∷ []) j ≡ maybe.some view.Opening → ⊥
      other zero h = let same = some-injective _ _ h in cc
      other (suc j) h = some-ne-none _ (sym h)
  opening_is s id (inr (inl b)) at = absurd (b.views id view.Opening at)
  opening_is s id (inr (inr b)) at = absurd (b.views id view.Opening at)

  set_only : (v w : View X E) (vs : List (View X E)) (id : ℕ) (u : View X E) → vs ≡ v ∷ [] → get_elem? vs id ≡ maybe.some u → (id ≡ 0) × (set vs id w ≡ w ∷ [])
  set_only v w vs id u e at = only id (sym (ap (λ l. get_elem? l id) e) ∙ at)
    where
      only : (j : ℕ) → get_elem? (v ∷ []) j ≡ maybe.some u → (j ≡ 0) × (set vs j w ≡ w ∷ [])
      only zero h = (refl, ap (λ l. set l 0 w) e)
      only (suc j) h = absurd (some-ne-none _ (sym h))

  pub takes_the_end_slot : (slots id : ℕ) (me : Standing X E) → me ≡ (view.Making, []) → Allows DeskHolds slots id me 0 (λ n. n) (takes_end_slot slots me)
  takes_the_end_slot slots id me is = subst (λ m. Allows DeskHolds slots id m 0 (λ n. n) (takes_end_slot slots m)) (sym is) from
    where
      from : Allows DeskHolds slots id (view.Making, []) 0 (λ n. n) (takes_end_slot slots (making, []))
      from s holds long at small =
          let r = making_is s id holds at in
          let b = r.0 in
          let hs : s.homes ≡ all_home none b.size ++ maybe.some None ∷ [] = r.2 ∙ all_and_one none b.size in
          let count = length_all none b.size in
          let wide : slots ≡ b.size + 1 = sym long ∙ (ap length hs ∙ (length-append _ _ ∙ ap (λ n. n + 1) count)) in
          let last : slots - 1 ≡ b.size = omega arith in
          let there : get_elem? s.homes (slots - 1) ≡ maybe.some (maybe.some None) = ap (get_elem? s.homes) last ∙ (ap (λ l. get_elem? l b.size) hs ∙ at_last _ _ b.size count) in
          let only = set_only view.Making view.Opening s.views id view.Making r.1 at in (
            view.Opening,
            takes (slots - 1) None,
            there,
            inl record {
              size = b.size;
              words = words_at_left s.words b.size 0 (λ n. n) b.words;
              stage = inr (only.1, (λ i. set (hs i) (last i) maybe.none) ∙ set_last _ b.size maybe.none (maybe.some None) count);
            },
            refl,
          )

  readies : (n : ℕ) → all_home none n ≡ map home_of (replicate n (ready X))
  readies zero = refl
  readies (suc n) = ap (λ l. maybe.some none ∷ l) (readies n)

  one_view : (size : ℕ) (r : Ending X E) (vs : List (View X E)) (id : ℕ) (v : View X E) → vs ≡ view.Opened size r ∷ [] → get_elem? vs id ≡ maybe.some v → GatheringView size r (length vs) (replicate size (ready X)) id v
  one_view size r vs id v e at = only id (sym (ap (λ l. get_elem? l id) e) ∙ at)
    where
      only : (j : ℕ) → get_elem? (view.Opened size r ∷ []) j ≡ maybe.some v → GatheringView size r (length vs) (replicate size (ready X)) j v
      only zero h = subst (λ w. GatheringView size r (length vs) (replicate size (ready X)) 0 w) (some-injective _ _ h) (refl, refl, refl, ap length e)
      only (suc j) h = absurd (some-ne-none _ (sym h))

  pub gives_the_end : (slots id size : ℕ) (r : Ending X E) (me : Standing X E) → slots ≡ size + 1 → me ≡ (view.Opening, (size, Some (item.End r)) ∷ []) → Allows DeskHolds slots id me 0 (λ n. n) (gives_end me)
  gives_the_end slots id size r me wide is = subst (λ m. Allows DeskHolds slots id m 0 (λ n. n) (gives_end m)) (sym is) from
    where
      from : Allows DeskHolds slots id (view.Opening, (size, Some (item.End r)) ∷ []) 0 (λ n. n) (gives_end (view.Opening, (size, Some (item.End r)) ∷ []))
      from s holds long at small =
          let f = opening_is s id holds at in
          let b = f.0 in
          let count = length_all none b.size in
          let all : slots ≡ b.size + 1 = sym long ∙ (ap length f.2 ∙ (length-append _ _ ∙ ap (λ n. n + 1) count)) in
          let same : size ≡ b.size = omega arith in
          let only = set_only view.Opening (view.Opened size r) s.views id view.Opening f.1 at in
          let counted : length (all_home none size) ≡ size = length_all none size in
          let hs : s.homes ≡ all_home none size ++ maybe.none ∷ [] = f.2 ∙ (λ i. all_home none (sym same i) ++ maybe.none ∷ []) in (
            view.Opened size r,
            gives,
            tt,
            inr (inl record {
              size = size;
              ending = r;
              phases = replicate size (ready X);
              claim = free;
              long = long_readies X size;
              words = words_at_left s.words b.size 0 (λ n. n) b.words ∙ (λ i. (sym same ∙ sym (left_readies X size)) i ∷ 0 ∷ []);
              homes = ap (λ l. set l size (maybe.some (Some (item.End r)))) hs ∙ (set_last _ size (maybe.some (Some (item.End r))) maybe.none counted ∙ ap (λ l. l ++ maybe.some (Some (item.End r)) ∷ []) (readies size));
              views = λ j v there. one_view size r _ j v only.1 there;
              undealt = λ k lt le. ready_at X size k lt;
              fits = only_ready X size;
              claimer = tt;
            }),
            λ n q e.
                let slots = ap (λ (m : Standing X E). m.1) e in
                let same_size : size ≡ n = ap first_slot slots in
                let held = ap (first_held none) slots in
                let same_end : r ≡ q = cc in
                λ i. (view.Opened (same_size i) (same_end i), []),
          )

  -- where the seat stands that has put something into the slot of the end
  pub holds_end : (slots size : ℕ) (r : Held X E) (before after : Standing X E) → slots ≡ size + 1 → before ≡ (view.Opening, (slots - 1, None) ∷ []) → after ≡ (before.0, (size, r) ∷ rest before.1)
      → after ≡ (view.Opening, (size, r) ∷ [])
  holds_end slots size r before after wide was put = put ∙ ap (λ (m : Standing X E). (m.0, (size, r) ∷ rest m.1)) was

  -- it has the slot of the end, empty
  pub has_slot : (slots size : ℕ) (me : Standing X E) → slots ≡ size + 1 → me ≡ (view.Opening, (slots - 1, None) ∷ []) → me.1 ≡ (size, None) ∷ rest me.1
  has_slot slots size me wide is =
      let e : slots - 1 ≡ size = omega arith in
      let own : me.1 ≡ (size, None) ∷ [] = ap (λ (m : Standing X E). m.1) is ∙ (λ i. (e i, None) ∷ []) in
      own ∙ ap (λ (l : List (ℕ × Held X E)). (size, None) ∷ l) (sym (ap rest own))
