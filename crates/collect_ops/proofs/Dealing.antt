-- The seats of a desk are dealt: its own, and then the arrivals by index.
use Rattle.std.proofs.Common.{◌≡◌, ◌≢◌, ℕ, zero, suc, ◌+◌, ◌<◌, inl, inr, List, [], ◌∷◌, ◌++◌, length, set, refl, sym, ap, ◌∙◌, subst, ⊎_elim, arith, length-append, length-set}
use mathlib.Core.Option as maybe
use mathlib.Core.Option.{some-injective, some-ne-none}
use mathlib.Core.Logic.{dite}
use native.Mathlib.Decide.{ℕ_discrete}
use lib.ListN.{get_elem?}
use Rattle.atomic_table.specs.Table.{Splits}
use Rattle.atomic_table.proofs.Lists.{at_set}
use Rattle.collect_ops.specs.declared.view.Ending.{Ending}
use Rattle.collect_ops.specs.declared.view.Phase.{Phase}
use Rattle.collect_ops.specs.declared.view.Phase.TheVariants as phase
use Rattle.collect_ops.specs.declared.view.View.{View}
use Rattle.collect_ops.specs.declared.view.View.TheVariants as view
use Rattle.collect_ops.specs.Rule.{DeskState, GatheringView, Gathering, Unopened, DeskHolds}
use Rattle.collect_ops.specs.Steps.{Standing, dealer, dealt}

-- an element of a list with one more at its end
at_end : {A : Type 0} (l : List A) (a : A) (k : ℕ) (b : A) → get_elem? (l ++ a ∷ []) k ≡ maybe.some b → (k ≢ length l → get_elem? l k ≡ maybe.some b) × (k ≡ length l → a ≡ b)
at_end [] a zero b e = ((λ ne. absurd (ne refl)), λ _. some-injective a b e)
at_end [] a (suc k) b e = absurd (some-ne-none b (sym e))
at_end (x ∷ xs) a zero b e = ((λ _. e), λ same. absurd (omega arith))
at_end (x ∷ xs) a (suc k) b e = let r = at_end xs a k b e in ((λ ne. r.0 (λ same. ne (ap suc same))), λ same. r.1 (omega arith))

module _ {X E : Type 0} where
  -- another seat's view, when one more seat is dealt
  other_view : (size : ℕ) (r : Ending X E) (seats : ℕ) (ps : List (Phase X)) (id : ℕ) (v : View X E) → id ≢ 0 → GatheringView size r seats ps id v → GatheringView size r (seats + 1) ps id v
  other_view size r seats ps id view.Making ne h = h
  other_view size r seats ps id view.Opening ne h = h
  other_view size r seats ps id (view.Opened n e) ne h = absurd (ne h.2)
  other_view size r seats ps id (view.Dealing n e d) ne h = absurd (ne h.2)
  other_view size r seats ps id (view.Owner n e) ne h = h
  other_view size r seats ps id (view.Arriving n e j p) ne h = h
  other_view size r seats ps id view.Clash ne h = h
  other_view size r seats ps id view.Spent ne h = h

  deals : (s : DeskState X E) (b : Gathering s) (id : ℕ) (v left right : View X E) → get_elem? s.views id ≡ maybe.some v → id ≡ 0
      → GatheringView b.size b.ending (length s.views + 1) b.phases 0 left → GatheringView b.size b.ending (length s.views + 1) b.phases (length s.views) right
      → DeskHolds record { words = s.words; homes = s.homes; views = set s.views id left ++ right ∷ [] }
  deals s b id v left right at first mine new = inr (inl record {
    size = b.size;
    ending = b.ending;
    phases = b.phases;
    claim = b.claim;
    long = b.long;
    words = b.words;
    homes = b.homes;
    views = views;
    undealt = λ k lt le. b.undealt k lt (let long = seats in omega arith);
    fits = b.fits;
    claimer = b.claimer;
  })
    where
      all : List (View X E)
      all = set s.views id left ++ right ∷ []

      seats : length (set s.views id left ++ right ∷ []) ≡ length s.views + 1
      seats = length-append (set s.views id left) (right ∷ []) ∙ ap (λ n. n + 1) (length-set s.views id left)

      before : (j : ℕ) (w : View X E) → get_elem? (set s.views id left) j ≡ maybe.some w → GatheringView b.size b.ending (length s.views + 1) b.phases j w
      before j w there = ⊎_elim
          (λ (e : (j ≡ id) × (left ≡ w)). subst (λ u. GatheringView b.size b.ending (length s.views + 1) b.phases j u) e.1 (subst (λ i. GatheringView b.size b.ending (length s.views + 1) b.phases i left) (sym (e.0 ∙ first)) mine))
          (λ (e : (j ≢ id) × (get_elem? s.views j ≡ maybe.some w)). other_view b.size b.ending (length s.views) b.phases j w (λ z. e.0 (z ∙ sym first)) (b.views j w e.1))
          (at_set s.views id j left w there)

      views : (j : ℕ) (w : View X E) → get_elem? (set s.views id left ++ right ∷ []) j ≡ maybe.some w → GatheringView b.size b.ending (length (set s.views id left ++ right ∷ [])) b.phases j w
      views j w there =
          let r = at_end (set s.views id left) right j w there in
          let wide = length-set s.views id left in
          subst (λ n. GatheringView b.size b.ending n b.phases j w) (sym seats) (dite (ℕ_discrete j (length s.views))
          (λ e. subst (λ u. GatheringView b.size b.ending (length s.views + 1) b.phases j u) (r.1 (e ∙ sym wide)) (subst (λ i. GatheringView b.size b.ending (length s.views + 1) b.phases i right) (sym e) new))
          (λ ne. before j w (r.0 (λ e. ne (e ∙ wide)))))

  pub none_before : (s : DeskState X E) (b : Unopened s) (id : ℕ) (v : View X E) → v ≢ view.Making → v ≢ view.Opening → get_elem? s.views id ≡ maybe.some v → ⊥
  none_before s b id v first second at = ⊎_elim
      (λ (e : (s.views ≡ view.Making ∷ []) × _). only id view.Making (λ h. first (sym h)) (sym (ap (λ vs. get_elem? vs id) e.0) ∙ at))
      (λ (e : (s.views ≡ view.Opening ∷ []) × _). only id view.Opening (λ h. second (sym h)) (sym (ap (λ vs. get_elem? vs id) e.0) ∙ at))
      b.stage
    where
      only : (j : ℕ) (w : View X E) → w ≢ v → get_elem? (w ∷ []) j ≡ maybe.some v → ⊥
      only zero w ne h = ne (some-injective _ _ h)
      only (suc j) w ne h = some-ne-none _ (sym h)

  pub deals_owner : (id size : ℕ) (r : Ending X E) (me : Standing X E) → me ≡ (view.Opened size r, []) → Splits DeskHolds id me.0 (dealer me.0) (dealt me.0)
  deals_owner id size r me is = subst (λ (m : Standing X E). Splits DeskHolds id m.0 (dealer m.0) (dealt m.0)) (sym is) from
    where
      from : Splits DeskHolds id (view.Opened size r) (view.Dealing size r 0) (view.Owner size r)
      from s (inl b) at = absurd (none_before s b id _ (λ h. cc) (λ h. cc) at)
      from s (inr (inl b)) at =
          let f = b.views id _ at in
          let one = f.3 in
          let two : length s.views + 1 ≡ 0 + 2 = omega arith in
          deals s b id (view.Opened size r) (view.Dealing size r 0) (view.Owner size r) at f.2 (f.0, f.1, refl, two) (f.0, f.1)
      from s (inr (inr b)) at = absurd (b.views id _ at)

  pub deals_arrival : (id size : ℕ) (r : Ending X E) (index : ℕ) (me : Standing X E) → index < size → me ≡ (view.Dealing size r index, []) → Splits DeskHolds id me.0 (dealer me.0) (dealt me.0)
  deals_arrival id size r index me below is = subst (λ (m : Standing X E). Splits DeskHolds id m.0 (dealer m.0) (dealt m.0)) (sym is) from
    where
      from : Splits DeskHolds id (view.Dealing size r index) (view.Dealing size r (index + 1)) (view.Arriving size r index phase.Ready)
      from s (inl b) at = absurd (none_before s b id _ (λ h. cc) (λ h. cc) at)
      from s (inr (inl b)) at =
          let f = b.views id _ at in
          let seats = f.3 in
          let same = f.0 in
          let next : length s.views + 1 ≡ (index + 1) + 2 = omega arith in
          let ready = b.undealt index (omega arith) (omega arith) in
          deals s b id (view.Dealing size r index) (view.Dealing size r (index + 1)) (view.Arriving size r index phase.Ready) at f.2 (f.0, f.1, refl, next) (f.0, f.1, seats, ready)
      from s (inr (inr b)) at =
          let f = b.views id _ at in
          let size_is = f.0 in
          let dealt_all = f.2 in
          absurd (omega arith)
