-- A step of an arrival while not all outcomes are kept.
use Rattle.std.proofs.Common.{◌≡◌, ◌≢◌, ℕ, zero, suc, ◌+◌, ◌<◌, ◌≤◌, inl, inr, List, [], ◌∷◌, ◌++◌, map, length, set, sym, ap, ◌∙◌, subst, ⊎_elim, arith, length-set}
use Rattle.std.specs.Prelude.{slice_set, slice_index}
use mathlib.Core.Option as maybe
use mathlib.Core.Option.{some-injective, some-ne-none}
use mathlib.Core.Logic.{dite}
use native.Mathlib.Decide.{ℕ_discrete}
use lib.ListN.{get_elem?}
use Rattle.std.proofs.lemmas.List.{map-set, length-map}
use Rattle.atomic_table.specs.Table.{Act, Valid, Allows, homes_after, carried_after}
use Rattle.atomic_table.proofs.Lists.{at_set, set_here, set_else, set_again, at_map, at_longer}
use Rattle.collect_ops.specs.declared.view.Ending.{Ending}
use Rattle.collect_ops.specs.declared.view.Phase.{Phase}
use Rattle.collect_ops.specs.declared.view.Phase.TheVariants as phase
use Rattle.collect_ops.specs.declared.view.View.{View}
use Rattle.collect_ops.specs.declared.view.View.TheVariants as view
use Rattle.collect_ops.specs.Rule.{Held, Home, DeskState, Claim, free, out, back, claim_word, left_of, PhaseFits, ClaimFits, home_of, end_home, Unopened, GatheringView, Gathering, FullPhase, DeskHolds}
use Rattle.collect_ops.specs.Steps.{Standing}
use Rattle.collect_ops.proofs.Lists.{within, set_before}

-- the claim stands, where the arrival that changes didn't make it
pub claimer_stays : {X : Type 0} (ps : List (Phase X)) (k : ℕ) (p q : Phase X) (c : Claim) → get_elem? ps k ≡ maybe.some p → p ≢ phase.Claiming → p ≢ phase.Claimed → ClaimFits ps c → ClaimFits (set ps k q) c
claimer_stays ps k p q free at first second stands = tt
claimer_stays ps k p q (out j) at first second stands = dite (ℕ_discrete j k)
    (λ e. absurd (first (some-injective p _ (sym at ∙ (ap (get_elem? ps) (sym e) ∙ stands)))))
    (λ ne. set_else ps k j q ne ∙ stands)
claimer_stays ps k p q (back j) at first second stands = dite (ℕ_discrete j k)
    (λ e. absurd (second (some-injective p _ (sym at ∙ (ap (get_elem? ps) (sym e) ∙ stands)))))
    (λ ne. set_else ps k j q ne ∙ stands)

module _ {X E : Type 0} where
  -- the seat of an arrival is that of the arrival at its index
  pub arrives : (s : DeskState X E) (b : Gathering s) (id n : ℕ) (r : Ending X E) (k : ℕ) (p : Phase X) → get_elem? s.views id ≡ maybe.some (view.Arriving n r k p)
      → (n ≡ b.size) × (r ≡ b.ending) × (id ≡ k + 2) × (get_elem? b.phases k ≡ maybe.some p)
  arrives s b id n r k p at = b.views id (view.Arriving n r k p) at

  -- another seat's view, when the phase at this index changes
  other_view : (size : ℕ) (r : Ending X E) (seats seats' : ℕ) (ps : List (Phase X)) (k : ℕ) (q : Phase X) (id id' : ℕ) (v : View X E)
      → id ≡ k + 2 → id' ≢ id → seats' ≡ seats → GatheringView size r seats ps id' v → GatheringView size r seats' (set ps k q) id' v
  other_view size r seats seats' ps k q id id' view.Making mine ne same h = h
  other_view size r seats seats' ps k q id id' view.Opening mine ne same h = h
  other_view size r seats seats' ps k q id id' (view.Opened n e) mine ne same h = (h.0, h.1, h.2, same ∙ h.3)
  other_view size r seats seats' ps k q id id' (view.Dealing n e d) mine ne same h = (h.0, h.1, h.2, same ∙ h.3)
  other_view size r seats seats' ps k q id id' (view.Owner n e) mine ne same h = h
  other_view size r seats seats' ps k q id id' (view.Arriving n e j p) mine ne same h =
      let place = h.2 in
      let apart : j ≢ k = λ same. ne (omega arith) in
      (h.0, h.1, h.2, set_else ps k j q apart ∙ h.3)
  other_view size r seats seats' ps k q id id' view.Clash mine ne same h = h
  other_view size r seats seats' ps k q id id' view.Spent mine ne same h = h

  module _ (s : DeskState X E) (b : Gathering s) (id n : ℕ) (r : Ending X E) (k : ℕ) (p q : Phase X) (at : get_elem? s.views id ≡ maybe.some (view.Arriving n r k p)) where
    abbrev changed : List (Phase X)
    changed = set b.phases k q

    abbrev now : View X E
    now = view.Arriving n r k q

    views_after : (id' : ℕ) (v : View X E) → get_elem? (set s.views id now) id' ≡ maybe.some v → GatheringView b.size b.ending (length (set s.views id now)) changed id' v
    views_after id' v there =
        let f = arrives s b id n r k p at in
        let long : length (set s.views id now) ≡ length s.views = length-set s.views id now in
        ⊎_elim
        (λ (e : (id' ≡ id) × (now ≡ v)). subst (λ w. GatheringView b.size b.ending (length (set s.views id now)) changed id' w) e.1 (f.0, f.1, e.0 ∙ f.2, set_here b.phases k q (within b.phases k p f.3)))
        (λ (e : (id' ≢ id) × (get_elem? s.views id' ≡ maybe.some v)). other_view b.size b.ending (length s.views) (length (set s.views id now)) b.phases k q id id' v f.2 e.0 long (b.views id' v e.1))
        (at_set s.views id id' now v there)

    undealt_after : (j : ℕ) → j < b.size → length (set s.views id now) ≤ j + 2 → get_elem? changed j ≡ maybe.some phase.Ready
    undealt_after j lt le =
        let f = arrives s b id n r k p at in
        let place = f.2 in
        let long : length (set s.views id now) ≡ length s.views = length-set s.views id now in
        let inside : id < length s.views = within s.views id _ at in
        let apart : j ≢ k = λ same. absurd (omega arith) in
        set_else b.phases k j q apart ∙ b.undealt j lt (omega arith)

    fits_after : (c : Claim) → PhaseFits c k q → ((j : ℕ) (u : Phase X) → j ≢ k → PhaseFits b.claim j u → PhaseFits c j u) → (j : ℕ) (u : Phase X) → get_elem? changed j ≡ maybe.some u → PhaseFits c j u
    fits_after c own others j u there = ⊎_elim
        (λ (e : (j ≡ k) × (q ≡ u)). subst (λ (z : ℕ). PhaseFits c z u) (sym e.0) (subst (λ z. PhaseFits c k z) e.1 own))
        (λ (e : (j ≢ k) × (get_elem? b.phases j ≡ maybe.some u)). others j u e.0 (b.fits j u e.1))
        (at_set b.phases k j q u there)

    -- the table after the arrival has come this far
    pub gathers : (ws : List ℕ) (hs : List (Home X E)) (c : Claim) → ws ≡ left_of changed ∷ claim_word c ∷ [] → hs ≡ map home_of changed ++ end_home b.ending c ∷ []
        → PhaseFits c k q → ((j : ℕ) (u : Phase X) → j ≢ k → PhaseFits b.claim j u → PhaseFits c j u) → ClaimFits changed c
        → DeskHolds record { words = ws; homes = hs; views = set s.views id now }
    gathers ws hs c words homes own others claimer = inr (inl record {
      size = b.size;
      ending = b.ending;
      phases = changed;
      claim = c;
      long = length-set b.phases k q ∙ b.long;
      words = words;
      homes = homes;
      views = views_after;
      undealt = undealt_after;
      fits = fits_after c own others;
      claimer = claimer;
    })

  -- an arrival that hasn't arrived has its seat while outcomes are gathered
  pub not_unopened : (s : DeskState X E) → Unopened s → (id n : ℕ) (r : Ending X E) (k : ℕ) (p : Phase X) → get_elem? s.views id ≡ maybe.some (view.Arriving n r k p) → ⊥
  not_unopened s b id n r k p at = ⊎_elim
      (λ (e : _ × _). none_there id view.Making (λ h. cc) (ap (λ vs. get_elem? vs id) (sym e.0) ∙ at))
      (λ (e : _ × _). none_there id view.Opening (λ h. cc) (ap (λ vs. get_elem? vs id) (sym e.0) ∙ at))
      b.stage
    where
      none_there : (j : ℕ) (v : View X E) → v ≢ view.Arriving n r k p → get_elem? (v ∷ []) j ≡ maybe.some (view.Arriving n r k p) → ⊥
      none_there zero v ne e = ne (some-injective v _ e)
      none_there (suc j) v ne e = some-ne-none _ (sym e)

  -- the slot of an arrival
  pub home_at : (s : DeskState X E) (b : Gathering s) (k : ℕ) (p : Phase X) → get_elem? b.phases k ≡ maybe.some p → get_elem? s.homes k ≡ maybe.some (home_of p)
  home_at s b k p at = ap (λ hs. get_elem? hs k) b.homes ∙ at_longer (map home_of b.phases) (end_home b.ending b.claim ∷ []) k (home_of p) (at_map home_of b.phases k p at)

  -- its slot changes with its phase
  pub home_set : (s : DeskState X E) (b : Gathering s) (k : ℕ) (p q : Phase X) → get_elem? b.phases k ≡ maybe.some p → set s.homes k (home_of q) ≡ map home_of (set b.phases k q) ++ end_home b.ending b.claim ∷ []
  home_set s b k p q at =
      let lt = within b.phases k p at in
      let long = length-map b.phases (home_of {X = X} {E = E}) in
      let inside : k < length (map (home_of {X = X} {E = E}) b.phases) = omega arith in
      ap (λ hs. set hs k (home_of q)) b.homes ∙ (set_before (map home_of b.phases) k (home_of q) (end_home b.ending b.claim) inside
      ∙ ap (λ l. l ++ end_home b.ending b.claim ∷ []) (sym (map-set home_of b.phases k q)))

  -- its slot stays as it is
  pub home_same : (ps : List (Phase X)) (k : ℕ) (p q : Phase X) → get_elem? ps k ≡ maybe.some p → home_of {X = X} {E = E} p ≡ home_of q → map (home_of {X = X} {E = E}) ps ≡ map home_of (set ps k q)
  home_same ps k p q at same = sym (map-set home_of ps k q ∙ set_again (map home_of ps) k (home_of q) (at_map home_of ps k p at ∙ ap (λ (h : Home X E). maybe.some h) same))

  -- what a step of an arrival owes while outcomes are gathered
  abbrev pub Owes : ℕ → ℕ → Ending X E → ℕ → Phase X → List (ℕ × Held X E) → ℕ → (ℕ → ℕ) → (ℕ → Standing X E → Type 0) → Type 0
  Owes id n r k p cs i f then = (s : DeskState X E) (b : Gathering s) → get_elem? s.views id ≡ maybe.some (view.Arriving n r k p) → slice_index s.words i < 18446744073709551616
      → (w : View X E) × (a : Act (Held X E)) × Valid s.homes cs a × DeskHolds record { words = slice_set s.words i (f (slice_index s.words i)); homes = homes_after s.homes cs a; views = slice_set s.views id w }
      × then (slice_index s.words i) (w, carried_after cs a)

  -- A step of an arrival that hasn't arrived: what it owes while outcomes are gathered. It can't be there once all outcomes are kept.
  pub arrival_steps : (slots id n : ℕ) (r : Ending X E) (k : ℕ) (p : Phase X) (cs : List (ℕ × Held X E)) (i : ℕ) (f : ℕ → ℕ) (then : ℕ → Standing X E → Type 0)
      → ((last : ℕ) (xs : List X) (given : _) → FullPhase last xs given k p → ⊥)
      → Owes id n r k p cs i f then
      → Allows DeskHolds slots id (view.Arriving n r k p, cs) i f then
  arrival_steps slots id n r k p cs i f then full owes s (inl b) long at small = absurd (not_unopened s b id n r k p at)
  arrival_steps slots id n r k p cs i f then full owes s (inr (inl b)) long at small = owes s b at small
  arrival_steps slots id n r k p cs i f then full owes s (inr (inr b)) long at small = absurd (full b.last b.xs b.given (b.views id _ at).3)
