-- An arrival claims the end, and gives its slot back.
use Rattle.std.proofs.Common.{◌≡◌, ◌≢◌, ℕ, List, [], ◌∷◌, ◌++◌, map, length, set, refl, sym, ap, ◌∙◌, subst, Some, None, arith}
use Rattle.std.proofs.lemmas.List.{length-map}
use Rattle.std.specs.Prelude.{slice_set, slice_index}
use mathlib.Core.Option as maybe
use mathlib.Core.Option.{some-injective, some-ne-none}
use mathlib.Core.Logic.{dite}
use native.Mathlib.Decide.{ℕ_discrete}
use lib.ListN.{get_elem?}
use Rattle.atomic_table.specs.Table.{keeps as stays, takes, gives, Allows}
use Rattle.atomic_table.proofs.Lists.{set_here, at_last}
use Rattle.collect_ops.specs.declared.view.Ending.{Ending}
use Rattle.collect_ops.specs.declared.view.Item.TheVariants as item
use Rattle.collect_ops.specs.declared.view.Phase.{Phase}
use Rattle.collect_ops.specs.declared.view.Phase.TheVariants as phase
use Rattle.collect_ops.specs.declared.view.View.{View}
use Rattle.collect_ops.specs.declared.view.View.TheVariants as view
use Rattle.collect_ops.specs.Views.{waits}
use Rattle.collect_ops.specs.Rule.{Home, DeskState, Claim, free, out, back, claim_word, left_of, PhaseFits, home_of, end_home, Gathering, DeskHolds}
use Rattle.collect_ops.specs.Steps.{Standing, claims, returns_end}
use Rattle.collect_ops.proofs.Lists.{within, set_last, words_at_claim, claim_word_is, left_set, same_arrival}
use Rattle.collect_ops.proofs.Gather.{claimer_stays, arrives, gathers, home_same, Owes, arrival_steps}

pub nobody : (c : Claim) → claim_word c ≡ 0 → c ≡ free
nobody free e = refl
nobody (out k) e = absurd (omega arith)
nobody (back k) e = absurd (omega arith)

somebody : (c : Claim) → claim_word c ≢ 0 → claim_word c ≡ 1
somebody free ne = absurd (ne refl)
somebody (out k) ne = refl
somebody (back k) ne = refl

module _ {X : Type 0} where
  first_fits : (k j : ℕ) (u : Phase X) → PhaseFits free j u → PhaseFits (out k) j u
  first_fits k j phase.Ready h = tt
  first_fits k j phase.Holding h = tt
  first_fits k j (phase.Kept x found) h = tt
  first_fits k j phase.Lost h = absurd (omega arith)
  first_fits k j phase.Claiming h = let e : free ≡ out j = h in cc
  first_fits k j phase.Claimed h = let e : free ≡ back j = h in cc
  first_fits k j (phase.Emptying xs) h = h
  first_fits k j (phase.Emptied xs) h = h
  first_fits k j (phase.Told xs i x) h = h

  given_fits : (k j : ℕ) (u : Phase X) → j ≢ k → PhaseFits (out k) j u → PhaseFits (back k) j u
  given_fits k j phase.Ready ne h = tt
  given_fits k j phase.Holding ne h = tt
  given_fits k j (phase.Kept x found) ne h = tt
  given_fits k j phase.Lost ne h = refl
  given_fits k j phase.Claiming ne h = let e : out k ≡ out j = h in let same : k ≡ j = cc in absurd (ne (sym same))
  given_fits k j phase.Claimed ne h = let e : out k ≡ back j = h in cc
  given_fits k j (phase.Emptying xs) ne h = h
  given_fits k j (phase.Emptied xs) ne h = h
  given_fits k j (phase.Told xs i x) ne h = h

module _ {X E : Type 0} (slots id n : ℕ) (r : Ending X E) (k : ℕ) where
  abbrev ready : View X E
  ready = view.Arriving n r k phase.Ready

  abbrev claiming : View X E
  claiming = view.Arriving n r k phase.Claiming

  -- a phase that counts among those left as before
  left_same : (ps : List (Phase X)) (p q : Phase X) → get_elem? ps k ≡ maybe.some p → waits p ≡ waits q → left_of ps ≡ left_of (set ps k q)
  left_same ps p q at same = let e = left_set ps k p q at in omega arith

  claimed : (s : DeskState X E) (b : Gathering s) → get_elem? s.views id ≡ maybe.some ready → slice_index s.words 1 ≡ 0 → b.claim ≡ free
      → DeskHolds record { words = slice_set s.words 1 1; homes = set s.homes n maybe.none; views = set s.views id claiming }
  claimed s b at found is =
      let f = arrives s b id n r k phase.Ready at in
      let same = home_same {E = E} b.phases k phase.Ready phase.Claiming f.3 refl in
      let wide : length (map (home_of {X = X} {E = E}) b.phases) ≡ n = length-map b.phases (home_of {X = X} {E = E}) ∙ (b.long ∙ sym f.0) in
      gathers s b id n r k phase.Ready phase.Claiming at _ _ (out k)
      (words_at_claim s.words (left_of b.phases) (claim_word b.claim) (λ _. 1) b.words ∙ (λ i. left_same b.phases phase.Ready phase.Claiming f.3 refl i ∷ 1 ∷ []))
      (ap (λ hs. set hs n maybe.none) b.homes ∙ (set_last (map home_of b.phases) n maybe.none (end_home b.ending b.claim) wide ∙ ap (λ l. l ++ maybe.none ∷ []) same))
      refl
      (λ j u ne h. first_fits k j u (subst (λ c. PhaseFits c j u) is h))
      (set_here b.phases k phase.Claiming (within b.phases k phase.Ready f.3))

  lost : (s : DeskState X E) (b : Gathering s) → get_elem? s.views id ≡ maybe.some ready → claim_word b.claim ≡ 1
      → DeskHolds record { words = slice_set s.words 1 1; homes = s.homes; views = set s.views id (view.Arriving n r k phase.Lost) }
  lost s b at is =
      let f = arrives s b id n r k phase.Ready at in
      let same = home_same {E = E} b.phases k phase.Ready phase.Lost f.3 refl in
      gathers s b id n r k phase.Ready phase.Lost at _ _ b.claim
      (words_at_claim s.words (left_of b.phases) (claim_word b.claim) (λ _. 1) b.words ∙ (λ i. left_same b.phases phase.Ready phase.Lost f.3 refl i ∷ sym is i ∷ []))
      (b.homes ∙ ap (λ l. l ++ end_home b.ending b.claim ∷ []) same)
      is
      (λ j u ne h. h)
      (claimer_stays b.phases k phase.Ready phase.Lost b.claim f.3 (λ e. cc) (λ e. cc) b.claimer)

  claims_it : Allows DeskHolds slots id (ready, []) 1 (λ _. 1) (claims (ready, []))
  claims_it = arrival_steps slots id n r k phase.Ready [] 1 (λ _. 1) (claims (ready, [])) (λ last xs given full. full) owes
    where
      owes : Owes id n r k phase.Ready [] 1 (λ _. 1) (claims (ready, []))
      owes s b at small =
          let f = arrives s b id n r k phase.Ready at in
          let word = claim_word_is s.words _ _ b.words in
          dite (ℕ_discrete (slice_index s.words 1) 0)
          (λ e.
          let is = nobody b.claim (sym word ∙ e) in
          let wide : length (map (home_of {X = X} {E = E}) b.phases) ≡ n = length-map b.phases (home_of {X = X} {E = E}) ∙ (b.long ∙ sym f.0) in (
            claiming,
            takes n (Some (item.End r)),
            ap (λ hs. get_elem? hs n) b.homes ∙ (at_last (map home_of b.phases) (end_home b.ending b.claim) n wide ∙ ap (λ (h : Home X E). maybe.some h) ((λ i. end_home (sym f.1 i) (is i)))),
            claimed s b at e is,
            λ m q j eq. let same = same_arrival n r k phase.Ready m q j phase.Ready [] [] eq in (
              (λ _. λ i. (view.Arriving (same.size i) (same.ending i) (same.index i) phase.Claiming, (same.size i, Some (item.End (same.ending i))) ∷ [])),
              (λ ne. absurd (ne e)),
            ),
          ))
          (λ ne.
          let is = somebody b.claim (λ e. ne (word ∙ e)) in (
            view.Arriving n r k phase.Lost,
            stays,
            tt,
            lost s b at is,
            λ m q j eq. let same = same_arrival n r k phase.Ready m q j phase.Ready [] [] eq in (
              (λ e. absurd (ne e)),
              (λ _. (word ∙ is, λ i. (view.Arriving (same.size i) (same.ending i) (same.index i) phase.Lost, []))),
            ),
          ))

  returns_it : Allows DeskHolds slots id (claiming, (n, None) ∷ []) 1 (λ w. w) (returns_end (claiming, (n, None) ∷ []))
  returns_it = arrival_steps slots id n r k phase.Claiming ((n, None) ∷ []) 1 (λ w. w) (returns_end (claiming, (n, None) ∷ [])) (λ last xs given full. full) owes
    where
      owes : Owes id n r k phase.Claiming ((n, None) ∷ []) 1 (λ w. w) (returns_end (claiming, (n, None) ∷ []))
      owes s b at small =
          let f = arrives s b id n r k phase.Claiming at in
          let is : b.claim ≡ out k = b.fits k phase.Claiming f.3 in
          let same = home_same {E = E} b.phases k phase.Claiming phase.Claimed f.3 refl in
          let wide : length (map (home_of {X = X} {E = E}) b.phases) ≡ n = length-map b.phases (home_of {X = X} {E = E}) ∙ (b.long ∙ sym f.0) in (
            view.Arriving n r k phase.Claimed,
            gives,
            tt,
            gathers s b id n r k phase.Claiming phase.Claimed at _ _ (back k)
                (words_at_claim s.words (left_of b.phases) (claim_word b.claim) (λ w. w) b.words ∙ (λ i. left_same b.phases phase.Claiming phase.Claimed f.3 refl i ∷ claim_word (is i) ∷ []))
                (ap (λ hs. set hs n (maybe.some None)) b.homes ∙ (set_last (map home_of b.phases) n (maybe.some None) (end_home b.ending b.claim) wide ∙ ap (λ l. l ++ maybe.some None ∷ []) same))
                refl
                (λ j u ne h. given_fits k j u ne (subst (λ c. PhaseFits c j u) is h))
                (set_here b.phases k phase.Claimed (within b.phases k phase.Claiming f.3)),
            λ m q j eq. let same_one = same_arrival n r k phase.Claiming m q j phase.Claiming _ _ eq in λ i. (view.Arriving (same_one.size i) (same_one.ending i) (same_one.index i) phase.Claimed, []),
          )

module _ {X E : Type 0} where
  pub arrival_claims : (slots id n : ℕ) (r : Ending X E) (k : ℕ) (me : Standing X E) → me ≡ (view.Arriving n r k phase.Ready, []) → Allows DeskHolds slots id me 1 (λ _. 1) (claims me)
  arrival_claims slots id n r k me is = subst (λ m. Allows DeskHolds slots id m 1 (λ _. 1) (claims m)) (sym is) (claims_it slots id n r k)

  pub arrival_returns_end : (slots id n : ℕ) (r : Ending X E) (k : ℕ) (me : Standing X E) → me ≡ (view.Arriving n r k phase.Claiming, (n, None) ∷ []) → Allows DeskHolds slots id me 1 (λ w. w) (returns_end me)
  arrival_returns_end slots id n r k me is = subst (λ m. Allows DeskHolds slots id m 1 (λ w. w) (returns_end m)) (sym is) (returns_it slots id n r k)
