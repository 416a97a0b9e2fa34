-- An arrival takes its slot, leaves its outcome in it and takes 1 off the count. The last one takes all slots.
use Rattle.std.proofs.Common.{◌≡◌, ◌≢◌, ℕ, zero, suc, ◌+◌, ◌-◌, ◌%◌, ◌^◌, ◌<◌, ◌≤◌, inr, false, List, [], ◌∷◌, ◌++◌, map, length, replicate, reverse, set, refl, sym, ap, ◌∙◌, subst, ⊎_elim, Some, None, arith, length-append}
use Rattle.std.proofs.lemmas.List.{length-map}
use Rattle.std.specs.Prelude.{slice_set, slice_index}
use mathlib.Core.Option as maybe
use mathlib.Core.Option.{some-injective, some-ne-none}
use mathlib.Core.Logic.{dite}
use native.Mathlib.Decide.{ℕ_discrete, dec_le}
use Rattle.std.proofs.Common.{lt_of_not-le}
use lib.ListN.{get_elem?}
use Rattle.atomic_table.specs.Table.{takes, gives, chain, Valid, Allows, homes_after}
use Rattle.atomic_table.proofs.Lists.{at_set, at_map}
use Rattle.collect_ops.specs.declared.view.Ending.{Ending}
use Rattle.collect_ops.specs.declared.view.Item.TheVariants as item
use Rattle.collect_ops.specs.declared.view.Phase.{Phase}
use Rattle.collect_ops.specs.declared.view.Phase.TheVariants as phase
use Rattle.collect_ops.specs.declared.view.View.{View}
use Rattle.collect_ops.specs.declared.view.View.TheVariants as view
use Rattle.collect_ops.specs.Views.{waits}
use Rattle.collect_ops.specs.Rule.{Held, Home, DeskState, Claim, free, out, back, claim_word, left_of, ClaimFits, home_of, end_home, GatheringView, Gathering, FullPhase, FullView, DeskHolds}
use Rattle.collect_ops.specs.Steps.{Standing, takes_slot, keeps, full_slots}
use Rattle.collect_ops.proofs.Lists.{within, set_before, words_at_left, left_word, left_set, left_at, left_two, left_within, same_arrival, first_held}
use Rattle.collect_ops.proofs.Gather.{claimer_stays, arrives, gathers, home_at, home_set, Owes, arrival_steps}
use Rattle.collect_ops.proofs.Taking.{partly, take_all, can_take, all_taken, all_carried, full}

-- one less
abbrev pub less : ℕ → ℕ
less n = (n + (2 ^ 64 - 1)) % 2 ^ 64

less_is : (a b : ℕ) → a ≡ b + 1 → a < 18446744073709551616 → less a ≡ b
less_is a b e small = omega arith

module _ {X E : Type 0} (slots id n : ℕ) (r : Ending X E) (k : ℕ) where
  takes_it : Allows DeskHolds slots id (view.Arriving n r k phase.Ready, []) 0 (λ w. w) (takes_slot (view.Arriving n r k phase.Ready, []))
  takes_it = arrival_steps slots id n r k phase.Ready [] 0 (λ w. w) (takes_slot (view.Arriving n r k phase.Ready, [])) (λ last xs given h. h) owes
    where
      owes : Owes id n r k phase.Ready [] 0 (λ w. w) (takes_slot (view.Arriving n r k phase.Ready, []))
      owes s b at small =
          let f = arrives s b id n r k phase.Ready at in
          let count = left_set b.phases k phase.Ready phase.Holding f.3 in
          let same : left_of b.phases ≡ left_of (set b.phases k phase.Holding) = omega arith in (
            view.Arriving n r k phase.Holding,
            takes k None,
            home_at s b k phase.Ready f.3,
            gathers s b id n r k phase.Ready phase.Holding at _ _ b.claim
                (words_at_left s.words (left_of b.phases) (claim_word b.claim) (λ w. w) b.words ∙ (λ i. same i ∷ claim_word b.claim ∷ []))
                (home_set s b k phase.Ready phase.Holding f.3)
                tt
                (λ j u ne h. h)
                (claimer_stays b.phases k phase.Ready phase.Holding b.claim f.3 (λ e. cc) (λ e. cc) b.claimer),
            λ m q j eq. let one = same_arrival n r k phase.Ready m q j phase.Ready [] [] eq in λ i. (view.Arriving (one.size i) (one.ending i) (one.index i) phase.Holding, (one.index i, None) ∷ []),
          )

module _ {X : Type 0} (x : X) where
  -- what each slot holds, where all others have left theirs
  abbrev left_in : Phase X → X
  left_in phase.Ready = x
  left_in phase.Holding = x
  left_in (phase.Kept y found) = y
  left_in phase.Lost = x
  left_in phase.Claiming = x
  left_in phase.Claimed = x
  left_in (phase.Emptying ys) = x
  left_in (phase.Emptied ys) = x
  left_in (phase.Told ys j y) = x

module _ {X E : Type 0} (x : X) where
  abbrev at_home : X → Home X E
  at_home y = maybe.some (full y)

  head_kept : (p : Phase X) → waits p ≡ 0 → home_of {E = E} p ≡ at_home (left_in x p)
  head_kept phase.Ready e = absurd (omega arith)
  head_kept phase.Holding e = absurd (omega arith)
  head_kept (phase.Kept y found) e = refl
  head_kept phase.Lost e = absurd (omega arith)
  head_kept phase.Claiming e = absurd (omega arith)
  head_kept phase.Claimed e = absurd (omega arith)
  head_kept (phase.Emptying ys) e = absurd (omega arith)
  head_kept (phase.Emptied ys) e = absurd (omega arith)
  head_kept (phase.Told ys j y) e = absurd (omega arith)

  none_waits : (ps : List (Phase X)) → left_of ps ≡ 0 → map home_of ps ≡ map at_home (map (left_in x) ps)
  none_waits [] e = refl
  none_waits (p ∷ ps) e = λ i. head_kept p (omega arith) i ∷ none_waits ps (omega arith) i

  -- the slots, once the last one has left its outcome too
  all_left : (ps : List (Phase X)) (k : ℕ) → get_elem? ps k ≡ maybe.some phase.Holding → left_of ps ≡ 1 → set (map home_of ps) k (at_home x) ≡ map at_home (map (left_in x) ps)
  all_left [] k at one = absurd (some-ne-none _ (sym at))
  all_left (p ∷ ps) zero at one =
      let is : p ≡ phase.Holding = some-injective _ _ at in
      let w : waits p ≡ 1 = ap waits is in
      λ i. at_home (left_in x (sym is i)) ∷ none_waits ps (omega arith) i
  all_left (p ∷ ps) (suc k) at one =
      let w = left_at ps k phase.Holding at in
      λ i. head_kept p (omega arith) i ∷ all_left ps k at (omega arith) i

  kept_home : (xs : List X) (e : Held X E) → map at_home xs ++ maybe.some e ∷ [] ≡ map maybe.some (map full xs ++ e ∷ [])
  kept_home [] e = refl
  kept_home (y ∷ ys) e = ap (λ l. at_home y ∷ l) (kept_home ys e)

module _ {X E : Type 0} (slots id n : ℕ) (r : Ending X E) (k : ℕ) (x : X) where
  abbrev holding : View X E
  holding = view.Arriving n r k phase.Holding

  abbrev own : List (ℕ × Held X E)
  own = (k, full x) ∷ []

  more : (s : DeskState X E) (b : Gathering s) → get_elem? s.views id ≡ maybe.some holding → slice_index s.words 0 < 18446744073709551616
      → DeskHolds record { words = slice_set s.words 0 (less (slice_index s.words 0)); homes = set s.homes k (maybe.some (full x)); views = set s.views id (view.Arriving n r k (phase.Kept x (slice_index s.words 0))) }
  more s b at small =
      let found : ℕ = slice_index s.words 0 in
      let f = arrives s b id n r k phase.Holding at in
      let count = left_set b.phases k phase.Holding (phase.Kept x found) f.3 in
      let word = left_word s.words (left_of b.phases) (claim_word b.claim) b.words in
      let fewer : left_of b.phases ≡ left_of (set b.phases k (phase.Kept x found)) + 1 = omega arith in
      let small' : left_of b.phases < 18446744073709551616 = subst (λ w. w < 18446744073709551616) word small in
      let now = less_is (left_of b.phases) (left_of (set b.phases k (phase.Kept x found))) fewer small' in
      gathers s b id n r k phase.Holding (phase.Kept x found) at _ _ b.claim
      (words_at_left s.words (left_of b.phases) (claim_word b.claim) less b.words ∙ (λ i. now i ∷ claim_word b.claim ∷ []))
      (home_set s b k phase.Holding (phase.Kept x found) f.3)
      tt
      (λ j u ne h. h)
      (claimer_stays b.phases k phase.Holding (phase.Kept x found) b.claim f.3 (λ e. cc) (λ e. cc) b.claimer)

  -- nobody has claimed where one is left that holds its slot
  unclaimed : (ps : List (Phase X)) (c : Claim) → get_elem? ps k ≡ maybe.some phase.Holding → left_of ps ≡ 1 → ClaimFits ps c → c ≡ free
  unclaimed ps free at one h = refl
  unclaimed ps (out j) at one h = dite (ℕ_discrete k j)
      (λ e. let same = some-injective _ _ (sym at ∙ (ap (get_elem? ps) e ∙ h)) in cc)
      (λ ne. let two = left_two ps k j phase.Holding phase.Claiming ne at h in absurd (omega arith))
  unclaimed ps (back j) at one h = dite (ℕ_discrete k j)
      (λ e. let same = some-injective _ _ (sym at ∙ (ap (get_elem? ps) e ∙ h)) in cc)
      (λ ne. let two = left_two ps k j phase.Holding phase.Claimed ne at h in absurd (omega arith))

  -- another arrival's phase, where one is left that holds its slot
  other_phase : (ps : List (Phase X)) (j : ℕ) (p : Phase X) → k ≢ j → get_elem? ps k ≡ maybe.some phase.Holding → left_of ps ≡ 1 → get_elem? ps j ≡ maybe.some p → FullPhase k (map (left_in x) ps) false j p
  other_phase ps j phase.Ready ne at one to = let two = left_two ps k j phase.Holding phase.Ready ne at to in absurd (omega arith)
  other_phase ps j phase.Holding ne at one to = let two = left_two ps k j phase.Holding phase.Holding ne at to in absurd (omega arith)
  other_phase ps j (phase.Kept y found) ne at one to = at_map (left_in x) ps j (phase.Kept y found) to
  other_phase ps j phase.Lost ne at one to = let two = left_two ps k j phase.Holding phase.Lost ne at to in absurd (omega arith)
  other_phase ps j phase.Claiming ne at one to = let two = left_two ps k j phase.Holding phase.Claiming ne at to in absurd (omega arith)
  other_phase ps j phase.Claimed ne at one to = let two = left_two ps k j phase.Holding phase.Claimed ne at to in absurd (omega arith)
  other_phase ps j (phase.Emptying ys) ne at one to = let two = left_two ps k j phase.Holding (phase.Emptying ys) ne at to in absurd (omega arith)
  other_phase ps j (phase.Emptied ys) ne at one to = let two = left_two ps k j phase.Holding (phase.Emptied ys) ne at to in absurd (omega arith)
  other_phase ps j (phase.Told ys i y) ne at one to = let two = left_two ps k j phase.Holding (phase.Told ys i y) ne at to in absurd (omega arith)

  full_view : (s : DeskState X E) (b : Gathering s) → get_elem? b.phases k ≡ maybe.some phase.Holding → left_of b.phases ≡ 1 → id ≡ k + 2 → id < length s.views
      → (j : ℕ) (v : View X E) → j ≢ id → GatheringView b.size b.ending (length s.views) b.phases j v → FullView b.size b.ending k (map (left_in x) b.phases) false j v
  full_view s b at one mine inside j view.Making ne h = h
  full_view s b at one mine inside j view.Opening ne h = h
  full_view s b at one mine inside j (view.Opened m q) ne h = let seats = h.3 in absurd (omega arith)
  full_view s b at one mine inside j (view.Dealing m q d) ne h =
      let seats = h.3 in (
        h.0,
        h.1,
        dite (dec_le b.size d) (λ le. le) (λ no.
            let ready = b.undealt d (lt_of_not-le no) (omega arith) in
            let two = left_two b.phases k d phase.Holding phase.Ready (λ e. let same = some-injective _ _ (sym at ∙ (ap (get_elem? b.phases) e ∙ ready)) in cc) at ready in
            absurd (omega arith)),
      )
  full_view s b at one mine inside j (view.Owner m q) ne h = h
  full_view s b at one mine inside j (view.Arriving m q i p) ne h =
      let place = h.2 in
      let apart : k ≢ i = λ e. ne (omega arith) in
      (h.0, h.1, h.2, other_phase b.phases i p apart at one h.3)
  full_view s b at one mine inside j view.Clash ne h = h
  full_view s b at one mine inside j view.Spent ne h = absurd h

  abbrev list_of : List (Phase X) → List X
  list_of ps = map (left_in x) ps

  -- what all slots hold, the outcome of the last one included
  slots_then : (s : DeskState X E) (b : Gathering s) → get_elem? b.phases k ≡ maybe.some phase.Holding → left_of b.phases ≡ 1 → r ≡ b.ending
      → set s.homes k (maybe.some (full x)) ≡ partly 0 (map full (list_of b.phases) ++ Some (item.End r) ∷ [])
  slots_then s b at one same =
      let c = unclaimed b.phases b.claim at one b.claimer in
      let lt = within b.phases k phase.Holding at in
      let long = length-map b.phases (home_of {X = X} {E = E}) in
      let inside : k < length (map (home_of {X = X} {E = E}) b.phases) = omega arith in
      ap (λ hs. set hs k (maybe.some (full x))) b.homes
      ∙ (set_before (map home_of b.phases) k (maybe.some (full x)) (end_home b.ending b.claim) inside
      ∙ ((λ i. all_left x b.phases k at one i ++ end_home (sym same i) (c i) ∷ [])
      ∙ kept_home x (list_of b.phases) (Some (item.End r))))

  last : (s : DeskState X E) (b : Gathering s) → get_elem? s.views id ≡ maybe.some holding → slice_index s.words 0 ≡ 1 → (hs : List (Home X E)) → hs ≡ replicate (n + 1) maybe.none
      → DeskHolds record { words = slice_set s.words 0 (less (slice_index s.words 0)); homes = hs; views = set s.views id (view.Arriving n r k (phase.Emptying (list_of b.phases))) }
  last s b at found hs empty =
      let f = arrives s b id n r k phase.Holding at in
      let word = left_word s.words (left_of b.phases) (claim_word b.claim) b.words in
      let one : left_of b.phases ≡ 1 = sym word ∙ found in
      let c = unclaimed b.phases b.claim f.3 one b.claimer in
      let inside = within s.views id _ at in
      inr (inr record {
        size = b.size;
        ending = b.ending;
        last = k;
        xs = list_of b.phases;
        given = false;
        long = length-map b.phases (left_in x) ∙ b.long;
        words = words_at_left s.words (left_of b.phases) (claim_word b.claim) less b.words ∙ (λ i. less (one i) ∷ claim_word (c i) ∷ []);
        homes = empty ∙ ap (λ m. replicate (m + 1) maybe.none) f.0;
        views = λ j v there. ⊎_elim
            (λ (e : (j ≡ id) × (view.Arriving n r k (phase.Emptying (list_of b.phases)) ≡ v)). subst (λ w. FullView b.size b.ending k (list_of b.phases) false j w) e.1 (f.0, f.1, e.0 ∙ f.2, (refl, refl, refl)))
            (λ (e : (j ≢ id) × (get_elem? s.views j ≡ maybe.some v)). full_view s b f.3 one f.2 inside j v e.0 (b.views j v e.1))
            (at_set s.views id j (view.Arriving n r k (phase.Emptying (list_of b.phases))) v there);
      })

  keeps_it : Allows DeskHolds slots id (holding, own) 0 less (keeps (holding, own))
  keeps_it = arrival_steps slots id n r k phase.Holding own 0 less (keeps (holding, own)) (λ last xs given h. h) owes
    where
      owes : Owes id n r k phase.Holding own 0 less (keeps (holding, own))
      owes s b at small =
          let found : ℕ = slice_index s.words 0 in
          let f = arrives s b id n r k phase.Holding at in
          let word = left_word s.words (left_of b.phases) (claim_word b.claim) b.words in
          let some = left_at b.phases k phase.Holding f.3 in
          let wide = left_within b.phases in
          let long = b.long in
          let size = f.0 in
          dite (ℕ_discrete found 1)
          (λ e.
          let one : left_of b.phases ≡ 1 = sym word ∙ e in
          let held : List (Held X E) = map full (list_of b.phases) ++ Some (item.End r) ∷ [] in
          let then = slots_then s b f.3 one f.1 in
          let count : length held ≡ n + 1 = length-append (map full (list_of b.phases)) (Some (item.End r) ∷ []) ∙ ap (λ m. m + 1) (length-map (list_of b.phases) (full {E = E}) ∙ (length-map b.phases (left_in x) ∙ (b.long ∙ sym f.0))) in
          let total : 0 + length held ≡ n + 1 = omega arith in
          let listed : length (list_of b.phases) ≡ n = length-map b.phases (left_in x) ∙ (b.long ∙ sym f.0) in
          let index : 0 + length (list_of b.phases) ≡ n = omega arith in
          let carried = all_carried 0 (list_of b.phases) [] (Some (item.End r)) refl in (
            view.Arriving n r k (phase.Emptying (list_of b.phases)),
            chain gives (take_all 0 held),
            (tt, subst (λ hs. Valid hs [] (take_all 0 held)) (sym then) (can_take 0 held [])),
            last s b at e _ (ap (λ hs. homes_after hs [] (take_all 0 held)) then ∙ (all_taken 0 held [] ∙ ap (λ m. replicate m maybe.none) total)),
            λ m q j y eq.
                let same = same_arrival n r k phase.Holding m q j phase.Holding own _ eq in
                let here = ap (first_held None) (ap (λ (z : Standing X E). z.1) eq) in
                let outcome : x ≡ y = cc in (
                  (λ ne. absurd (ne e)),
                  (λ _. (
                    list_of b.phases,
                    listed ∙ same.size,
                    ap (get_elem? (list_of b.phases)) (sym same.index) ∙ (at_map (left_in x) b.phases k phase.Holding f.3 ∙ ap (λ (z : X). maybe.some z) outcome),
                    (λ i. (view.Arriving (same.size i) (same.ending i) (same.index i) (phase.Emptying (list_of b.phases)), (carried ∙ (λ t. (index t, Some (item.End r)) ∷ full_slots (reverse (list_of b.phases)))) i))
                        ∙ (λ i. (view.Arriving m q j (phase.Emptying (list_of b.phases)), (same.size i, Some (item.End (same.ending i))) ∷ full_slots (reverse (list_of b.phases)))),
                  )),
                ),
          ))
          (λ ne.
          let above : 1 < found = omega arith in
          let below : found ≤ n = omega arith in (
            view.Arriving n r k (phase.Kept x found),
            gives,
            tt,
            more s b at small,
            λ m q j y eq.
                let same = same_arrival n r k phase.Holding m q j phase.Holding own _ eq in
                let here = ap (first_held None) (ap (λ (z : Standing X E). z.1) eq) in
                let outcome : x ≡ y = cc in (
                  (λ _. (above, subst (λ (l : ℕ). found ≤ l) same.size below, λ i. (view.Arriving (same.size i) (same.ending i) (same.index i) (phase.Kept (outcome i) found), []))),
                  (λ e. absurd (ne e)),
                ),
          ))

module _ {X E : Type 0} where
  pub arrival_takes_slot : (slots id n : ℕ) (r : Ending X E) (k : ℕ) (me : Standing X E) → me ≡ (view.Arriving n r k phase.Ready, []) → Allows DeskHolds slots id me 0 (λ w. w) (takes_slot me)
  arrival_takes_slot slots id n r k me is = subst (λ m. Allows DeskHolds slots id m 0 (λ w. w) (takes_slot m)) (sym is) (takes_it slots id n r k)

  pub arrival_keeps : (slots id n : ℕ) (r : Ending X E) (k : ℕ) (x : X) (me : Standing X E) → me ≡ (view.Arriving n r k phase.Holding, (k, Some (item.Outcome x)) ∷ []) → Allows DeskHolds slots id me 0 less (keeps me)
  arrival_keeps slots id n r k x me is = subst (λ m. Allows DeskHolds slots id m 0 less (keeps m)) (sym is) (keeps_it slots id n r k x)
