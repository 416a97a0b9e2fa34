-- What a desk's table says once it is closed.
use Rattle.std.proofs.Common.{◌≡◌, ◌≢◌, ℕ, zero, suc, ◌+◌, ◌<◌, ◌≤◌, inl, inr, Bool, true, false, List, [], ◌∷◌, ◌++◌, map, length, get_or, set, take, drop, refl, sym, ap, ◌∙◌, subst, Option, Some, None, arith}
use Rattle.std.proofs.lemmas.List.{length-map}
use Rattle.std.specs.Prelude.{slice_index, option_to_list, is_none, IsNone, IsSome}
use mathlib.Core.Option as maybe
use mathlib.Core.Option.{some-injective, some-ne-none}
use mathlib.Core.Logic.{dite}
use native.Mathlib.Decide.{ℕ_discrete}
use lib.ListN.{get_elem?}
use Rattle.atomic_table.specs.Table.{Final, Seen}
use Rattle.atomic_table.proofs.Lists.{at_last, drop_at}
use Rattle.atomic_table.specs.declared.owned.Closed.{Closed}
use Rattle.std.specs.Slots.{slots_len, slots_filled}
use Rattle.collect_ops.specs.declared.view.Ending.{Ending}
use Rattle.collect_ops.specs.declared.view.Item.TheVariants as item
use Rattle.collect_ops.specs.declared.view.Phase.{Phase}
use Rattle.collect_ops.specs.declared.view.Phase.TheVariants as phase
use Rattle.collect_ops.specs.declared.view.View.{View}
use Rattle.collect_ops.specs.declared.view.View.TheVariants as view
use Rattle.collect_ops.specs.Steps.{IsLast, Standing}
use Rattle.collect_ops.specs.Views.{waits, end_in}
use Rattle.collect_ops.specs.Rule.{Held, DeskState, Claim, free, out, back, claim_word, left_of, ClaimFits, home_of, end_home, DeskHolds}
use Rattle.collect_ops.specs.Closing.{IsOf, IsUntouched, Closes, ClosesUntouched, Rests, kept_in_slots, kept_from, held_outcome, held_end, unclaimed, uncounted}
use Rattle.collect_ops.proofs.Lists.{within, left_word, claim_word_is}
use Rattle.collect_ops.proofs.Gather.{home_at}
use Rattle.collect_ops.proofs.Dealing.{none_before}
use Rattle.collect_ops.proofs.Claiming.{nobody as nobody_claimed}

module _ {X : Type 0} where
  -- all arrivals are ready
  all_ready : (ps : List (Phase X)) → ((k : ℕ) → k < length ps → get_elem? ps k ≡ maybe.some phase.Ready) → left_of ps ≡ length ps
  all_ready [] h = refl
  all_ready (p ∷ ps) h =
      let first : waits p ≡ 1 = ap waits (some-injective _ _ (h 0 (omega arith))) in
      let rest = all_ready ps (λ k lt. h (suc k) (omega arith)) in
      omega arith

  nobody : (ps : List (Phase X)) (c : Claim) → ((k : ℕ) → k < length ps → get_elem? ps k ≡ maybe.some phase.Ready) → ClaimFits ps c → c ≡ free
  nobody ps free h fits = refl
  nobody ps (out k) h fits = let same = some-injective _ _ (sym (h k (within ps k _ fits)) ∙ fits) in cc
  nobody ps (back k) h fits = let same = some-injective _ _ (sym (h k (within ps k _ fits)) ∙ fits) in cc

module _ {X E : Type 0} where
  pub finally : (F G : DeskState X E → Type 0) (words : List ℕ) (slots : List (Held X E)) → ((s : DeskState X E) → F s → G s) → Final F words slots → Final G words slots
  finally F G words slots h f = (f.0, h f.0 f.1, f.2, f.3, f.4)

  pub owner_is : (id n : ℕ) (r : Ending X E) (s : DeskState X E) → Seen DeskHolds id (view.Owner n r) s → IsOf n r s
  owner_is id n r s (inl b, at) = absurd (none_before s b id _ (λ h. cc) (λ h. cc) at)
  owner_is id n r s (inr (inl b), at) = let f = b.views id _ at in inl (b, sym f.0, sym f.1)
  owner_is id n r s (inr (inr b), at) = let f = b.views id _ at in inr (b, sym f.0, sym f.1)

  pub dealer_is : (id n d : ℕ) (r : Ending X E) (s : DeskState X E) → Seen DeskHolds id (view.Dealing n r d) s → IsOf n r s
  dealer_is id n d r s (inl b, at) = absurd (none_before s b id _ (λ h. cc) (λ h. cc) at)
  dealer_is id n d r s (inr (inl b), at) = let f = b.views id _ at in inl (b, sym f.0, sym f.1)
  dealer_is id n d r s (inr (inr b), at) = let f = b.views id _ at in inr (b, sym f.0, sym f.1)

  -- nobody has arrived where no arrival was dealt
  pub untouched : (id n : ℕ) (r : Ending X E) (words : List ℕ) (slots : List (Held X E)) → 1 ≤ n → Final (Seen DeskHolds id (view.Dealing n r 0)) words slots → IsUntouched n r words slots
  untouched id n r words slots some (s, (inl b, at), ws, long, match) = absurd (none_before s b id _ (λ h. cc) (λ h. cc) at)
  untouched id n r words slots some (s, (inr (inl b), at), ws, wide, match) =
      let v = b.views id _ at in
      let size = v.0 in
      let seats = v.3 in
      let long = b.long in
      let ready : (k : ℕ) → k < length b.phases → get_elem? b.phases k ≡ maybe.some phase.Ready = λ k lt. b.undealt k (omega arith) (omega arith) in
      let count = all_ready b.phases ready in
      let all : left_of b.phases ≡ n = omega arith in
      let none = nobody b.phases b.claim ready b.claimer in
      let broad : length (map (home_of {X = X} {E = E}) b.phases) ≡ n = length-map b.phases (home_of {X = X} {E = E}) ∙ (b.long ∙ sym v.0) in
      record {
        words_are = sym ws ∙ (b.words ∙ (λ i. all i ∷ claim_word (none i) ∷ []));
        empty = λ k lt. match k None (home_at s b k phase.Ready (ready k (omega arith)));
        ending = match n (Some (item.End r)) (ap (λ hs. get_elem? hs n) b.homes ∙ (at_last (map home_of b.phases) (end_home b.ending b.claim) n broad ∙ (λ i. maybe.some (end_home (sym v.1 i) (none i)))));
      }
  untouched id n r words slots some (s, (inr (inr b), at), ws, long, match) =
      let v = b.views id _ at in
      let size = v.0 in
      let none = v.2 in
      absurd (omega arith)

  pub by_owner : (id n : ℕ) (r : Ending X E) (v : View X E) (words : List ℕ) (slots : List (Held X E)) → v ≡ view.Owner n r → Final (Seen DeskHolds id v) words slots → Closes n (end_in v) words slots
  by_owner id n r v words slots is f = record {
    ending = r;
    same = ap end_in is;
    last = finally (Seen DeskHolds id (view.Owner n r)) (IsOf n r) words slots (owner_is id n r) (subst (λ w. Final (Seen DeskHolds id w) words slots) is f);
  }

  pub by_dealer : (id n : ℕ) (r : Ending X E) (v : View X E) (end : Option E) (words : List ℕ) (slots : List (Held X E)) → end ≡ Some r.end → v ≡ view.Dealing n r 0 → Final (Seen DeskHolds id v) words slots → Closes n end words slots
  by_dealer id n r v end words slots same is f = record {
    ending = r;
    same = same;
    last = finally (Seen DeskHolds id (view.Dealing n r 0)) (IsOf n r) words slots (dealer_is id n 0 r) (subst (λ w. Final (Seen DeskHolds id w) words slots) is f);
  }

  pub by_dealer_untouched : (id n : ℕ) (r : Ending X E) (v : View X E) (end : Option E) (words : List ℕ) (slots : List (Held X E)) → 1 ≤ n → end ≡ Some r.end → v ≡ view.Dealing n r 0 → Final (Seen DeskHolds id v) words slots → ClosesUntouched n end words slots
  by_dealer_untouched id n r v end words slots some same is f = record {
    ending = r;
    same = same;
    untouched = untouched id n r words slots some (subst (λ w. Final (Seen DeskHolds id w) words slots) is f);
  }

  -- a slot that holds this, and the outcomes from it on
  take_here : (size k : ℕ) (slots : List (Held X E)) (h : Held X E) → k < size → get_elem? slots k ≡ maybe.some h → get_elem? (take size slots) k ≡ maybe.some h
  take_here zero k slots h lt at = absurd (omega arith)
  take_here (suc size) k [] h lt at = absurd (some-ne-none h (sym at))
  take_here (suc size) zero (x ∷ xs) h lt at = at
  take_here (suc size) (suc k) (x ∷ xs) h lt at = take_here size k xs h (omega arith) at

  one_slot : (h : Held X E) (hs : List (Held X E)) → kept_in_slots (h ∷ hs) ≡ option_to_list (held_outcome h) ++ kept_in_slots hs
  one_slot None hs = refl
  one_slot (Some (item.Outcome x)) hs = refl
  one_slot (Some (item.End r)) hs = refl

  pub next_slot : (size k : ℕ) (slots : List (Held X E)) (h : Held X E) → k < size → get_elem? slots k ≡ maybe.some h → kept_from k size slots ≡ option_to_list (held_outcome h) ++ kept_from (k + 1) size slots
  next_slot size k slots h lt at =
      let e : suc k ≡ k + 1 = omega arith in
      ap kept_in_slots (drop_at (take size slots) k h (take_here size k slots h lt at)) ∙ (one_slot h (drop (suc k) (take size slots)) ∙ ap (λ n. option_to_list (held_outcome h) ++ kept_from n size slots) e)

  none_beyond : (size : ℕ) (slots : List (Held X E)) → drop size (take size slots) ≡ []
  none_beyond zero slots = refl
  none_beyond (suc size) [] = refl
  none_beyond (suc size) (x ∷ xs) = none_beyond size xs

  pub none_left : (size k : ℕ) (slots : List (Held X E)) → k ≡ size → kept_from k size slots ≡ []
  none_left size k slots e = ap (λ n. kept_from n size slots) e ∙ ap kept_in_slots (none_beyond size slots)

abbrev get_or_false : List Bool → ℕ → Bool
get_or_false fs k = get_or fs k false

-- what a test list says once one place is emptied
pub emptied_here : (fs : List Bool) (k : ℕ) → get_or (set fs k false) k false ≡ false
emptied_here [] k = refl
emptied_here (x ∷ xs) zero = refl
emptied_here (x ∷ xs) (suc k) = emptied_here xs k

pub emptied_else : (fs : List Bool) (i k : ℕ) → k ≢ i → get_or (set fs i false) k false ≡ get_or fs k false
emptied_else [] i k ne = refl
emptied_else (x ∷ xs) zero zero ne = absurd (ne refl)
emptied_else (x ∷ xs) zero (suc k) ne = refl
emptied_else (x ∷ xs) (suc i) zero ne = refl
emptied_else (x ∷ xs) (suc i) (suc k) ne = emptied_else xs i k (λ e. ne (ap suc e))

module _ {X E A : Type 0} where
  -- one more slot is taken
  pub rests_next : (k size : ℕ) (before after : Closed (Held X E) A) → Rests k size before → k < size → slots_filled after.slots ≡ set (slots_filled before.slots) k false → slots_len after.slots ≡ slots_len before.slots → Rests (k + 1) size after
  rests_next k size before after r lt filled long = record {
    long = long ∙ r.long;
    within = omega arith;
    full = λ j le below. let ne : j ≢ k = λ e. absurd (omega arith) in ap (λ fs. get_or fs j false) filled ∙ (emptied_else (slots_filled before.slots) k j ne ∙ r.full j (omega arith) below);
    taken = λ j below. ap (λ fs. get_or fs j false) filled ∙ dite (ℕ_discrete j k)
        (λ e. ap (get_or_false (set (slots_filled before.slots) k false)) e ∙ emptied_here (slots_filled before.slots) k)
        (λ ne. emptied_else (slots_filled before.slots) k j ne ∙ r.taken j (omega arith));
    end = let ne : size ≢ k = λ e. absurd (omega arith) in ap (λ fs. get_or fs size false) filled ∙ (emptied_else (slots_filled before.slots) k size ne ∙ r.end);
  }

module _ {X E : Type 0} where
  abbrev no_slots : List (Held X E)
  no_slots = []

  -- the end is in its slot where nobody had claimed and some were left
  pub end_there : (n : ℕ) (end : Option E) (words : List ℕ) (slots : List (Held X E)) (c : Closes n end words slots) → slice_index words 1 ≡ 0 → slice_index words 0 ≢ 0 → get_elem? slots n ≡ maybe.some (Some (item.End c.ending))
  end_there n end words slots c claimed left = from c.last.0 c.last.1 c.last.2 c.last.4
    where
      from : (s : DeskState X E) → IsOf n c.ending s → s.words ≡ words → ((k : ℕ) (y : Held X E) → get_elem? s.homes k ≡ maybe.some (maybe.some y) → get_elem? slots k ≡ maybe.some y) → get_elem? slots n ≡ maybe.some (Some (item.End c.ending))
      from s (inl (b, size, ending)) ws match =
          let none = nobody_claimed b.claim (sym (claim_word_is s.words _ _ b.words) ∙ (ap (λ (l : List ℕ). slice_index l 1) ws ∙ claimed)) in
          let wide : length (map (home_of {X = X} {E = E}) b.phases) ≡ n = length-map b.phases (home_of {X = X} {E = E}) ∙ (b.long ∙ size) in
          match n (Some (item.End c.ending)) (ap (λ hs. get_elem? hs n) b.homes ∙ (at_last (map home_of b.phases) (end_home b.ending b.claim) n wide ∙ (λ i. maybe.some (end_home (ending i) (none i)))))
      from s (inr (b, size, ending)) ws match = absurd (left (ap (λ (l : List ℕ). slice_index l 0) (sym ws ∙ b.words)))

  kept_counts : (ps : List (Phase X)) (hs : List (Held X E)) → ((k : ℕ) (x : X) (found : ℕ) → get_elem? ps k ≡ maybe.some (phase.Kept x found) → get_elem? hs k ≡ maybe.some (Some (item.Outcome x)))
      → length ps ≤ length (kept_in_slots hs) + left_of ps
  kept_counts [] hs there = omega arith
  kept_counts (p ∷ ps) [] there =
      let rest = kept_counts ps [] (λ k x found at. there (suc k) x found at) in
      let one = counted p (λ x found e. there 0 x found (ap (λ (z : Phase X). maybe.some z) e)) in
      omega arith
    where
      counted : (q : Phase X) → ((x : X) (found : ℕ) → q ≡ phase.Kept x found → get_elem? no_slots 0 ≡ maybe.some (Some (item.Outcome x))) → waits q ≡ 1
      counted phase.Ready h = refl
      counted phase.Holding h = refl
      counted (phase.Kept x found) h = absurd (some-ne-none _ (sym (h x found refl)))
      counted phase.Lost h = refl
      counted phase.Claiming h = refl
      counted phase.Claimed h = refl
      counted (phase.Emptying xs) h = refl
      counted (phase.Emptied xs) h = refl
      counted (phase.Told xs j x) h = refl
  kept_counts (p ∷ ps) (h ∷ hs) there =
      let rest = kept_counts ps hs (λ k x found at. there (suc k) x found at) in
      let one = counted p (λ x found e. some-injective _ _ (there 0 x found (ap (λ (z : Phase X). maybe.some z) e))) in
      omega arith
    where
      more : (g : Held X E) → length (kept_in_slots hs) ≤ length (kept_in_slots (g ∷ hs))
      more None = omega arith
      more (Some (item.Outcome x)) = omega arith
      more (Some (item.End r)) = omega arith

      counted : (q : Phase X) → ((x : X) (found : ℕ) → q ≡ phase.Kept x found → h ≡ Some (item.Outcome x)) → length (kept_in_slots hs) + 1 ≤ length (kept_in_slots (h ∷ hs)) + waits q
      counted phase.Ready e = let m = more h in omega arith
      counted phase.Holding e = let m = more h in omega arith
      counted (phase.Kept x found) e = subst (λ (g : Held X E). length (kept_in_slots hs) + 1 ≤ length (kept_in_slots (g ∷ hs)) + 0) (sym (e x found refl)) (omega arith)
      counted phase.Lost e = let m = more h in omega arith
      counted phase.Claiming e = let m = more h in omega arith
      counted phase.Claimed e = let m = more h in omega arith
      counted (phase.Emptying xs) e = let m = more h in omega arith
      counted (phase.Emptied xs) e = let m = more h in omega arith
      counted (phase.Told xs j x) e = let m = more h in omega arith

  -- as many outcomes come out as were kept
  pub kept_back : (n : ℕ) (end : Option E) (words : List ℕ) (slots : List (Held X E)) → Closes n end words slots → slice_index words 0 ≢ 0 → n ≤ length (kept_from 0 n slots) + slice_index words 0
  kept_back n end words slots c left = from c.last.0 c.last.1 c.last.2 c.last.4
    where
      from : (s : DeskState X E) → IsOf n c.ending s → s.words ≡ words → ((k : ℕ) (y : Held X E) → get_elem? s.homes k ≡ maybe.some (maybe.some y) → get_elem? slots k ≡ maybe.some y) → n ≤ length (kept_from 0 n slots) + slice_index words 0
      from s (inl (b, size, ending)) ws match =
          let long = b.long in
          let count = kept_counts b.phases (take n slots) (λ k x found at. let below = within b.phases k _ at in take_here n k slots (Some (item.Outcome x)) (omega arith) (match k (Some (item.Outcome x)) (home_at s b k (phase.Kept x found) at))) in
          let word : left_of b.phases ≡ slice_index words 0 = sym (left_word s.words _ _ b.words) ∙ ap (λ (l : List ℕ). slice_index l 0) ws in
          omega arith
      from s (inr (b, size, ending)) ws match = absurd (left (ap (λ (l : List ℕ). slice_index l 0) (sym ws ∙ b.words)))

  -- nothing comes out where nobody has arrived
  none_kept : (size : ℕ) (slots : List (Held X E)) → ((k : ℕ) → k < size → get_elem? slots k ≡ maybe.some None) → kept_in_slots (take size slots) ≡ []
  none_kept zero slots h = refl
  none_kept (suc size) [] h = refl
  none_kept (suc size) (x ∷ xs) h = ap (λ (y : Held X E). kept_in_slots (y ∷ take size xs)) (some-injective _ _ (h 0 (omega arith))) ∙ none_kept size xs (λ k lt. h (suc k) (omega arith))

  pub nothing_kept : (n : ℕ) (end : Option E) (words : List ℕ) (slots : List (Held X E)) → ClosesUntouched n end words slots → kept_from 0 n slots ≡ []
  nothing_kept n end words slots c = none_kept n slots c.untouched.empty

-- the two words of a closed desk
pub two_words : {X E : Type 0} (n : ℕ) (end : Option E) (words : List ℕ) (slots : List (Held X E)) → Closes n end words slots → words ≡ slice_index words 0 ∷ slice_index words 1 ∷ []
two_words n end words slots c = from c.last.0 c.last.1 c.last.2
  where
    from : (s : DeskState _ _) → IsOf n c.ending s → s.words ≡ words → words ≡ slice_index words 0 ∷ slice_index words 1 ∷ []
    from s (inl (b, size, ending)) ws = subst (λ (l : List ℕ). l ≡ slice_index l 0 ∷ slice_index l 1 ∷ []) (sym b.words ∙ ws) refl
    from s (inr (b, size, ending)) ws = subst (λ (l : List ℕ). l ≡ slice_index l 0 ∷ slice_index l 1 ∷ []) (sym b.words ∙ ws) refl

-- the next outcome is missing exactly where nothing is left
pub none_exactly : {A : Type 0} (o : Option A) (before after : List A) → before ≡ option_to_list o ++ after → (IsNone o → after ≡ []) → (IsNone o → before ≡ []) × (before ≡ [] → IsNone o)
none_exactly None before after e h = ((λ none. e ∙ h none), λ _. refl)
none_exactly (Some x) before after e h = ((λ none. let clash : true ≡ false = none in cc), λ none. let clash : x ∷ after ≡ [] = sym e ∙ none in cc)

pub there_is : {A : Type 0} (o : Option A) → is_none o ≡ false → IsSome o
there_is None e = let clash : true ≡ false = e in cc
there_is (Some a) e = refl

-- every slot is taken
pub all_taken : {X E A : Type 0} (size at : ℕ) (closed : Closed (Held X E) A) → Rests at size closed → at ≡ size → (k : ℕ) → k < slots_len closed.slots → get_or (slots_filled closed.slots) k false ≡ false
all_taken size at closed r e k lt =
    let long = r.long in
    dite (ℕ_discrete k size)
    (λ same. ap (get_or_false (slots_filled closed.slots)) same ∙ r.end)
    (λ ne. r.taken k (omega arith))

-- the end, and the outcomes, by the two words
pub no_end_counted : {E : Type 0} (left claimed : ℕ) (end : Option E) → left ≡ 0 → unclaimed left claimed end ≡ None
no_end_counted left claimed end e = ap (λ n. unclaimed n claimed end) e

pub no_end_claimed : {E : Type 0} (left claimed : ℕ) (end : Option E) → claimed ≢ 0 → unclaimed left claimed end ≡ None
no_end_claimed zero claimed end ne = refl
no_end_claimed (suc left) zero end ne = absurd (ne refl)
no_end_claimed (suc left) (suc claimed) end ne = refl

pub same_end : {X E : Type 0} (n : ℕ) (slots : List (Held X E)) (h k : Held X E) → get_elem? slots n ≡ maybe.some h → get_elem? slots n ≡ maybe.some k → held_end h ≡ held_end k
same_end n slots h k e f = ap held_end (some-injective h k (sym e ∙ f))

pub end_unclaimed : {E : Type 0} (left claimed : ℕ) (end : Option E) → left ≢ 0 → claimed ≡ 0 → unclaimed left claimed end ≡ end
end_unclaimed zero claimed end ne e = absurd (ne refl)
end_unclaimed (suc left) claimed end ne e = ap (λ n. unclaimed (suc left) n end) e

pub none_counted : {X : Type 0} (left : ℕ) (outcomes : List X) → left ≡ 0 → uncounted left outcomes ≡ []
none_counted left outcomes e = ap (λ n. uncounted n outcomes) e

pub all_uncounted : {X : Type 0} (left : ℕ) (outcomes : List X) → left ≢ 0 → uncounted left outcomes ≡ outcomes
all_uncounted zero outcomes ne = absurd (ne refl)
all_uncounted (suc left) outcomes ne = refl

module _ {X E : Type 0} where
  -- where the last arrival has given its slots back nobody is left
  emptied_word : (id n k : ℕ) (r : Ending X E) (xs : List X) (s : DeskState X E) → Seen DeskHolds id (view.Arriving n r k (phase.Emptied xs)) s → slice_index s.words 0 ≡ 0
  emptied_word id n k r xs s (inl b, at) = absurd (none_before s b id _ (λ h. cc) (λ h. cc) at)
  emptied_word id n k r xs s (inr (inl b), at) = absurd (b.fits k (phase.Emptied xs) (b.views id _ at).3)
  emptied_word id n k r xs s (inr (inr b), at) = ap (λ (l : List ℕ). slice_index l 0) b.words

  pub nobody_left : (id : ℕ) (m : Standing X E) (words : List ℕ) (slots : List (Held X E)) → IsLast m → Final (Seen DeskHolds id m.0) words slots → slice_index words 0 ≡ 0
  nobody_left id m words slots (n, r, k, xs, is) f =
      let seen : Seen DeskHolds id (view.Arriving n r k (phase.Emptied xs)) f.0 = subst (λ (v : View X E). Seen DeskHolds id v f.0) (ap (λ (s : Standing X E). s.0) is) f.1 in
      sym (ap (λ (l : List ℕ). slice_index l 0) f.2) ∙ emptied_word id n k r xs f.0 seen
