-- What stands in a home when it is closed.
use Rattle.std.proofs.Common.{◌≡◌, ℕ, zero, suc, ◌⊎◌, inl, inr, ⊎_elim, List, [], ◌∷◌, length, Option, Some, None, IsSome, is_none, false, refl, sym, ap, ◌∙◌, subst, arith}
use mathlib.Core.Option as maybe
use mathlib.Core.Option.{some-injective, some-ne-none}
use lib.ListN.{get_elem?}
use Rattle.atomic_table.specs.Table.{Final, Seen}
use Rattle.core_interrupt.specs.declared.state.State.{State}
use Rattle.core_interrupt.specs.declared.state.State.TheVariants as state
use Rattle.core_interrupt.specs.declared.history.RaiseEvent.{RaiseEvent}
use Rattle.core_interrupt.specs.declared.history.RaiseEvent.TheVariants as raised
use Rattle.core_interrupt.specs.declared.view.HearerEnd.{HearerEnd}
use Rattle.core_interrupt.specs.declared.view.Item.TheVariants as item
use Rattle.core_interrupt.specs.declared.view.Hearing.{Hearing}
use Rattle.core_interrupt.specs.declared.view.Hearing.TheVariants as hearing
use Rattle.core_interrupt.specs.declared.view.Raising.{Raising}
use Rattle.core_interrupt.specs.declared.view.Raising.TheVariants as raising
use Rattle.core_interrupt.specs.declared.view.View.{View}
use Rattle.core_interrupt.specs.declared.view.View.TheVariants as view
use Rattle.core_interrupt.specs.State.{code_of}
use Rattle.core_interrupt.specs.History.{state_from}
use Rattle.core_interrupt.specs.Views.{Held, Place, hears_at_end, hears_of, Fit}
use Rattle.core_interrupt.specs.Rule.{TableState, words_of, homes_of, Unpaired, Paired, Together, InterruptHolds}
use Rattle.core_interrupt.specs.Closing.{IsEnd, AreUntouched, IsUntouched, handler_among, object_among}
use Rattle.core_interrupt.specs.declared.close.Remains.{Remains}
use Rattle.core_interrupt.proofs.Sides.{of_two}
use Rattle.core_interrupt.proofs.RaiserSteps.{end_state}

-- a list of two
pub two_items : {A : Type 0} (xs : List A) (a b : A) → length xs ≡ 2 → get_elem? xs 0 ≡ maybe.some a → get_elem? xs 1 ≡ maybe.some b → xs ≡ a ∷ b ∷ []
two_items [] a b long first second = absurd (some-ne-none a (sym first))
two_items (x ∷ []) a b long first second = absurd (some-ne-none b (sym second))
two_items (x ∷ y ∷ []) a b long first second = λ k. some-injective x a first k ∷ some-injective y b second k ∷ []
two_items (x ∷ y ∷ z ∷ xs) a b long first second = absurd (omega arith)

pub one_item : {A : Type 0} (xs : List A) (a b : A) → xs ≡ a ∷ [] → get_elem? xs 0 ≡ maybe.some b → a ≡ b
one_item xs a b is at = some-injective a b (sym (ap (λ l. get_elem? l 0) is) ∙ at)

only_empty : (s : State) → code_of s ≡ 0 → s ≡ state.Empty
only_empty state.Empty code = refl
only_empty state.HasHandler code = absurd (cc)
only_empty state.HasObject code = absurd (cc)
only_empty state.Called code = absurd (cc)
only_empty state.Ended code = absurd (cc)

-- two things at one place are one
pub at_one_place : {A : Type 0} (xs : List A) (i : ℕ) (a b : A) → get_elem? xs i ≡ maybe.some a → get_elem? xs i ≡ maybe.some b → b ≡ a
at_one_place xs i a b e f = some-injective b a (sym f ∙ e)

pub there_is : {A : Type 0} (o : Option A) → is_none o ≡ false → IsSome o
there_is None e = absurd (cc)
there_is (Some a) e = refl

module _ {H I : Type 0} where
  -- the word stands for a state, and there are two slots
  pub record AtEnd (s : TableState H I) : Type 0 where
    pub now : State
    pub word : s.words ≡ code_of now ∷ []
    pub slots : length s.homes ≡ 2

  stands_at_end : (s : TableState H I) → InterruptHolds s → AtEnd s
  stands_at_end s (inl u) = record { now = state.Empty; word = u.words; slots = ap length u.homes }
  stands_at_end s (inr (inl b)) = record { now = state_from (hears_of b.p) b.raises; word = b.words; slots = ap length b.homes }
  stands_at_end s (inr (inr t)) = record { now = state_from (hears_of t.p) t.raises; word = t.words; slots = ap length t.homes }

  -- the word of a closed home stands for a state
  pub has_state : (ws : List ℕ) (xs : List (Held H I)) → Final InterruptHolds ws xs → (w : ℕ) → get_elem? ws 0 ≡ maybe.some w → (s : State) × (w ≡ code_of s)
  has_state ws xs final w at =
      let e = stands_at_end final.0 final.1 in
      (e.now, sym (one_item ws (code_of e.now) w (sym final.2 ∙ e.word) at))

  -- what the slots of a closed home hold, as an end of the home
  pub ended_as : (ws : List ℕ) (xs : List (Held H I)) → Final InterruptHolds ws xs → (w : ℕ) (a b : Held H I) → get_elem? ws 0 ≡ maybe.some w → get_elem? xs 0 ≡ maybe.some a → get_elem? xs 1 ≡ maybe.some b → (s : State) → w ≡ code_of s → IsEnd s a b
  ended_as ws xs final w a b at first second s is =
      let e = stands_at_end final.0 final.1 in
      let words : ws ≡ code_of s ∷ [] = sym final.2 ∙ e.word ∙ ap (λ (n : ℕ). n ∷ []) (one_item ws (code_of e.now) w (sym final.2 ∙ e.word) at ∙ is) in
      let slots : xs ≡ a ∷ b ∷ [] = two_items xs a b (sym final.3 ∙ e.slots) first second in
      record { final = subst (λ (z : List ℕ × List (Held H I)). Final InterruptHolds z.0 z.1) (λ k. (words k, slots k)) final }

  -- a home whose pair nobody has taken
  pub untouched : (id : ℕ) (v : View H I) → v ≡ view.Pair → (ws : List ℕ) (xs : List (Held H I)) → Final (Seen InterruptHolds id v) ws xs → AreUntouched ws xs
  untouched id v e ws xs final = at_pair final.1.0
    where
      at_pair : InterruptHolds final.0 → AreUntouched ws xs
      at_pair (inl u) = (
        sym final.2 ∙ u.words,
        two_items xs None None (sym final.3 ∙ ap length u.homes) (final.4 0 None (ap (λ hs. get_elem? hs 0) u.homes)) (final.4 1 None (ap (λ hs. get_elem? hs 1) u.homes)),
      )
      at_pair (inr (inl b)) = absurd (⊎_elim (λ (r : (id ≡ 0) × (view.Pair ≡ view.Hearer b.p)). let f = r.1 in cc) (λ (r : (id ≡ 1) × (view.Pair ≡ view.Raiser b.r b.raises)). let f = r.1 in cc)
          (of_two id (view.Hearer b.p) (view.Raiser b.r b.raises) view.Pair (sym (ap (λ vs. get_elem? vs id) b.views) ∙ (final.1.1 ∙ ap (λ x. maybe.some x) e))))
      at_pair (inr (inr t)) = absurd (⊎_elim (λ (r : (id ≡ 0) × (view.Pair ≡ view.Both t.p t.raises)). let f = r.1 in cc) (λ (r : (id ≡ 1) × (view.Pair ≡ view.Spent)). let f = r.1 in cc)
          (of_two id (view.Both t.p t.raises) view.Spent view.Pair (sym (ap (λ vs. get_elem? vs id) t.views) ∙ (final.1.1 ∙ ap (λ x. maybe.some x) e))))

  not_at_end : (e : HearerEnd H I) (es : List (RaiseEvent H I)) (n : ℕ) → code_of (state_from (hears_at_end e) es) ≡ n → n ≡ 4
  not_at_end e es n is = sym is ∙ ap code_of (end_state e es)

  -- In HasHandler the handler is at home.
  handler_home : (p : Hearing H I) (r : Raising) (es : List (RaiseEvent H I)) → Fit p r es → code_of (state_from (hears_of p) es) ≡ 1 → (h : H) × (get_elem? (homes_of p r es) 0 ≡ maybe.some (maybe.some (Some (item.Handler h))))
  handler_home hearing.Ready r [] fit is = absurd (cc)
  handler_home hearing.Ready r (x ∷ es) fit is = absurd (cc)
  handler_home hearing.Holding r [] fit is = absurd (cc)
  handler_home hearing.Holding r (x ∷ es) fit is = absurd (cc)
  handler_home hearing.Aware r [] fit is = absurd (cc)
  handler_home hearing.Aware r (x ∷ es) fit is = absurd (cc)
  handler_home (hearing.Set h) raising.Resting [] fit is = (h, refl)
  handler_home (hearing.Set h) raising.Holding [] fit is = (h, refl)
  handler_home (hearing.Set h) raising.Aware [] fit is = (h, refl)
  handler_home (hearing.Set h) raising.Calling [] fit is = absurd fit.hand
  handler_home (hearing.Set h) r (x ∷ es) fit is = absurd (cc)
  handler_home (hearing.Calling h i) r [] fit is = absurd fit.calls
  handler_home (hearing.Calling h i) r (x ∷ es) fit is = absurd (cc)
  handler_home (hearing.Called h i) r [] fit is = absurd fit.calls
  handler_home (hearing.Called h i) r (x ∷ es) fit is = absurd (cc)
  handler_home (hearing.Ending e) r es fit is = let four = not_at_end e es 1 is in absurd (cc)
  handler_home (hearing.Ended e) r es fit is = let four = not_at_end e es 1 is in absurd (cc)

  -- In HasObject the object is at home.
  object_home : (p : Hearing H I) (r : Raising) (es : List (RaiseEvent H I)) → Fit p r es → code_of (state_from (hears_of p) es) ≡ 2 → (i : I) × (get_elem? (homes_of p r es) 1 ≡ maybe.some (maybe.some (Some (item.Object i))))
  object_home hearing.Ready r [] fit is = absurd (cc)
  object_home hearing.Ready raising.Resting (raised.Kept i ∷ es) fit is = (i, refl)
  object_home hearing.Ready raising.Holding (raised.Kept i ∷ es) fit is = let none = fit.hand in absurd (cc)
  object_home hearing.Ready raising.Aware (raised.Kept i ∷ es) fit is = absurd fit.hand.1
  object_home hearing.Ready raising.Calling (raised.Kept i ∷ es) fit is = absurd fit.hand
  object_home hearing.Ready r (raised.Called k i ∷ es) fit is = absurd fit.calls
  object_home hearing.Ready r (raised.Late i t ∷ es) fit is = absurd fit.calls
  object_home hearing.Ready r (raised.Gone i ∷ es) fit is = absurd fit.calls
  object_home hearing.Holding r [] fit is = absurd (cc)
  object_home hearing.Holding raising.Resting (raised.Kept i ∷ es) fit is = (i, refl)
  object_home hearing.Holding raising.Holding (raised.Kept i ∷ es) fit is = let none = fit.hand in absurd (cc)
  object_home hearing.Holding raising.Aware (raised.Kept i ∷ es) fit is = absurd fit.hand.1
  object_home hearing.Holding raising.Calling (raised.Kept i ∷ es) fit is = absurd fit.hand
  object_home hearing.Holding r (raised.Called k i ∷ es) fit is = absurd fit.calls
  object_home hearing.Holding r (raised.Late i t ∷ es) fit is = absurd fit.calls
  object_home hearing.Holding r (raised.Gone i ∷ es) fit is = absurd fit.calls
  object_home hearing.Aware r [] fit is = absurd (cc)
  object_home hearing.Aware raising.Resting (raised.Kept i ∷ es) fit is = (i, refl)
  object_home hearing.Aware raising.Holding (raised.Kept i ∷ es) fit is = let none = fit.hand in absurd (cc)
  object_home hearing.Aware raising.Aware (raised.Kept i ∷ es) fit is = absurd fit.hand.1
  object_home hearing.Aware raising.Calling (raised.Kept i ∷ es) fit is = absurd fit.hand
  object_home hearing.Aware r (raised.Called k i ∷ es) fit is = absurd fit.calls
  object_home hearing.Aware r (raised.Late i t ∷ es) fit is = absurd fit.calls
  object_home hearing.Aware r (raised.Gone i ∷ es) fit is = absurd fit.calls
  object_home (hearing.Set h) r [] fit is = absurd (cc)
  object_home (hearing.Set h) r (x ∷ es) fit is = absurd (cc)
  object_home (hearing.Calling h j) r [] fit is = absurd (cc)
  object_home (hearing.Calling h j) r (x ∷ es) fit is = absurd (cc)
  object_home (hearing.Called h j) r [] fit is = absurd (cc)
  object_home (hearing.Called h j) r (x ∷ es) fit is = absurd (cc)
  object_home (hearing.Ending e) r es fit is = let four = not_at_end e es 2 is in absurd (cc)
  object_home (hearing.Ended e) r es fit is = let four = not_at_end e es 2 is in absurd (cc)

  -- a closed home in HasHandler has its handler in the first slot, and one in HasObject its object in the second
  pub handler_there : (ws : List ℕ) (xs : List (Held H I)) → Final InterruptHolds ws xs → get_elem? ws 0 ≡ maybe.some 1 → (h : H) × (get_elem? xs 0 ≡ maybe.some (Some (item.Handler h)))
  handler_there ws xs final at = from_holds final.1
    where
      from_holds : InterruptHolds final.0 → (h : H) × (get_elem? xs 0 ≡ maybe.some (Some (item.Handler h)))
      from_holds (inl u) = let zero_one = one_item ws 0 1 (sym final.2 ∙ u.words) at in absurd (cc)
      from_holds (inr (inl b)) = let h = handler_home b.p b.r b.raises b.fit (one_item ws (code_of (state_from (hears_of b.p) b.raises)) 1 (sym final.2 ∙ b.words) at) in (h.0, final.4 0 (Some (item.Handler h.0)) (ap (λ hs. get_elem? hs 0) b.homes ∙ h.1))
      from_holds (inr (inr t)) = let h = handler_home t.p raising.Resting t.raises t.fit (one_item ws (code_of (state_from (hears_of t.p) t.raises)) 1 (sym final.2 ∙ t.words) at) in (h.0, final.4 0 (Some (item.Handler h.0)) (ap (λ hs. get_elem? hs 0) t.homes ∙ h.1))

  pub object_there : (ws : List ℕ) (xs : List (Held H I)) → Final InterruptHolds ws xs → get_elem? ws 0 ≡ maybe.some 2 → (i : I) × (get_elem? xs 1 ≡ maybe.some (Some (item.Object i)))
  object_there ws xs final at = from_holds final.1
    where
      from_holds : InterruptHolds final.0 → (i : I) × (get_elem? xs 1 ≡ maybe.some (Some (item.Object i)))
      from_holds (inl u) = let zero_two = one_item ws 0 2 (sym final.2 ∙ u.words) at in absurd (cc)
      from_holds (inr (inl b)) = let h = object_home b.p b.r b.raises b.fit (one_item ws (code_of (state_from (hears_of b.p) b.raises)) 2 (sym final.2 ∙ b.words) at) in (h.0, final.4 1 (Some (item.Object h.0)) (ap (λ hs. get_elem? hs 1) b.homes ∙ h.1))
      from_holds (inr (inr t)) = let h = object_home t.p raising.Resting t.raises t.fit (one_item ws (code_of (state_from (hears_of t.p) t.raises)) 2 (sym final.2 ∙ t.words) at) in (h.0, final.4 1 (Some (item.Object h.0)) (ap (λ hs. get_elem? hs 1) t.homes ∙ h.1))

  -- what the fields of the remains are, where a slot is known
  pub first_handler : (a b : Held H I) (h : H) (o : Option H) → a ≡ Some (item.Handler h) → o ≡ handler_among a b → IsSome o
  first_handler a b h o is o_is = subst (λ (x : Option H). IsSome x) (sym (o_is ∙ ap (λ (x : Held H I). handler_among x b) is)) refl

  pub second_object : (a b : Held H I) (i : I) (o : Option I) → b ≡ Some (item.Object i) → o ≡ object_among a b → IsSome o
  second_object a b i o is o_is = subst (λ (x : Option I). IsSome x) (sym (o_is ∙ ap (λ (x : Held H I). object_among a x) is)) refl

  pub nothing_remains : (remains : Remains H I) (a b : Held H I) (now : State) → a ≡ None → b ≡ None → code_of now ≡ 0 → remains.handler ≡ handler_among a b → remains.object ≡ object_among a b → remains.state ≡ now → IsUntouched remains
  nothing_remains remains a b now no_a no_b code handler object at =
      let empty = only_empty now code in
      λ k. record {
        handler = (handler ∙ (λ j. handler_among (no_a j) (no_b j))) k;
        object = (object ∙ (λ j. object_among (no_a j) (no_b j))) k;
        state = (at ∙ empty) k;
      }
