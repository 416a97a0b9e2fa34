-- What stands in a home when it is closed.
use Rattle.std.proofs.Common.{◌≡◌, ℕ, ◌<◌, ◌+◌, ◌^◌, inl, inr, ⊎_elim, List, [], ◌∷◌, length, Option, Some, None, IsSome, is_none, false, refl, sym, ap, ◌∙◌, subst, arith}
use Rattle.std.specs.Prelude.{slice_index}
use mathlib.Core.Option as maybe
use mathlib.Core.Option.{some-injective, some-ne-none}
use lib.ListN.{get_elem?}
use Rattle.atomic_table.specs.Table.{Final, Seen}
use Rattle.semi_defer.specs.declared.state.State.{State}
use Rattle.semi_defer.specs.declared.state.State.TheVariants as state
use Rattle.semi_defer.specs.declared.state.Chosen.{Chosen}
use Rattle.semi_defer.specs.declared.state.Chosen.TheVariants as chosen
use Rattle.semi_defer.specs.declared.view.Adding.{Adding}
use Rattle.semi_defer.specs.declared.view.Adding.TheVariants as adding
use Rattle.semi_defer.specs.declared.view.Choosing.{Choosing}
use Rattle.semi_defer.specs.declared.view.Choosing.TheVariants as choosing
use Rattle.semi_defer.specs.declared.view.View.{View}
use Rattle.semi_defer.specs.declared.view.View.TheVariants as view
use Rattle.semi_defer.specs.Seen.{RemainsSeen}
use Rattle.semi_defer.specs.State.{code_of, word_of}
use Rattle.semi_defer.specs.History.{state_of_choice}
use Rattle.semi_defer.specs.Views.{state_from, state_unchosen, IsInRange, Fit}
use Rattle.semi_defer.specs.Rule.{TableState, homes_of, DeferHolds}
use Rattle.semi_defer.specs.Closing.{IsEnd, IsWord, AreUntouched}
use Rattle.semi_defer.proofs.Sides.{of_two}
use Rattle.semi_defer.proofs.Acting.{choice_word}

pub single : {A : Type 0} (xs : List A) (a : A) → length xs ≡ 1 → get_elem? xs 0 ≡ maybe.some a → xs ≡ a ∷ []
single [] a long at = absurd (some-ne-none a (sym at))
single (x ∷ []) a long at = ap (λ y. y ∷ []) (some-injective x a at)
single (x ∷ y ∷ xs) a long at = absurd (omega arith)

pub there_is : {A : Type 0} (o : Option A) → is_none o ≡ false → IsSome o
there_is None e = absurd (cc)
there_is (Some a) e = refl

small_unchosen : {J : Type 0} (a : Adding J) → code_of (state_unchosen a) < 2
small_unchosen adding.Ready = omega arith
small_unchosen adding.Holding = omega arith
small_unchosen (adding.Kept job) = omega arith
small_unchosen (adding.Returning job what) = omega arith
small_unchosen (adding.Late job what) = omega arith

small_choice : (what : Chosen) → word_of what < 2 ^ 32 + 3 → code_of (state_of_choice what) < 2 ^ 32 + 3
small_choice what small = subst (λ (n : ℕ). n < 2 ^ 32 + 3) (sym (choice_word what)) small

above_one : (what : Chosen) → code_of (state_of_choice what) ≡ 1 → ⊥
above_one (chosen.Executor exec) e = omega (arith, e)
above_one chosen.Detached e = cc

module _ {J : Type 0} where
  small_word : (a : Adding J) (h : Choosing J) → IsInRange h → code_of (state_from a h) < 2 ^ 32 + 3
  small_word a choosing.Ready range = let below = small_unchosen a in omega arith
  small_word a (choosing.Taking what job) range = small_choice what range
  small_word a (choosing.Chose what got) range = small_choice what range

  -- the word stands for a state, and there is one slot
  pub record AtEnd (s : TableState J) : Type 0 where
    pub now : State
    pub word : s.words ≡ code_of now ∷ []
    pub small : code_of now < 2 ^ 32 + 3
    pub slots : length s.homes ≡ 1

  stands_at_end : (s : TableState J) → DeferHolds s → AtEnd s
  stands_at_end s (inl u) = record { now = state.Empty; word = u.words; small = omega arith; slots = ap length u.homes }
  stands_at_end s (inr (inl b)) = record { now = state_from b.a b.h; word = b.words; small = small_word b.a b.h b.fit.range; slots = ap length b.homes }
  stands_at_end s (inr (inr t)) = record { now = state_from t.a t.h; word = t.words; small = small_word t.a t.h t.fit.range; slots = ap length t.homes }

  module _ (ws : List ℕ) (xs : List (Option J)) (final : Final DeferHolds ws xs) where
    -- the word of a closed home
    word_at_end : slice_index ws 0 ≡ code_of (stands_at_end final.0 final.1).now
    word_at_end = ap (λ (l : List ℕ). slice_index l 0) (sym final.2 ∙ (stands_at_end final.0 final.1).word)

    pub is_word : IsWord (slice_index ws 0)
    is_word =
        let e = stands_at_end final.0 final.1 in
        record { state = e.now; is = word_at_end; small = subst (λ (n : ℕ). n < 2 ^ 32 + 3) (sym word_at_end) e.small }

    -- what a closed home hands out, as an end of the home
    pub ended_as : (remains : RemainsSeen J) → remains.word ≡ slice_index ws 0 → get_elem? xs 0 ≡ maybe.some remains.job → IsEnd remains
    ended_as remains word first =
        let e = stands_at_end final.0 final.1 in
        let words : ws ≡ remains.word ∷ [] = sym final.2 ∙ (e.word ∙ ap (λ (n : ℕ). n ∷ []) (sym (word ∙ word_at_end))) in
        let slots : xs ≡ remains.job ∷ [] = single xs remains.job (sym final.3 ∙ e.slots) first in
        record { final = subst (λ (z : List ℕ × List (Option J)). Final DeferHolds z.0 z.1) (λ k. (words k, slots k)) final }

  -- a home whose pair nobody has taken
  pub untouched : (id : ℕ) (v : View J) → v ≡ view.Pair → (ws : List ℕ) (xs : List (Option J)) → Final (Seen DeferHolds id v) ws xs → AreUntouched ws xs
  untouched id v e ws xs final = at_pair final.1.0
    where
      at_pair : DeferHolds final.0 → AreUntouched ws xs
      at_pair (inl u) = (sym final.2 ∙ u.words, single xs None (sym final.3 ∙ ap length u.homes) (final.4 0 None (ap (λ hs. get_elem? hs 0) u.homes)))
      at_pair (inr (inl b)) = absurd (⊎_elim (λ (r : (id ≡ 0) × (view.Pair ≡ view.Adder b.a)). let f = r.1 in cc) (λ (r : (id ≡ 1) × (view.Pair ≡ view.Holder b.h)). let f = r.1 in cc)
          (of_two id (view.Adder b.a) (view.Holder b.h) view.Pair (sym (ap (λ vs. get_elem? vs id) b.views) ∙ (final.1.1 ∙ ap (λ x. maybe.some x) e))))
      at_pair (inr (inr t)) = absurd (⊎_elim (λ (r : (id ≡ 0) × (view.Pair ≡ view.Both t.a t.h)). let f = r.1 in cc) (λ (r : (id ≡ 1) × (view.Pair ≡ view.Spent)). let f = r.1 in cc)
          (of_two id (view.Both t.a t.h) view.Spent view.Pair (sym (ap (λ vs. get_elem? vs id) t.views) ∙ (final.1.1 ∙ ap (λ x. maybe.some x) e))))

  -- in HasFunction the job is at home
  job_home : (a : Adding J) (h : Choosing J) → Fit a h → code_of (state_from a h) ≡ 1 → (job : J) × (get_elem? (homes_of a h) 0 ≡ maybe.some (maybe.some (Some job)))
  job_home a (choosing.Taking what got) fit is = absurd (above_one what is)
  job_home a (choosing.Chose what got) fit is = absurd (above_one what is)
  job_home adding.Ready choosing.Ready fit is = absurd (cc)
  job_home adding.Holding choosing.Ready fit is = absurd (cc)
  job_home (adding.Kept job) choosing.Ready fit is = (job, refl)
  job_home (adding.Returning job what) choosing.Ready fit is = absurd (cc)
  job_home (adding.Late job what) choosing.Ready fit is = absurd (cc)

  pub job_there : (ws : List ℕ) (xs : List (Option J)) → Final DeferHolds ws xs → slice_index ws 0 ≡ 1 → (held : Option J) → get_elem? xs 0 ≡ maybe.some held → IsSome held
  job_there ws xs final one held first = from_holds final.1
    where
      word : (n : ℕ) → final.0.words ≡ n ∷ [] → n ≡ 1
      word n is = sym (ap (λ (l : List ℕ). slice_index l 0) is) ∙ (ap (λ (l : List ℕ). slice_index l 0) final.2 ∙ one)

      from_job : (job : J) → get_elem? xs 0 ≡ maybe.some (Some job) → IsSome held
      from_job job there = subst (λ (x : Option J). IsSome x) (some-injective (Some job) held (sym there ∙ first)) refl

      from_holds : DeferHolds final.0 → IsSome held
      from_holds (inl u) = let zero_one = word 0 u.words in absurd (cc)
      from_holds (inr (inl b)) = let j = job_home b.a b.h b.fit (word _ b.words) in from_job j.0 (final.4 0 (Some j.0) (ap (λ hs. get_elem? hs 0) b.homes ∙ j.1))
      from_holds (inr (inr t)) = let j = job_home t.a t.h t.fit (word _ t.words) in from_job j.0 (final.4 0 (Some j.0) (ap (λ hs. get_elem? hs 0) t.homes ∙ j.1))

  -- nothing was begun, and nothing comes out
  pub nothing_remains : (ws : List ℕ) (xs : List (Option J)) (remains : RemainsSeen J) → AreUntouched ws xs → remains.word ≡ slice_index ws 0 → get_elem? xs 0 ≡ maybe.some remains.job → remains ≡ record { word = 0; job = None }
  nothing_remains ws xs remains untouched word first =
      let zero_word = word ∙ ap (λ (l : List ℕ). slice_index l 0) untouched.0 in
      let none = some-injective remains.job None (sym first ∙ ap (λ l. get_elem? l 0) untouched.1) in
      λ k. record { word = zero_word k; job = none k }
