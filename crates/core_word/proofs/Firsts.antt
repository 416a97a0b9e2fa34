-- Of each use one seat at most was the first to leave it. Each step keeps that.
use Rattle.std.proofs.Common.{◌≡◌, ◌≢◌, ℕ, zero, suc, ◌<◌, inl, inr, List, [], ◌∷◌, ◌++◌, length, refl, sym, ap, ◌∙◌, subst, arith}
use Rattle.std.specs.Prelude.{slice_set}
use mathlib.Core.Option as maybe
use mathlib.Core.Option.{some-injective, some-ne-none}
use mathlib.Core.Logic.{dite}
use native.Mathlib.Decide.{ℕ_discrete}
use lib.ListN.{get_elem?}
use Rattle.atomic_table.proofs.Lists.{set_here, set_else, at_last}
use Rattle.core_state.specs.declared.schedule.Half.{Half}
use Rattle.core_state.specs.declared.schedule.Half.TheVariants as half
use Rattle.core_word.specs.declared.view.Learned.{Learned}
use Rattle.core_word.specs.declared.view.Departure.{Departure}
use Rattle.core_word.specs.declared.view.Departure.TheVariants as departed
use Rattle.core_word.specs.declared.view.ProducerPhase.{ProducerPhase}
use Rattle.core_word.specs.declared.view.ConsumerPhase.{ConsumerPhase}
use Rattle.core_word.specs.declared.view.View.{View}
use Rattle.core_word.specs.declared.view.View.TheVariants as view
use Rattle.core_word.specs.Views.{use_of, producer_left, consumer_left, IsFirstLeave}
use Rattle.core_word.specs.Rule.{TableState, LeavesFit, Fit, IsPast, IsFirstOf, OneFirst, StandsFor}

pub before_last : {A : Type 0} (l : List A) (a : A) (k : ℕ) (b : A) → k ≢ length l → get_elem? (l ++ a ∷ []) k ≡ maybe.some b → get_elem? l k ≡ maybe.some b
before_last [] a zero b ne e = absurd (ne refl)
before_last [] a (suc k) b ne e = absurd (some-ne-none b (sym e))
before_last (x ∷ xs) a zero b ne e = e
before_last (x ∷ xs) a (suc k) b ne e = before_last xs a k b (λ h. ne (ap suc h)) e

pub not_first : departed.No ≡ departed.First → ⊥
not_first e = cc

not_both : (d e : Departure) → LeavesFit d e → d ≡ departed.First → e ≡ departed.First → ⊥
not_both d e fit is_d is_e = subst (λ (z : Departure × Departure). LeavesFit z.0 z.1) (λ i. (is_d i, is_e i)) fit

module _ {T C P : Type 0} where
  -- one view at one place
  pub one_view : (vs : List (View T C P)) (i j : ℕ) (v w : View T C P) → get_elem? vs i ≡ maybe.some v → get_elem? vs j ≡ maybe.some w → i ≡ j → v ≡ w
  one_view vs i j v w e f same = some-injective v w (sym e ∙ (ap (get_elem? vs) same ∙ f))

  -- a view of no half that was the first to leave
  abbrev pub NotFirst : View T C P → Type 0
  NotFirst v = (n : ℕ) → IsFirstOf n v → ⊥

  past_not_first : (u : ℕ) (v : View T C P) → IsPast u v → IsFirstOf u v → ⊥
  past_not_first u (view.Key n) past first = past
  past_not_first u (view.Producer n p learned) past first = let less = past.0 in let same = first.0 in absurd (omega arith)
  past_not_first u (view.Consumer n c) past first = let less = past.0 in let same = first.0 in absurd (omega arith)
  past_not_first u (view.Husk n offer demand) past first = past
  past_not_first u (view.Reopening n) past first = past
  past_not_first u (view.Joined n p c) past first = past
  past_not_first u view.Spent past first = first
  past_not_first u view.Clash past first = past

  -- one view was written, beside which no other of its use was the first to leave
  once_set : (vs : List (View T C P)) (id : ℕ) (w : View T C P) → id < length vs → OneFirst vs
      → ((n k : ℕ) (v : View T C P) → k ≢ id → get_elem? vs k ≡ maybe.some v → IsFirstOf n w → IsFirstOf n v → ⊥)
      → OneFirst (slice_set vs id w)
  once_set vs id w inside once alone n j k v u at_j at_k first_v first_u = dite (ℕ_discrete j id)
      (λ ej. dite (ℕ_discrete k id)
      (λ ek. ej ∙ sym ek)
      (λ nk. absurd (alone n k u nk (sym (set_else vs id k w nk) ∙ at_k) (subst (λ x. IsFirstOf n x) (one_view (slice_set vs id w) j id v w at_j (set_here vs id w inside) ej) first_v) first_u)))
      (λ nj. dite (ℕ_discrete k id)
      (λ ek. absurd (alone n j v nj (sym (set_else vs id j w nj) ∙ at_j) (subst (λ x. IsFirstOf n x) (one_view (slice_set vs id w) k id u w at_k (set_here vs id w inside) ek) first_u) first_v))
      (λ nk. once n j k v u (sym (set_else vs id j w nj) ∙ at_j) (sym (set_else vs id k w nk) ∙ at_k) first_v first_u))

  -- a view was written of no half that was the first to leave
  pub once_plain : (vs : List (View T C P)) (id : ℕ) (w : View T C P) → id < length vs → OneFirst vs → NotFirst w → OneFirst (slice_set vs id w)
  once_plain vs id w inside once plain = once_set vs id w inside once (λ n k v ne at first_w first_v. plain n first_w)

  -- and one was added
  pub once_more : (vs : List (View T C P)) (w : View T C P) → OneFirst vs → NotFirst w → OneFirst (vs ++ w ∷ [])
  once_more vs w once plain n j k v u at_j at_k first_v first_u = once n j k v u (before j v at_j first_v) (before k u at_k first_u) first_v first_u
    where
      before : (i : ℕ) (x : View T C P) → get_elem? (vs ++ w ∷ []) i ≡ maybe.some x → IsFirstOf n x → get_elem? vs i ≡ maybe.some x
      before i x at first = dite (ℕ_discrete i (length vs))
          (λ e. absurd (plain n (subst (λ y. IsFirstOf n y) (one_view (vs ++ w ∷ []) i (length vs) x w at (at_last vs w (length vs) refl) e) first)))
          (λ ne. before_last vs w i x ne at)

  -- a producer has made a step beside the consumer of its use
  pub once_produced : (vs : List (View T C P)) (id consumer u : ℕ) (q : ProducerPhase T C P) (learned : Learned) (c : ConsumerPhase T C P) → id < length vs → OneFirst vs
      → get_elem? vs consumer ≡ maybe.some (view.Consumer u c) → ((k : ℕ) (v : View T C P) → k ≢ id → k ≢ consumer → get_elem? vs k ≡ maybe.some v → IsPast u v)
      → Fit q c → OneFirst (slice_set vs id (view.Producer u q learned))
  once_produced vs id consumer u q learned c inside once at_c others fit = once_set vs id (view.Producer u q learned) inside once alone
    where
      alone : (n k : ℕ) (v : View T C P) → k ≢ id → get_elem? vs k ≡ maybe.some v → IsFirstOf n (view.Producer u q learned) → IsFirstOf n v → ⊥
      alone n k v ne at first_w first_v = dite (ℕ_discrete k consumer)
          (λ e. let there : IsFirstOf n (view.Consumer u c) = subst (λ x. IsFirstOf n x) (one_view vs k consumer v _ at at_c e) first_v in not_both (producer_left q) (consumer_left c) fit.1 first_w.1 there.1)
          (λ nc. past_not_first u v (others k v ne nc at) (subst (λ m. IsFirstOf m v) (sym first_w.0) first_v))

  -- and a consumer beside the producer
  pub once_consumed : (vs : List (View T C P)) (id producer u : ℕ) (q : ConsumerPhase T C P) (learned : Learned) (p : ProducerPhase T C P) → id < length vs → OneFirst vs
      → get_elem? vs producer ≡ maybe.some (view.Producer u p learned) → ((k : ℕ) (v : View T C P) → k ≢ producer → k ≢ id → get_elem? vs k ≡ maybe.some v → IsPast u v)
      → Fit p q → OneFirst (slice_set vs id (view.Consumer u q))
  once_consumed vs id producer u q learned p inside once at_p others fit = once_set vs id (view.Consumer u q) inside once alone
    where
      alone : (n k : ℕ) (v : View T C P) → k ≢ id → get_elem? vs k ≡ maybe.some v → IsFirstOf n (view.Consumer u q) → IsFirstOf n v → ⊥
      alone n k v ne at first_w first_v = dite (ℕ_discrete k producer)
          (λ e. let there : IsFirstOf n (view.Producer u p learned) = subst (λ x. IsFirstOf n x) (one_view vs k producer v _ at at_p e) first_v in not_both (producer_left p) (consumer_left q) fit.1 there.1 first_w.1)
          (λ np. past_not_first u v (others k v np ne at) (subst (λ m. IsFirstOf m v) (sym first_w.0) first_v))

  pub once_of : (s : TableState T C P) → StandsFor s → OneFirst s.views
  once_of s (inl b) = b.once
  once_of s (inr (inl b)) = b.once
  once_of s (inr (inr (inl b))) = b.once
  once_of s (inr (inr (inr (inl b)))) = b.once
  once_of s (inr (inr (inr (inr b)))) = b.once

  -- a half that was the first to leave its use
  pub first_of_use : (h : Half) (v : View T C P) → IsFirstLeave h v → IsFirstOf (use_of v) v
  first_of_use half.Producer (view.Key n) first = absurd first
  first_of_use half.Producer (view.Producer n p learned) first = (refl, first)
  first_of_use half.Producer (view.Consumer n c) first = absurd first
  first_of_use half.Producer (view.Husk n offer demand) first = absurd first
  first_of_use half.Producer (view.Reopening n) first = absurd first
  first_of_use half.Producer (view.Joined n p c) first = absurd first
  first_of_use half.Producer view.Spent first = absurd first
  first_of_use half.Producer view.Clash first = absurd first
  first_of_use half.Consumer (view.Key n) first = absurd first
  first_of_use half.Consumer (view.Producer n p learned) first = absurd first
  first_of_use half.Consumer (view.Consumer n c) first = (refl, first)
  first_of_use half.Consumer (view.Husk n offer demand) first = absurd first
  first_of_use half.Consumer (view.Reopening n) first = absurd first
  first_of_use half.Consumer (view.Joined n p c) first = absurd first
  first_of_use half.Consumer view.Spent first = absurd first
  first_of_use half.Consumer view.Clash first = absurd first
