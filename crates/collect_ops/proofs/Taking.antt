-- A seat takes all slots in one step, and gives all back in another.
use Rattle.std.proofs.Common.{◌≡◌, ℕ, zero, suc, ◌+◌, List, [], ◌∷◌, ◌++◌, map, length, replicate, set, refl, sym, ap, ◌∙◌, subst, Some, None, arith, add-zero}
use mathlib.Core.List.{reverse_aux}
use mathlib.Core.Option as maybe
use lib.ListN.{get_elem?}
use Rattle.atomic_table.specs.Table.{Act, keeps, takes, gives, chain, Valid, homes_after, carried_after}
use Rattle.collect_ops.specs.declared.view.Item.TheVariants as item
use Rattle.collect_ops.specs.Rule.{Held, Home}
use Rattle.collect_ops.specs.Steps.{full_slots, empty_slots}

module _ {A : Type 0} where
  -- slots that are out, and then those at home with these values
  abbrev pub partly : ℕ → List A → List (maybe.Option A)
  partly done hs = replicate done maybe.none ++ map maybe.some hs

  one_after : (n : ℕ) (a : A) (l : List A) → replicate n a ++ a ∷ l ≡ replicate (suc n) a ++ l
  one_after zero a l = refl
  one_after (suc n) a l = ap (λ m. a ∷ m) (one_after n a l)

module _ {A : Type 0} where
  at_next : (done : ℕ) (h : A) (hs : List A) → get_elem? (partly done (h ∷ hs)) done ≡ maybe.some (maybe.some h)
  at_next zero h hs = refl
  at_next (suc done) h hs = at_next done h hs

  set_next : (done : ℕ) (h : A) (hs : List A) → set (partly done (h ∷ hs)) done maybe.none ≡ partly (suc done) hs
  set_next zero h hs = refl
  set_next (suc done) h hs = ap (λ m. maybe.none ∷ m) (set_next done h hs)

  -- takes the slots from this one on, which have these values
  abbrev pub take_all : ℕ → List A → Act A
  take_all done [] = keeps
  take_all done (h ∷ hs) = chain (takes done h) (take_all (suc done) hs)

  pub can_take : (done : ℕ) (hs : List A) (cs : List (ℕ × A)) → Valid (partly done hs) cs (take_all done hs)
  can_take done [] cs = tt
  can_take done (h ∷ hs) cs = (at_next done h hs, subst (λ l. Valid l ((done, h) ∷ cs) (take_all (suc done) hs)) (sym (set_next done h hs)) (can_take (suc done) hs ((done, h) ∷ cs)))

  none_home : (n : ℕ) → partly {A = A} n [] ≡ replicate n maybe.none
  none_home zero = refl
  none_home (suc n) = ap (λ l. maybe.none ∷ l) (none_home n)

  pub all_taken : (done : ℕ) (hs : List A) (cs : List (ℕ × A)) → homes_after (partly done hs) cs (take_all done hs) ≡ replicate (done + length hs) maybe.none
  all_taken done [] cs = none_home done ∙ ap (λ n. replicate n maybe.none) (sym (add-zero done))
  all_taken done (h ∷ hs) cs =
      let e : suc done + length hs ≡ done + suc (length hs) = omega arith in
      ap (λ l. homes_after l ((done, h) ∷ cs) (take_all (suc done) hs)) (set_next done h hs) ∙ (all_taken (suc done) hs ((done, h) ∷ cs) ∙ ap (λ n. replicate n maybe.none) e)

  -- gives so many slots back
  abbrev pub give_all : ℕ → Act A
  give_all zero = keeps
  give_all (suc n) = chain gives (give_all n)

  pub can_give : (n : ℕ) (hs : List (maybe.Option A)) (cs : List (ℕ × A)) → Valid hs cs (give_all n)
  can_give zero hs cs = tt
  can_give (suc n) hs cs = (tt, can_give n (homes_after hs cs gives) (carried_after cs gives))

module _ {X E : Type 0} where
  abbrev pub full : X → Held X E
  full x = Some (item.Outcome x)

  -- the slots that are carried, once those of these outcomes and one more are taken
  pub all_carried : (done : ℕ) (zs ws : List X) (e : Held X E) → length ws ≡ done → carried_after (full_slots ws) (take_all done (map full zs ++ e ∷ [])) ≡ (done + length zs, e) ∷ full_slots (reverse_aux zs ws)
  all_carried done [] ws e long = λ i. (sym (add-zero done) i, e) ∷ full_slots ws
  all_carried done (z ∷ zs) ws e long =
      let next : suc done + length zs ≡ done + suc (length zs) = omega arith in
      ap (λ n. carried_after ((n, full z) ∷ full_slots ws) (take_all (suc done) (map full zs ++ e ∷ []))) (sym long) ∙ (all_carried (suc done) zs (z ∷ ws) e (ap suc long) ∙ (λ i. (next i, e) ∷ full_slots (reverse_aux zs (z ∷ ws))))

  set_at : (n : ℕ) (l : List (Home X E)) (h : Home X E) → set (replicate (suc n) maybe.none ++ l) n h ≡ replicate n maybe.none ++ h ∷ l
  set_at zero l h = refl
  set_at (suc n) l h = ap (λ m. maybe.none ∷ m) (set_at n l h)

  given_onto : (n : ℕ) (l : List (Home X E)) → homes_after (replicate n maybe.none ++ l) (empty_slots 0 n) (give_all n) ≡ replicate n (maybe.some None) ++ l
  given_onto zero l = refl
  given_onto (suc n) l =
      let e : 0 + n ≡ n = omega arith in
      ap (λ k. homes_after (set (replicate (suc n) maybe.none ++ l) k (maybe.some None)) (empty_slots 0 n) (give_all n)) e
      ∙ (ap (λ m. homes_after m (empty_slots 0 n) (give_all n)) (set_at n l (maybe.some None))
      ∙ (given_onto n (maybe.some None ∷ l) ∙ one_after n (maybe.some None) l))

  no_more : (l : List (Home X E)) → l ++ [] ≡ l
  no_more [] = refl
  no_more (x ∷ xs) = ap (λ m. x ∷ m) (no_more xs)

  pub all_given : (n : ℕ) → homes_after (replicate n maybe.none) (empty_slots {X = X} {E = E} 0 n) (give_all n) ≡ replicate n (maybe.some None)
  all_given n = ap (λ l. homes_after l (empty_slots 0 n) (give_all n)) (sym (no_more (replicate n maybe.none))) ∙ (given_onto n [] ∙ no_more (replicate n (maybe.some None)))

  pub none_carried : (n : ℕ) → carried_after (empty_slots {X = X} {E = E} 0 n) (give_all n) ≡ []
  none_carried zero = refl
  none_carried (suc n) = none_carried n
