-- Lists whose items are numbered from some first number on.
use Rattle.std.proofs.Common.{◌≡◌, ℕ, suc, ◌+◌, ◌<◌, List, [], ◌∷◌, ◌++◌, length, get_or, length-append, sym, subst, arith}
use Rattle.std.proofs.lemmas.List.{get_or_append_left, get_or_push}
use mathlib.Core.Logic.{dite}
use native.Mathlib.Decide.{ℕ_discrete}

module _ {X : Type 0} (R : ℕ → X → Type 0) where
  -- the items are numbered from the first number on, and each is as R says of its number
  pub record EachFrom (first : ℕ) (xs : List X) : Type 0 where
    pub each : (k j : ℕ) (d : X) → k < length xs → j ≡ first + k → R j (get_or xs k d)

  pub each_none : (first : ℕ) (xs : List X) → length xs ≡ 0 → EachFrom first xs
  each_none first xs none = record { each = λ k j d below is. absurd (omega (arith, below, none)) }

  pub each_first : (first : ℕ) (x : X) (xs : List X) → EachFrom first (x ∷ xs) → R first x
  each_first first x xs e = e.each 0 first x (omega arith) (omega arith)

  pub each_rest : (first : ℕ) (x : X) (xs : List X) → EachFrom first (x ∷ xs) → EachFrom (suc first) xs
  each_rest first x xs e = record { each = λ k j d below is. e.each (suc k) j d (omega (arith, below)) (omega (arith, is)) }

  pub each_push : (xs : List X) (x : X) → EachFrom 0 xs → R (length xs) x → EachFrom 0 (xs ++ x ∷ [])
  each_push xs x e r = record {
    each = λ k j d below is. dite (ℕ_discrete k (length xs))
        (λ same. subst (λ (y : X). R j y) (sym (get_or_push xs x d k (sym same))) (subst (λ (n : ℕ). R n x) (omega (arith, same, is)) r))
        (λ other. subst (λ (y : X). R j y) (sym (get_or_append_left xs (x ∷ []) d k (omega (arith, below, other, length-append xs (x ∷ [])))))
        (e.each k j d (omega (arith, below, other, length-append xs (x ∷ []))) is));
  }

  -- each item is as R says of the number of items from it on
  pub record EachDown (xs : List X) : Type 0 where
    pub each : (k j : ℕ) (d : X) → k < length xs → j + k ≡ length xs → R j (get_or xs k d)

  pub down_first : (x : X) (xs : List X) → EachDown (x ∷ xs) → R (suc (length xs)) x
  down_first x xs e = e.each 0 (suc (length xs)) x (omega arith) (omega arith)

  pub down_rest : (x : X) (xs : List X) → EachDown (x ∷ xs) → EachDown xs
  down_rest x xs e = record { each = λ k j d below is. e.each (suc k) j d (omega (arith, below)) (omega (arith, is)) }
