-- Reading a list by place.
use Rattle.std.proofs.Common.{◌≡◌, ℕ, zero, suc, ◌<◌, List, [], ◌∷◌, ◌++◌, length, take, drop, Option, Some, None, Result, Ok, Err, refl, ap, ◌∙◌, arith}
use Rattle.std.proofs.lemmas.List.Elements.{filter_map-append}
use Rattle.std.specs.List.{slice_get, filter_map, cons_option}
use Rattle.std.specs.Option.{option_to_list}
use Rattle.std.specs.Result.{result_ok}

module _ {A : Type 0} where
  pub slice_get-append_left : (xs ys : List A) (i : ℕ) → i < length xs → slice_get (xs ++ ys) i ≡ slice_get xs i
  slice_get-append_left [] ys i h = absurd (omega arith)
  slice_get-append_left (x ∷ xs) ys zero h = refl
  slice_get-append_left (x ∷ xs) ys (suc i) h = slice_get-append_left xs ys i (omega arith)

  pub slice_get-append_seam : (xs : List A) (y : A) (ys : List A) (i : ℕ) → i ≡ length xs → slice_get (xs ++ y ∷ ys) i ≡ Some y
  slice_get-append_seam [] y ys zero h = refl
  slice_get-append_seam [] y ys (suc i) h = absurd (omega arith)
  slice_get-append_seam (x ∷ xs) y ys zero h = absurd (omega arith)
  slice_get-append_seam (x ∷ xs) y ys (suc i) h = slice_get-append_seam xs y ys i (omega arith)

  pub slice_get-append_some : (xs ys : List A) (i : ℕ) (x : A) → slice_get xs i ≡ Some x → slice_get (xs ++ ys) i ≡ Some x
  slice_get-append_some [] ys i x h = absurd cc
  slice_get-append_some (y ∷ xs) ys zero x h = h
  slice_get-append_some (y ∷ xs) ys (suc i) x h = slice_get-append_some xs ys i x h

  -- an item more in front, and the same item less behind
  pub take_one_more : (xs : List A) (i : ℕ) (x : A) → slice_get xs i ≡ Some x → take (suc i) xs ≡ take i xs ++ x ∷ []
  take_one_more [] i x h = absurd cc
  take_one_more (y ∷ ys) zero x h = let e : y ≡ x = cc in rw e refl
  take_one_more (y ∷ ys) (suc i) x h = ap (λ zs. y ∷ zs) (take_one_more ys i x h)

  pub drop_one_more : (xs : List A) (i : ℕ) (x : A) → slice_get xs i ≡ Some x → drop i xs ≡ x ∷ drop (suc i) xs
  drop_one_more [] i x h = absurd cc
  drop_one_more (y ∷ ys) zero x h = let e : y ≡ x = cc in rw e refl
  drop_one_more (y ∷ ys) (suc i) x h = drop_one_more ys i x h

  -- an element below the length is there
  pub slice_get_there : (xs : List A) (i : ℕ) → i < length xs → (x : A) × (slice_get xs i ≡ Some x)
  slice_get_there [] i h = absurd (omega arith)
  slice_get_there (x ∷ xs) zero h = (x, refl)
  slice_get_there (x ∷ xs) (suc i) h = slice_get_there xs i (omega arith)

  pub ok_from_some : {E : Type 0} (r : Result A E) (x : A) → result_ok r ≡ Some x → r ≡ Ok x
  ok_from_some (Ok y) x h = let e : y ≡ x = cc in ap (λ z. Ok z) e
  ok_from_some (Err e) x h = absurd cc

module _ {A B : Type 0} (h : A → Option B) where
  cons_option-alone : (o : Option B) → cons_option o [] ≡ option_to_list o
  cons_option-alone None = refl
  cons_option-alone (Some x) = refl

  -- one more item behind the others
  pub filter_map-push : (xs : List A) (x : A) → filter_map h (xs ++ x ∷ []) ≡ filter_map h xs ++ option_to_list (h x)
  filter_map-push xs x = filter_map-append h xs (x ∷ []) ∙ ap (λ zs. filter_map h xs ++ zs) (cons_option-alone (h x))
