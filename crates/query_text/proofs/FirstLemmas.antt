-- Where a byte stands first, and what stands before and behind it.
use Rattle.std.proofs.Common.{◌≡◌, ℕ, ◌+◌, ◌<◌, ◌≤◌, ◌++◌, ◌∷◌, Bool, List, eqb, not, cond, false, length, take, drop, get_or, get_or-take, length-take, sym, ap, ◌∙◌, arith}
use Rattle.std.proofs.lemmas.Bool.{cond-false, eqb-true, ne_eqb}
use Rattle.std.proofs.lemmas.List.Folds.{prefix_len-append}
use Rattle.std.proofs.lemmas.List.Sums.{fails_before_first, passes_at_first, split_at_first}
use Rattle.std.proofs.lemmas.Simd.{chunk-drop, length-chunk}
use Rattle.std.specs.List.{prefix_len, position_or_len}

-- how many pass from i on, by how many of the first n there
pub by_group : (p : ℕ → Bool) (xs : List ℕ) (i n : ℕ) → i + n ≤ length xs
    → prefix_len p (drop i xs) ≡ cond (eqb (prefix_len p (take n (drop i xs))) n) (n + prefix_len p (drop (i + n) xs)) (prefix_len p (take n (drop i xs)))
by_group p xs i n room =
    ap (prefix_len p) (chunk-drop i n xs)
    ∙ (prefix_len-append p (take n (drop i xs)) (drop (i + n) xs)
    ∙ ap (λ m. cond (eqb (prefix_len p (take n (drop i xs))) m) (m + prefix_len p (drop (i + n) xs)) (prefix_len p (take n (drop i xs)))) (length-chunk i n xs room))

-- what stands among the first n stands there first of all
pub found_near : (at : ℕ) (xs : List ℕ) (n place : ℕ) → n ≤ length xs → place ≡ position_or_len (λ x. eqb x at) (take n (drop 0 xs)) → place < n
    → place ≡ position_or_len (λ x. eqb x at) xs
found_near at xs n place room is near =
    let here : ℕ = prefix_len (λ x. not (eqb x at)) (take n (drop 0 xs)) in
    let other : eqb here n ≡ false = ne_eqb here n (λ e. omega (arith, is, near, e)) in
    is ∙ sym (by_group (λ x. not (eqb x at)) xs 0 n (omega (arith, room)) ∙ cond-false _ _ _ other)

module _ (at : ℕ) (bytes : List ℕ) (place : ℕ) (found : place ≡ position_or_len (λ byte. eqb byte at) bytes) where
  pub front_clear : (k d : ℕ) → k < length (take place bytes) → eqb (get_or (take place bytes) k d) at ≡ false
  front_clear k d below =
      let many = length-take place bytes in
      let inside : k < place = omega arith in
      ap (λ byte. eqb byte at) (get_or-take place bytes k d inside) ∙ fails_before_first (λ byte. eqb byte at) bytes k d (omega arith)

  pub cut_here : place < length bytes → bytes ≡ take place bytes ++ at ∷ drop (place + 1) bytes
  cut_here inside =
      let p : ℕ → Bool = λ byte. eqb byte at in
      let within : position_or_len p bytes < length bytes = omega (arith, found) in
      rw found (split_at_first p bytes 0 within
      ∙ ap (λ b. take (position_or_len p bytes) bytes ++ b ∷ drop (position_or_len p bytes + 1) bytes) (eqb-true _ at (passes_at_first p bytes 0 within)))
