-- Records that lie in blocks.
use Rattle.std.proofs.Common.{◌≡◌, ◌≢◌, ℕ, zero, suc, ◌+◌, ◌≤◌, ◌<◌, List, [], ◌∷◌, ◌++◌, length, map, set, get_or, take, drop, refl, sym, ap, ◌∙◌, append_assoc, append-nil, length-append, subst, arith}
use Rattle.std.specs.Prelude.{All}
use Rattle.std.specs.List.{flat_map}
use Rattle.std.proofs.lemmas.Grind.{flat_map-append}
use Rattle.std.proofs.lemmas.List.Elements.{All-append}

-- none is left where both places are the same, and nowhere else
pub none_left : {X Y : Type 0} (f : X → Y) (rows : List X) (first end : ℕ) → first ≤ end → end ≤ length rows → map f (drop first (take end rows)) ≡ [] → first ≡ end
none_left f rows zero zero few within none = refl
none_left f [] zero (suc end) few within none = absurd (omega (arith, within))
none_left f (x ∷ rows) zero (suc end) few within none = cc
none_left f rows (suc first) zero few within none = absurd (omega (arith, few))
none_left f [] (suc first) (suc end) few within none = absurd (omega (arith, within))
none_left f (x ∷ rows) (suc first) (suc end) few within none = ap suc (none_left f rows first end (omega (arith, few)) (omega (arith, within)) none)

pub all_taken : {X Y : Type 0} (f : X → Y) (rows : List X) (first end : ℕ) → first ≡ end → map f (drop first (take end rows)) ≡ []
all_taken f rows zero zero same = refl
all_taken f rows zero (suc end) same = absurd (omega (arith, same))
all_taken f rows (suc first) zero same = absurd (omega (arith, same))
all_taken f [] (suc first) (suc end) same = refl
all_taken f (x ∷ rows) (suc first) (suc end) same = all_taken f rows first end (omega (arith, same))

module _ {R : Type 0} where
  -- one more in the last block
  pub last_more : (blocks : List (List R)) (last new : List R) (n : ℕ) (r : R) → suc n ≡ length blocks → last ≡ get_or blocks n last → new ≡ last ++ r ∷ [] → flat_map (λ b. b) (set blocks n new) ≡ flat_map (λ b. b) blocks ++ r ∷ []
  last_more [] last new n r is at more = absurd (omega (arith, is))
  last_more (b ∷ []) last new zero r is at more =
      append-nil new ∙ (more ∙ (ap (λ (l : List R). l ++ r ∷ []) at ∙ ap (λ (l : List R). l ++ r ∷ []) (sym (append-nil b))))
  last_more (b ∷ c ∷ blocks) last new zero r is at more = absurd (omega (arith, is))
  last_more (b ∷ blocks) last new (suc n) r is at more =
      ap (λ (l : List R). b ++ l) (last_more blocks last new n r (omega (arith, is)) at more) ∙ sym (append_assoc b (flat_map (λ x. x) blocks) (r ∷ []))

  -- one less in the first
  pub first_less : (blocks : List (List R)) (first new : List R) (r : R) → 0 < length blocks → first ≡ get_or blocks 0 first → first ≡ r ∷ new → flat_map (λ b. b) blocks ≡ r ∷ flat_map (λ b. b) (set blocks 0 new)
  first_less [] first new r is at less = absurd (omega (arith, is))
  first_less (b ∷ blocks) first new r is at less = ap (λ (l : List R). l ++ flat_map (λ x. x) blocks) (sym at ∙ less)

  not_empty : (x : R) (xs : List R) → x ∷ xs ≢ []
  not_empty x xs e = cc

  -- blocks that each have a record are no more than the records
  pub no_more : (blocks : List (List R)) → All (λ b. b ≢ []) blocks → length blocks ≤ length (flat_map (λ b. b) blocks)
  no_more [] each = omega (arith)
  no_more ([] ∷ blocks) each = absurd (each 0 [] (omega (arith)) refl)
  no_more ((x ∷ xs) ∷ blocks) each =
      let rest : length blocks ≤ length (flat_map (λ b. b) blocks) = no_more blocks (λ k d within. each (suc k) d (omega (arith, within))) in
      omega (arith, rest, length-append xs (flat_map (λ b. b) blocks))

  more_is_some : (xs : List R) (r : R) → xs ++ r ∷ [] ≢ []
  more_is_some [] r e = cc
  more_is_some (x ∷ xs) r e = cc

  pub more_filled : (old new : List R) (r : R) → new ≡ old ++ r ∷ [] → new ≢ []
  more_filled old new r more none = more_is_some old r (sym more ∙ none)

  one_filled : (r : R) → All (λ b. b ≢ []) ((r ∷ []) ∷ [])
  one_filled r zero d within = not_empty r []
  one_filled r (suc k) d within = absurd (omega (arith, within))

  one_longer : (xs : List R) (r : R) (n : ℕ) → n ≡ length xs → n + 1 ≡ length (xs ++ r ∷ [])
  one_longer xs r n is = omega (arith, is, length-append xs (r ∷ []))

  -- a block with one record behind the others
  pub block_more : (old kept fresh new : List (List R)) (r : R) (n : ℕ) → kept ≡ old → fresh ≡ (r ∷ []) ∷ [] → new ≡ kept ++ fresh → n ≡ length (flat_map (λ b. b) old) → All (λ b. b ≢ []) old
      → (n + 1 ≡ length (flat_map (λ b. b) new)) × All (λ b. b ≢ []) new
  block_more old kept fresh new r n same one both count filled =
      let is : new ≡ old ++ (r ∷ []) ∷ [] = both ∙ (ap (λ (l : List (List R)). l ++ fresh) same ∙ ap (λ (l : List (List R)). old ++ l) one) in
      let flat : flat_map (λ b. b) new ≡ flat_map (λ b. b) old ++ r ∷ [] = ap (flat_map (λ b. b)) is ∙ flat_map-append (λ b. b) old ((r ∷ []) ∷ []) in (
        one_longer (flat_map (λ b. b) old) r n count ∙ sym (ap length flat),
        subst (All (λ b. b ≢ [])) (sym is) (All-append (λ b. b ≢ []) old ((r ∷ []) ∷ []) filled (one_filled r)),
      )
