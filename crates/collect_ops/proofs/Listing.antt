-- The arrival that was the last takes the outcomes out of their slots, one after another.
use Rattle.std.proofs.Common.{◌≡◌, ℕ, zero, suc, ◌+◌, ◌-◌, ◌<◌, List, [], ◌∷◌, ◌++◌, length, refl, sym, ap, ◌∙◌, append_assoc, append-nil, add-zero, Some, None, arith}
use Rattle.atomic_table.specs.Table.{rest, turned}
use Rattle.collect_ops.specs.declared.view.Item.TheVariants as item
use Rattle.collect_ops.specs.Rule.{Held}
use Rattle.collect_ops.specs.Steps.{full_slots, empty_slots}

module _ {X E : Type 0} where
  -- of the list ys these items were taken; slots have what is left of it, and then the emptied ones
  pub record Still (ys items : List X) (left size : ℕ) (slots : List (ℕ × Held X E)) : Type 0 where
    pub zs : List X
    pub long : length zs ≡ left
    pub parts : ys ≡ items ++ zs
    pub emptied : ℕ
    pub count : left + emptied ≡ size + 1
    pub are : slots ≡ full_slots zs ++ empty_slots left emptied

  empty_slots-next : (l n : ℕ) → empty_slots {X = X} {E = E} (suc l) n ++ (l, None) ∷ [] ≡ empty_slots l (suc n)
  empty_slots-next l zero = λ i. (sym (add-zero l) i, None) ∷ []
  empty_slots-next l (suc n) =
      let e : suc l + n ≡ l + suc n = omega arith in
      λ i. (e i, None) ∷ empty_slots-next l n i

  pub still_begins : (ys items : List X) (size : ℕ) (slots : List (ℕ × Held X E)) → length ys ≡ size → slots ≡ full_slots ys ++ (size, None) ∷ [] → items ≡ [] → Still ys items size size slots
  still_begins ys items size slots long are none = record {
    zs = ys;
    long = long;
    parts = ap (λ (l : List X). l ++ ys) (sym none);
    emptied = 1;
    count = refl;
    are = are ∙ (λ i. full_slots ys ++ (sym (add-zero size) i, None) ∷ []);
  }

  head_of : (zs : List X) (left emptied : ℕ) (slots : List (ℕ × Held X E)) → 0 < left → length zs ≡ left → slots ≡ full_slots zs ++ empty_slots left emptied
      → (x : X) × (slots ≡ (left - 1, Some (item.Outcome x)) ∷ rest slots)
  head_of [] left emptied slots pos long are = absurd (omega arith)
  head_of (z ∷ zs) left emptied slots pos long are =
      let e : length zs ≡ left - 1 = omega arith in
      let first : slots ≡ (left - 1, Some (item.Outcome z)) ∷ (full_slots zs ++ empty_slots left emptied) = are ∙ (λ i. (e i, Some (item.Outcome z)) ∷ (full_slots zs ++ empty_slots left emptied)) in
      (z, first ∙ ap (λ (l : List (ℕ × Held X E)). (left - 1, Some (item.Outcome z)) ∷ l) (sym (ap rest first)))

  pub still_head : (ys items : List X) (left size : ℕ) (slots : List (ℕ × Held X E)) → Still ys items left size slots → 0 < left → (x : X) × (slots ≡ (left - 1, Some (item.Outcome x)) ∷ rest slots)
  still_head ys items left size slots s pos = head_of s.zs left s.emptied slots pos s.long s.are

  abbrev outcome_in : (default : X) → List (ℕ × Held X E) → X
  outcome_in default [] = default
  outcome_in default ((k, None) ∷ xs) = default
  outcome_in default ((k, Some (item.Outcome x)) ∷ xs) = x
  outcome_in default ((k, Some (item.End r)) ∷ xs) = default

  next_of : (ys items zs : List X) (left size emptied : ℕ) (slots slots' : List (ℕ × Held X E)) (x : X) → 0 < left → length zs ≡ left → ys ≡ items ++ zs → left + emptied ≡ size + 1
      → slots ≡ full_slots zs ++ empty_slots left emptied → slots ≡ (left - 1, Some (item.Outcome x)) ∷ rest slots → slots' ≡ turned ((left - 1, None) ∷ rest slots)
      → Still ys (items ++ x ∷ []) (left - 1) size slots'
  next_of ys items [] left size emptied slots slots' x pos long parts count are had now = absurd (omega arith)
  next_of ys items (z ∷ zs) zero size emptied slots slots' x pos long parts count are had now = absurd (omega arith)
  next_of ys items (z ∷ zs) (suc left) size emptied slots slots' x pos long parts count are had now =
      let less : suc left - 1 ≡ left = omega arith in
      let same : z ≡ x = ap (outcome_in z) (sym are ∙ had) in
      let tail : rest slots ≡ full_slots zs ++ empty_slots (suc left) emptied = ap rest are in
      record {
        zs = zs;
        long = let e : length zs ≡ suc left - 1 = omega arith in e;
        parts = parts ∙ ((λ i. items ++ same i ∷ zs) ∙ sym (append_assoc items (x ∷ []) zs));
        emptied = suc emptied;
        count = omega arith;
        are = now ∙ ((λ i. tail i ++ (suc left - 1, None) ∷ []) ∙ (append_assoc (full_slots zs) (empty_slots (suc left) emptied) ((suc left - 1, None) ∷ [])
            ∙ ap (λ l. full_slots zs ++ l) ((λ i. empty_slots (suc left) emptied ++ (less i, None) ∷ []) ∙ (empty_slots-next left emptied ∙ (λ i. empty_slots (sym less i) (suc emptied))))));
      }

  pub still_next : (ys items : List X) (left size : ℕ) (slots slots' : List (ℕ × Held X E)) (x : X) → Still ys items left size slots → 0 < left
      → slots ≡ (left - 1, Some (item.Outcome x)) ∷ rest slots → slots' ≡ turned ((left - 1, None) ∷ rest slots) → Still ys (items ++ x ∷ []) (left - 1) size slots'
  still_next ys items left size slots slots' x s pos had now = next_of ys items s.zs left size s.emptied slots slots' x pos s.long s.parts s.count s.are had now

  none_left : (ys items zs : List X) (size emptied : ℕ) (slots : List (ℕ × Held X E)) → length zs ≡ 0 → ys ≡ items ++ zs → 0 + emptied ≡ size + 1 → slots ≡ full_slots zs ++ empty_slots 0 emptied
      → (items ≡ ys) × (slots ≡ empty_slots 0 (size + 1))
  none_left ys items [] size emptied slots long parts count are =
      let e : emptied ≡ size + 1 = omega arith in
      (sym (parts ∙ append-nil items), are ∙ ap (λ (n : ℕ). empty_slots {X = X} {E = E} 0 n) e)
  none_left ys items (z ∷ zs) size emptied slots long parts count are = absurd (omega arith)

  pub still_ends : (ys items : List X) (left size : ℕ) (slots : List (ℕ × Held X E)) → Still ys items left size slots → left ≡ 0 → (items ≡ ys) × (slots ≡ empty_slots 0 (size + 1))
  still_ends ys items left size slots s e =
      none_left ys items s.zs size s.emptied slots (s.long ∙ e) s.parts (ap (λ n. n + s.emptied) (sym e) ∙ s.count) (s.are ∙ ap (λ n. full_slots s.zs ++ empty_slots n s.emptied) e)
