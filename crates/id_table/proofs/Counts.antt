-- How many pairs the cells hold, and what one cell more or less makes of it.
use Rattle.std.proofs.Common.{◌≡◌, ◌≢◌, ℕ, zero, suc, ◌+◌, ◌<◌, ◌≤◌, Bool, true, cond, List, [], ◌∷◌, ◌++◌, Option, Some, None, length, get_or, set, refl, sym, subst, ◌∙◌, ⊎_elim, arith, replicate, zero-add}
use Rattle.std.specs.List.{count_by}
use Rattle.std.proofs.lemmas.Bool.Decides.{nat_tests}
use Rattle.std.proofs.lemmas.List.Sums.{sum_by-set, sum_by-cons, sum_by-append, get_or-le-sum_by}
use Rattle.id_table.specs.declared.cell.Cell.{Cell}
use Rattle.id_table.specs.Pairs.{has_id}
use Rattle.id_table.specs.Cells.{id_of, mark_of, id_at, mark_at, pair_of, pairs_of, counted, held, filled, first_empty}
use Rattle.id_table.proofs.Steps.{le_or_lt}

pub by_same : {C : Type 0} → (a b : ℕ) → (a ≡ b → C) → (a ≢ b → C) → C
by_same a b f g =
    ⊎_elim (λ p. ⊎_elim (λ q. f (omega arith)) (λ q. g (omega arith)) (le_or_lt b a)) (λ q. g (omega arith)) (le_or_lt a b)

module _ {V : Type 0} where
  -- one cell

  -- a cell whose mark is 0 is empty
  pub is_empty : (cell : Option (Cell V)) → mark_of cell ≡ 0 → cell ≡ None
  is_empty None e = refl
  is_empty (Some cell) e = absurd (omega arith)

  pub counted_empty : (test : ℕ × V → Bool) (cell : Option (Cell V)) → mark_of cell ≡ 0 → counted test cell ≡ 0
  unfolding counted
  counted_empty test None e = refl
  counted_empty test (Some cell) e = absurd (omega arith)

  pub counted_within : (test : ℕ × V → Bool) (cell : Option (Cell V)) → counted test cell ≤ 1
  unfolding counted
  counted_within test None = omega arith
  counted_within test (Some cell) = grind (arith, nat_tests)

  pub counted_own : (cell : Option (Cell V)) → 0 < mark_of cell → counted (has_id (id_of cell)) cell ≡ 1
  unfolding counted
  counted_own None some = absurd (omega arith)
  counted_own (Some cell) some = grind (arith, nat_tests)

  pub counted_other : (id : ℕ) (cell : Option (Cell V)) → (0 < mark_of cell → id_of cell ≢ id) → counted (has_id id) cell ≡ 0
  unfolding counted
  counted_other id None other = refl
  counted_other id (Some cell) other = let ne : cell.id ≢ id = other (omega arith) in grind (arith, nat_tests)

  pub counted_filled : (cell : Option (Cell V)) → 0 < mark_of cell → counted (λ (pair : ℕ × V). true) cell ≡ 1
  unfolding counted
  counted_filled None some = absurd (omega arith)
  counted_filled (Some cell) some = refl

  -- a cell is as many as its pairs
  pub count_of_cell : (test : ℕ × V → Bool) (cell : Option (Cell V)) → count_by test (pair_of cell) ≡ counted test cell
  unfolding counted
  count_of_cell test None = refl
  count_of_cell test (Some cell) = zero-add (cond (test (cell.id, cell.value)) 1 0)

  -- all cells

  pub held_pairs : (test : ℕ × V → Bool) (cells : List (Option (Cell V))) → count_by test (pairs_of cells) ≡ held test cells
  held_pairs test [] = refl
  held_pairs test (cell ∷ cells) =
      let joined : count_by test (pair_of cell ++ pairs_of cells) ≡ count_by test (pair_of cell) + count_by test (pairs_of cells)
      = sum_by-append (λ p. cond (test p) 1 0) (pair_of cell) (pairs_of cells) in
      let one = count_of_cell test cell in
      let others = held_pairs test cells in
      let split : held test (cell ∷ cells) ≡ counted test cell + held test cells = sum_by-cons (counted test) cell cells in
      joined ∙ (omega arith)

  pub held-set : (test : ℕ × V → Bool) (cells : List (Option (Cell V))) (k : ℕ) (new : Option (Cell V)) → k < length cells
      → held test (set cells k new) + counted test (get_or cells k None) ≡ held test cells + counted test new
  held-set test cells k new h = sum_by-set (counted test) cells k new None h

  pub counted-le-held : (test : ℕ × V → Bool) (cells : List (Option (Cell V))) (k : ℕ) → k < length cells
      → counted test (get_or cells k None) ≤ held test cells
  counted-le-held test cells k h = get_or-le-sum_by (counted test) cells k None h

  pub none_held : (id : ℕ) (cells : List (Option (Cell V)))
      → ((k : ℕ) → k < length cells → 0 < mark_at cells k → id_at cells k ≢ id) → held (has_id id) cells ≡ 0
  none_held id [] none = refl
  none_held id (cell ∷ cells) none =
      let here = counted_other id cell (none 0 (omega arith)) in
      let others = none_held id cells (λ k h. none (suc k) (omega arith)) in
      let split : held (has_id id) (cell ∷ cells) ≡ counted (has_id id) cell + held (has_id id) cells = sum_by-cons (counted (has_id id)) cell cells in
      split ∙ (omega arith)

  -- no more pairs than cells
  pub filled_within : (cells : List (Option (Cell V))) → filled cells ≤ length cells
  filled_within [] = omega arith
  filled_within (cell ∷ cells) =
      let split : filled (cell ∷ cells) ≡ counted (λ (pair : ℕ × V). true) cell + filled cells = sum_by-cons (counted (λ (pair : ℕ × V). true)) cell cells in
      let one = counted_within (λ (pair : ℕ × V). true) cell in
      let others = filled_within cells in
      omega arith

  -- empty cells

  first_here : (cell : Option (Cell V)) (cells : List (Option (Cell V))) → mark_of cell ≡ 0 → first_empty (cell ∷ cells) ≡ 0
  first_here cell cells e = rw e refl

  first_later : (cell : Option (Cell V)) (cells : List (Option (Cell V))) → mark_of cell ≢ 0 → first_empty (cell ∷ cells) ≡ suc (first_empty cells)
  first_later None cells ne = absurd (ne refl)
  first_later (Some cell) cells ne = refl

  pub first_empty_is : (cells : List (Option (Cell V))) → filled cells < length cells
      → (first_empty cells < length cells) × (mark_at cells (first_empty cells) ≡ 0)
  first_empty_is [] room = absurd (omega arith)
  first_empty_is (cell ∷ cells) room =
      let P : ℕ → Type 0 = λ k. (k < length (cell ∷ cells)) × (mark_at (cell ∷ cells) k ≡ 0) in
      by_same (mark_of cell) 0
      (λ e. subst P (sym (first_here cell cells e)) (omega arith, e))
      (λ ne.
      let one = counted_filled cell (omega arith) in
      let split : filled (cell ∷ cells) ≡ counted (λ (pair : ℕ × V). true) cell + filled cells = sum_by-cons (counted (λ (pair : ℕ × V). true)) cell cells in
      let later = first_empty_is cells (omega arith) in
      subst P (sym (first_later cell cells ne)) (omega (arith, later.0), later.1))

  pub held-replicate : (test : ℕ × V → Bool) (n : ℕ) → held test (replicate n None) ≡ 0
  held-replicate test zero = refl
  held-replicate test (suc n) =
      let one = counted_empty test None refl in
      let split : held test (None ∷ replicate n None) ≡ counted test None + held test (replicate n None) = sum_by-cons (counted test) None (replicate n None) in
      split ∙ (let rest = held-replicate test n in omega arith)

  pub pairs-replicate : (n : ℕ) → pairs_of {V = V} (replicate n None) ≡ []
  pairs-replicate zero = refl
  pairs-replicate (suc n) = pairs-replicate n
