-- The pairs of the cells, in any order: a cell is written, or two are.
use Rattle.std.proofs.Common.{◌≡◌, ◌≢◌, ℕ, zero, suc, ◌+◌, ◌<◌, Bool, cond, List, [], ◌∷◌, ◌++◌, Option, Some, None, length, map, get_or, set, refl, sym, ap, subst, ◌∙◌, arith, length-set, get_or-set_other, IsPermutation}
use Rattle.std.specs.List.{count_by, flat_map}
use Rattle.std.proofs.lemmas.List.{append_assoc}
use Rattle.std.proofs.lemmas.List.Sums.{sum_by-append}
use Rattle.std.proofs.lemmas.List.Sorted.{IsPermutation-refl, IsPermutation-sym, IsPermutation-trans, IsPermutation-append, IsPermutation-append_left, IsPermutation-append_comm}
use Rattle.id_table.specs.declared.cell.Cell.{Cell}
use Rattle.id_table.specs.Cells.{id_list_of, pair_of, pairs_of, counted, held, mark_of, mark_at}
use Rattle.id_table.proofs.Counts.{is_empty, held_pairs, count_of_cell}
use Rattle.id_table.proofs.Values.{as_many}

pub swap_fronts : {X : Type 0} → (xs ys zs : List X) → IsPermutation (xs ++ (ys ++ zs)) (ys ++ (xs ++ zs))
swap_fronts {X = X} xs ys zs =
    subst (λ (us : List X). IsPermutation us (ys ++ (xs ++ zs))) (append_assoc xs ys zs)
    (subst (λ (us : List X). IsPermutation ((xs ++ ys) ++ zs) us) (append_assoc ys xs zs)
    (IsPermutation-append_left zs (xs ++ ys) (ys ++ xs) (IsPermutation-append_comm xs ys)))

pub under : {X : Type 0} → (xs us vs : List X) → IsPermutation us vs → IsPermutation (xs ++ us) (xs ++ vs)
under xs us vs same = IsPermutation-append xs xs us vs (IsPermutation-refl xs) same

module _ {V : Type 0} where
  pub held_same : (test : ℕ × V → Bool) (new cells : List (Option (Cell V))) → IsPermutation (pairs_of new) (pairs_of cells) → held test new ≡ held test cells
  held_same test new cells same = sym (held_pairs test new) ∙ as_many (pairs_of new) (pairs_of cells) same test ∙ held_pairs test cells

  pub held_with : (test : ℕ × V → Bool) (new cells : List (Option (Cell V))) (cell : Option (Cell V)) → IsPermutation (pairs_of new) (pair_of cell ++ pairs_of cells)
      → held test new ≡ counted test cell + held test cells
  held_with test new cells cell same =
      let joined : count_by test (pair_of cell ++ pairs_of cells) ≡ count_by test (pair_of cell) + count_by test (pairs_of cells)
      = sum_by-append (λ p. cond (test p) 1 0) (pair_of cell) (pairs_of cells) in
      let many = as_many (pairs_of new) (pair_of cell ++ pairs_of cells) same test in
      let a = held_pairs test new in
      let b = held_pairs test cells in
      let c = count_of_cell test cell in
      omega arith

  -- a cell is written: what it had and the new pairs are what it gets and the old ones
  pub pairs-set : (cells : List (Option (Cell V))) (k : ℕ) (new : Option (Cell V)) → k < length cells
      → IsPermutation (pair_of (get_or cells k None) ++ pairs_of (set cells k new)) (pair_of new ++ pairs_of cells)
  pairs-set [] k new low = absurd (omega arith)
  pairs-set (cell ∷ cells) zero new low = swap_fronts (pair_of cell) (pair_of new) (pairs_of cells)
  pairs-set (cell ∷ cells) (suc k) new low =
      IsPermutation-trans
      (pair_of (get_or cells k None) ++ (pair_of cell ++ pairs_of (set cells k new)))
      (pair_of cell ++ (pair_of (get_or cells k None) ++ pairs_of (set cells k new)))
      (pair_of new ++ (pair_of cell ++ pairs_of cells))
      (swap_fronts (pair_of (get_or cells k None)) (pair_of cell) (pairs_of (set cells k new)))
      (IsPermutation-trans
      (pair_of cell ++ (pair_of (get_or cells k None) ++ pairs_of (set cells k new)))
      (pair_of cell ++ (pair_of new ++ pairs_of cells))
      (pair_of new ++ (pair_of cell ++ pairs_of cells))
      (under (pair_of cell) (pair_of (get_or cells k None) ++ pairs_of (set cells k new)) (pair_of new ++ pairs_of cells)
      (pairs-set cells k new (omega arith)))
      (swap_fronts (pair_of cell) (pair_of new) (pairs_of cells)))

  -- an empty cell is filled
  pub filled_pairs : (cells : List (Option (Cell V))) (at : ℕ) (new : Option (Cell V)) → at < length cells → mark_at cells at ≡ 0
      → IsPermutation (pairs_of (set cells at new)) (pair_of new ++ pairs_of cells)
  filled_pairs cells at new h empty =
      subst (λ (c : Option (Cell V)). IsPermutation (pair_of c ++ pairs_of (set cells at new)) (pair_of new ++ pairs_of cells))
      (is_empty (get_or cells at None) empty) (pairs-set cells at new h)

  -- a cell is emptied
  emptied_pairs : (cells : List (Option (Cell V))) (at : ℕ) → at < length cells
      → IsPermutation (pairs_of cells) (pair_of (get_or cells at None) ++ pairs_of (set cells at None))
  emptied_pairs cells at h =
      IsPermutation-sym (pair_of (get_or cells at None) ++ pairs_of (set cells at None)) (pairs_of cells) (pairs-set cells at None h)

  pub taken_pairs : (cells : List (Option (Cell V))) (at : ℕ) (cell : Cell V) → at < length cells → get_or cells at None ≡ Some cell
      → IsPermutation (pairs_of cells) ((cell.id, cell.value) ∷ pairs_of (set cells at None))
  taken_pairs cells at cell h e =
      subst (λ (c : Option (Cell V)). IsPermutation (pairs_of cells) (pair_of c ++ pairs_of (set cells at None))) e (emptied_pairs cells at h)

  -- what was taken stands apart, and the other cells move
  pub others_move : (all : List (ℕ × V)) (x : ℕ × V) (old new : List (Option (Cell V))) → IsPermutation all (x ∷ pairs_of old) → IsPermutation (pairs_of new) (pairs_of old)
      → IsPermutation all (x ∷ pairs_of new)
  others_move all x old new same moved =
      IsPermutation-trans all (x ∷ pairs_of old) (x ∷ pairs_of new) same
      (under (x ∷ []) (pairs_of old) (pairs_of new) (IsPermutation-sym (pairs_of new) (pairs_of old) moved))

  -- what a cell has moves into another one, which is empty
  pub moved_pairs : (cells : List (Option (Cell V))) (gap at : ℕ) → gap < length cells → at < length cells → gap ≢ at → mark_at cells gap ≡ 0
      → IsPermutation (pairs_of (set (set cells at None) gap (get_or cells at None))) (pairs_of cells)
  moved_pairs cells gap at hg ha apart empty =
      let size = length-set cells at None in
      let other : mark_at (set cells at None) gap ≡ 0 = ap mark_of (get_or-set_other cells at gap None None apart) ∙ empty in
      IsPermutation-trans
      (pairs_of (set (set cells at None) gap (get_or cells at None)))
      (pair_of (get_or cells at None) ++ pairs_of (set cells at None))
      (pairs_of cells)
      (filled_pairs (set cells at None) gap (get_or cells at None) (omega arith) other)
      (pairs-set cells at None ha)

  -- the ids of all cells are those of the pairs
  pub ids_of_pairs : (cells : List (Option (Cell V))) → flat_map id_list_of cells ≡ map (λ (pair : ℕ × V). pair.0) (pairs_of cells)
  ids_of_pairs [] = refl
  ids_of_pairs (None ∷ cells) = ids_of_pairs cells
  ids_of_pairs (Some cell ∷ cells) = ap (λ (ids : List ℕ). cell.id ∷ ids) (ids_of_pairs cells)

  pub all_empty : (cells : List (Option (Cell V))) → pairs_of cells ≡ [] → (k : ℕ) → get_or cells k None ≡ None
  all_empty [] none k = refl
  all_empty (None ∷ cells) none zero = refl
  all_empty (None ∷ cells) none (suc k) = all_empty cells none k
  all_empty (Some cell ∷ cells) none k = absurd (omega (arith, ap (λ (pairs : List (ℕ × V)). length pairs) none))
