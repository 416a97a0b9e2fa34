-- What the cells hold.
use Rattle.std.specs.Prelude.{ℕ, suc, ◌==◌, Bool, true, List, [], ◌∷◌, Option, Some, None, slice_index_or, slice_set, if◌then◌else◌}
use Rattle.std.specs.List.{flat_map, sum_by}
use Rattle.id_table.specs.declared.cell.Cell.{Cell}

module _ {V : Type 0} where
  -- the pair of a cell, where it isn't empty
  abbrev pub pair_of : Option (Cell V) → List (ℕ × V)
  pair_of None = []
  pair_of (Some cell) = (cell.id, cell.value) ∷ []

  -- the pairs of all cells
  abbrev pub pairs_of : List (Option (Cell V)) → List (ℕ × V)
  pairs_of cells = flat_map pair_of cells

  -- the id of a cell, where it isn't empty
  abbrev pub id_list_of : Option (Cell V) → List ℕ
  id_list_of None = []
  id_list_of (Some cell) = cell.id ∷ []

  -- the id of a cell, and 0 where it is empty
  abbrev pub id_of : Option (Cell V) → ℕ
  id_of None = 0
  id_of (Some cell) = cell.id

  -- 0 where the cell is empty, and otherwise 1
  abbrev pub mark_of : Option (Cell V) → ℕ
  mark_of None = 0
  mark_of (Some cell) = 1

  abbrev pub id_at : List (Option (Cell V)) → ℕ → ℕ
  id_at cells k = id_of (slice_index_or cells k None)

  abbrev pub mark_at : List (Option (Cell V)) → ℕ → ℕ
  mark_at cells k = mark_of (slice_index_or cells k None)

  -- 1 where a cell has a pair that passes the test
  unfoldable pub counted : (ℕ × V → Bool) → Option (Cell V) → ℕ
  counted test None = 0
  counted test (Some cell) = if test (cell.id, cell.value) then 1 else 0

  -- how many pairs pass a test
  abbrev pub held : (ℕ × V → Bool) → List (Option (Cell V)) → ℕ
  held test cells = sum_by (counted test) cells

  -- how many cells aren't empty
  abbrev pub filled : List (Option (Cell V)) → ℕ
  filled cells = held (λ (pair : ℕ × V). true) cells

  -- the first empty cell
  abbrev pub first_empty : List (Option (Cell V)) → ℕ
  first_empty [] = 0
  first_empty (cell ∷ cells) = if mark_of cell == 0 then 0 else suc (first_empty cells)

  -- a cell holds something else
  abbrev pub replaced : List (Option (Cell V)) → ℕ → Cell V → List (Option (Cell V))
  replaced cells at new = slice_set (slice_set cells at None) at (Some new)

module _ {X : Type 0} where
  -- the same with another number in the first half of its value
  abbrev pub renumbered : Cell (ℕ × X) → ℕ → Cell (ℕ × X)
  renumbered cell number = record { id = cell.id; value = (number, cell.value.1) }
