-- How the cells stand.
use Rattle.std.specs.Prelude.{◌≡◌, ◌≢◌, ℕ, ◌*◌, ◌^◌, ◌<◌, ◌≤◌, List, Option, length}
use Rattle.id_table.specs.declared.cell.Cell.{Cell}
use Rattle.id_table.specs.Pairs.{has_id}
use Rattle.id_table.specs.Cells.{id_at, mark_at, held, filled}
use Rattle.id_table.specs.Ring.{home_of, distance}

module _ {V : Type 0} where
  -- how far a cell is from the home of the id that it has, and how far another is from there
  abbrev pub own_steps : ℕ → List (Option (Cell V)) → ℕ → ℕ
  own_steps bits cells k = distance (length cells) (home_of bits (id_at cells k)) k

  abbrev pub steps_to : ℕ → List (Option (Cell V)) → ℕ → ℕ → ℕ
  steps_to bits cells k j = distance (length cells) (home_of bits (id_at cells k)) j

  -- no cell between an id's home and its own is empty, but for the hole
  abbrev pub IsReached : ℕ → List (Option (Cell V)) → ℕ → Type 0
  IsReached bits cells hole = (k j : ℕ) → k < length cells → j < length cells → 0 < mark_at cells k
      → steps_to bits cells k j < own_steps bits cells k → j ≢ hole → 0 < mark_at cells j

  -- there are three times 2^bits cells, 24 or more
  pub record IsSized (bits : ℕ) (cells : List (Option (Cell V))) : Type 0 where
    pub size : length cells ≡ 3 * 2 ^ bits
    pub some : 2 < bits
    pub within : bits < 57

  -- no id is held twice
  abbrev pub IsOnce : List (Option (Cell V)) → Type 0
  IsOnce cells = (id : ℕ) → held (has_id id) cells ≤ 1

  pub record IsProbed (bits : ℕ) (cells : List (Option (Cell V))) : Type 0 where
    pub sized : IsSized bits cells
    pub sparse : 3 * filled cells ≤ 2 * length cells
    pub once : IsOnce cells
    pub reached : IsReached bits cells (length cells)

  -- a look for an id ends at a cell: it has the id, or it is empty and no cell has the id
  pub record EndsLook (bits : ℕ) (cells : List (Option (Cell V))) (id cell : ℕ) : Type 0 where
    pub within : cell < length cells
    pub found : 0 < mark_at cells cell → id_at cells cell ≡ id
    pub missed : mark_at cells cell ≡ 0 → held (has_id id) cells ≡ 0
    pub way : (j : ℕ) → j < length cells → distance (length cells) (home_of bits id) j < distance (length cells) (home_of bits id) cell
        → 0 < mark_at cells j

  -- while a removal goes on: `gap` is empty, and the cells after it are looked at one by one, up to the empty cell `end`
  pub record IsShifting (bits : ℕ) (cells : List (Option (Cell V))) (gap at end : ℕ) : Type 0 where
    pub sized : IsSized bits cells
    pub gap_in : gap < length cells
    pub at_in : at < length cells
    pub end_in : end < length cells
    pub empty : mark_at cells gap ≡ 0
    pub stops : mark_at cells end ≡ 0
    pub before : distance (length cells) at end < distance (length cells) at gap
    pub reached : IsReached bits cells gap
    pub passed : (k : ℕ) → k < length cells → 0 < mark_at cells k → distance (length cells) gap k < distance (length cells) gap at
        → own_steps bits cells k ≤ steps_to bits cells k gap
