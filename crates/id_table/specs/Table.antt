-- The fields of a table.
use Rattle.std.specs.Prelude.{◌≡◌, ℕ, ◌+◌, ◌*◌, ◌<◌, ◌≤◌, List, Option, length}
use Rattle.id_table.specs.declared.cell.Cell.{Cell}
use Rattle.id_table.specs.Cells.{filled}
use Rattle.id_table.specs.Probed.{IsProbed}

module _ {V : Type 0} where
  -- the number of the pairs is known, and the cells stand as they should where there are some
  pub record IsTable (bits len : ℕ) (cells : List (Option (Cell V))) : Type 0 where
    pub len_is : len ≡ filled cells
    pub probed : 0 < length cells → IsProbed bits cells

  -- there is room for one more
  pub record HasRoom (bits len : ℕ) (cells : List (Option (Cell V))) : Type 0 where
    pub len_is : len ≡ filled cells
    pub probed : IsProbed bits cells
    pub room : 3 * (len + 1) ≤ 2 * length cells
