-- The cells as a ring.
use Rattle.std.specs.Prelude.{ℕ, ◌+◌, ◌-◌, ◌*◌, ◌/◌, ◌%◌, ◌^◌, nat_le, nat_lt, if◌then◌else◌}

-- the cell at which the cells of an id begin
unfoldable pub home_of : ℕ → ℕ → ℕ
home_of bits id = ((id * 0x9e37_79b9_7f4a_7c15) % 2 ^ 64) / 2 ^ (60 - bits) * 3 / 16

-- the cell after this one
unfoldable pub next : ℕ → ℕ → ℕ
next size cell = if nat_lt (cell + 1) size then cell + 1 else 0

-- how many steps it is from one cell to another
unfoldable pub distance : ℕ → ℕ → ℕ → ℕ
distance size from to = if nat_le from to then to - from else (to + (size - from))
