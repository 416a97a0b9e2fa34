-- How a record keeps the mark of its run.
use Rattle.std.specs.Prelude.{◌≢◌, ℕ, Bool, true, false, List, [], All}
use Rattle.fan_base.specs.declared.number.Mark.{Mark}
use Rattle.fan_base.specs.declared.number.Mark.TheVariants.{Done, Memory}
use Rattle.pool_model.specs.Records.{Record}

-- it did its work and this is its number, or it found no memory
abbrev pub mark_in : Bool → ℕ → Mark
mark_in true number = Done number
mark_in false number = Memory

-- each block has a record
abbrev pub AreFilled : List (List Record) → Type 0
AreFilled blocks = All (λ b. b ≢ []) blocks
