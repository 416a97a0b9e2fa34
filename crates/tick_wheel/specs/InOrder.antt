-- Entries in the order of their numbers, of which no two are equal.
use Rattle.std.specs.Prelude.{ℕ, List, [], ◌∷◌}
use Rattle.std.specs.Ordering.{nat_cmp}
use Rattle.std.specs.FinMap.Entries.{put}

abbrev pub in_order : {A : Type 0} → List (ℕ × A) → List (ℕ × A)
in_order [] = []
in_order (e ∷ es) = put nat_cmp e.0 e.1 (in_order es)
