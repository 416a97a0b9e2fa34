-- The places that replies are held for.
use Rattle.std.specs.Prelude.{ℕ, ◌-◌, ◌^◌, ◌<◌, IsSome}
use Rattle.std.specs.Ordering.{nat_cmp}
use Rattle.std.specs.BTreeMap.{BTreeMap, get}

-- behind each place there is another
abbrev pub AreWithin : {R : Type 0} → BTreeMap ℕ R → Type 0
AreWithin held = (place : ℕ) → IsSome (get nat_cmp held place) → place < 2 ^ 64 - 1
