-- The ids of the documents read so far.
use Rattle.std.specs.Prelude.{ℕ, ◌≡◌, ◌≤◌, ◌==◌, ◌||◌, Bool, false}
use Rattle.std.specs.List.{list_any}
use Rattle.std.specs.Ordering.{nat_cmp}
use Rattle.std.specs.BTreeSet.{contains}
use Rattle.query_text.specs.declared.ids.Ids.{Ids}

-- whether an id is one of them
abbrev pub is_known : Ids → ℕ → Bool
is_known ids id = list_any (λ known. known == id) ids.rising.items || contains nat_cmp ids.others id

-- the next is above each of them
abbrev pub NextIsAbove : Ids → Type 0
NextIsAbove ids = (id : ℕ) → ids.next ≤ id → is_known ids id ≡ false
