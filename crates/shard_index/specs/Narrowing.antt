-- Places that other places tell of.
use Rattle.std.specs.Prelude.{ℕ, ◌≡◌, ◌<◌, List, Bool, not, length, get_or, nat_eq, nat_lt, if◌then◌else◌}
use Rattle.std.specs.List.{list_any}
use Rattle.std.specs.List.Sorted.{IsPartitionedBy}
use Rattle.fan_base.specs.declared.doc.Doc.{Doc}

-- whether a place is one of these
abbrev pub has_place : List ℕ → ℕ → Bool
has_place places place = list_any (nat_eq place) places

-- whether a place is one of these, or, where those aren't wanted, whether it is none of them
abbrev pub passes : List ℕ → Bool → ℕ → Bool
passes places wanted place = if wanted then has_place places place else not (has_place places place)

-- places that ascend
abbrev pub AreParted : List ℕ → Type 0
AreParted places = (front : ℕ) → IsPartitionedBy (λ place. nat_lt place front) places

-- the places ascend, and are those of the documents that pass a test
pub record StandWhere (places : List ℕ) (test : Doc → Bool) (docs : List Doc) : Type 0 where
  pub parted : AreParted places
  pub are : (i : ℕ) (d : Doc) → i < length docs → has_place places i ≡ test (get_or docs i d)
