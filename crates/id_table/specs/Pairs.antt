-- What contracts see of a table: a list of pairs, each of an id and its value.
use Rattle.std.specs.Prelude.{◌≡◌, ℕ, ◌≤◌, ◌==◌, Bool, List, [], ◌∷◌, Option, Some, None, IsPermutation, count_by, length, option_map, if◌then◌else◌}

module _ {V : Type 0} where
  -- the value of an id
  abbrev pub value_of : List (ℕ × V) → ℕ → Option V
  value_of [] id = None
  value_of (pair ∷ pairs) id = if id == pair.0 then Some pair.1 else value_of pairs id

  -- whether a pair is of this id
  abbrev pub has_id : ℕ → ℕ × V → Bool
  has_id id pair = id == pair.0

  -- no id has two values
  abbrev pub AreDistinct : List (ℕ × V) → Type 0
  AreDistinct pairs = (id : ℕ) → count_by (has_id id) pairs ≤ 1

module _ {X : Type 0} where
  -- an id has another number in the first half of its value
  abbrev pub with_number : List (ℕ × (ℕ × X)) → ℕ → ℕ → List (ℕ × (ℕ × X))
  with_number [] id number = []
  with_number (pair ∷ pairs) id number = if id == pair.0 then (pair.0, (number, pair.1.1)) ∷ pairs else pair ∷ with_number pairs id number

  -- the number in the first half of an id's value
  abbrev pub number_of : List (ℕ × (ℕ × X)) → ℕ → Option ℕ
  number_of pairs id = option_map (λ (value : ℕ × X). value.0) (value_of pairs id)

  -- an id has another number there, and nothing else has changed
  pub record IsRenumbered (old new : List (ℕ × (ℕ × X))) (id number : ℕ) : Type 0 where
    pub list : new ≡ with_number old id number
    pub values : (q : ℕ) → value_of new q ≡ (if q == id then option_map (λ (value : ℕ × X). (number, value.1)) (value_of old q) else value_of old q)
    pub pairs : (value : ℕ × X) → value_of old id ≡ Some value → IsPermutation ((id, value) ∷ new) ((id, (number, value.1)) ∷ old)
    pub len : length new ≡ length old
    pub distinct : AreDistinct new
