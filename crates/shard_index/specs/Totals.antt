-- Totals and marks by place.
use Rattle.std.specs.Prelude.{ℕ, ◌+◌, List, Bool, true, set, get_or}
use Rattle.std.specs.List.{fold}

-- the totals, with a weight once more at this place
abbrev pub raised : ℕ → List ℕ → ℕ → List ℕ
raised weight totals place = set totals place (get_or totals place 0 + weight)

-- the totals, with a weight once more for each of these places
abbrev pub added_at : ℕ → List ℕ → List ℕ → List ℕ
added_at weight totals places = fold (raised weight) totals places

-- the marks, with those at these places set
abbrev pub marked_at : List Bool → List ℕ → List Bool
marked_at marks places = fold (λ ms place. set ms place true) marks places
