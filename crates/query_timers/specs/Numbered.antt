-- Queries that wait, each at the place of its number.
use Rattle.std.specs.Prelude.{◌≡◌, ℕ, ◌+◌, List, [], ◌∷◌, Option, Some, None}
use Rattle.std.specs.List.{filter_map}
use Rattle.query_timers.specs.declared.query.DelayedQuery.{DelayedQuery}

-- those that are there
abbrev pub waiting_in : List (Option DelayedQuery) → List DelayedQuery
waiting_in slots = filter_map (λ slot. slot) slots

-- the first place is that of this number
abbrev pub AreNumbered : ℕ → List (Option DelayedQuery) → Type 0
AreNumbered number [] = Unit {0}
AreNumbered number (None ∷ slots) = AreNumbered (number + 1) slots
AreNumbered number (Some query ∷ slots) = (query.number ≡ number) × AreNumbered (number + 1) slots
