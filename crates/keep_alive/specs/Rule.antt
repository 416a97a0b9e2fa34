-- The rule of the count: what holds between any two steps.
use Rattle.std.specs.Prelude.{◌≡◌, ℕ, ◌+◌, ◌<◌, ◌≤◌, List, [], ◌∷◌}
use mathlib.Core.Option.{some}
use lib.ListN.{get_elem?}
use Rattle.atomic_table.specs.Table.{State}
use Rattle.keep_alive.specs.declared.view.View.{View}
use Rattle.keep_alive.specs.History.{Event, IsLawful, count_of, copies_of, releases_of, leaves_of}
use Rattle.keep_alive.specs.Views.{tokens_of, room_of, owner_of, released_of, HasFoundNone, KnowsWhole}

-- added up over all seats
abbrev pub total : (View → ℕ) → List View → ℕ
total f [] = 0
total f (v ∷ vs) = f v + total f vs

-- The word is what a lawful history leaves. What the seats hold is what the history made, and what they released stands in it.
-- The tokens and what they may still make are no more than the first token and the room that it had, which each token knows.
-- Once an owner has found 0, or a release 1, the count stays 0.
pub record CountHolds (s : State ℕ View) : Type 0 where
  pub history : List Event
  pub lawful : IsLawful history
  pub word : s.words ≡ count_of history ∷ []
  pub released : releases_of history ≡ total released_of s.views
  pub copied : copies_of history + 1 ≡ total tokens_of s.views + total released_of s.views
  pub owner : leaves_of history + total owner_of s.views ≡ 1
  pub whole : ℕ
  pub small : whole < 4294967296
  pub fits : total tokens_of s.views + total room_of s.views ≤ whole + 1
  pub known : (j : ℕ) (v : View) → get_elem? s.views j ≡ some v → KnowsWhole whole v
  pub closed : (j : ℕ) (v : View) → get_elem? s.views j ≡ some v → HasFoundNone v → count_of history ≡ 0
