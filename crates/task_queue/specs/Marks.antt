-- The end mark of a pool: its rule, what each kind of step tells, and what contracts see.
use Rattle.std.specs.Prelude.{◌≡◌, ◌≢◌, ℕ, zero, suc, ◌+◌, ◌≤◌, [], ◌∷◌, Option, Some, None}
use Rattle.std.specs.List.{sum_by}
use mathlib.Core.Option as core
use lib.ListN.{get_elem?}
use Rattle.atomic_table.specs.Seated.{TableId}
use Rattle.atomic_table.specs.Table.{State, Me, Step}
use Rattle.pool_model.specs.declared.task.Ending.{Ending}
use Rattle.pool_model.specs.declared.task.Ending.TheVariants.{Joins, Stops}
use Rattle.task_queue.specs.declared.mark.MarkView.{MarkView}

abbrev pub marking : ℕ → ℕ → ℕ → ℕ → MarkView
marking parts found theirs looks = record { parts = parts; found = found; theirs = theirs; looks = looks }

-- what a seat found, and what one that was put to it had found, is the mark
pub record KnowsMark (mark : ℕ) (v : MarkView) : Type 0 where
  pub found : v.found ≢ 0 → v.found ≡ mark
  pub theirs : v.theirs ≢ 0 → v.theirs ≡ mark

-- While the mark is 0 the seats have the parts of all adders, and from then on they have none.
pub record MarkHolds (adders : ℕ) (s : State ℕ MarkView) : Type 0 where
  pub mark : ℕ
  pub word : s.words ≡ mark ∷ []
  pub known : mark ≤ 2
  pub not_ended : mark ≡ 0 → sum_by (λ v. v.parts) s.views ≡ adders
  pub has_ended : mark ≢ 0 → sum_by (λ v. v.parts) s.views ≡ 0
  pub knows : (seat : ℕ) (v : MarkView) → get_elem? s.views seat ≡ core.some v → KnowsMark mark v

abbrev Place : Type 0
Place = Me ℕ MarkView

-- the seat has found the mark; where it had found one, it is that one
pub record Looked (me : Place) (found : ℕ) (after : Place) : Type 0 where
  pub after_is : after ≡ (marking me.0.parts found me.0.theirs (me.0.looks + 1), me.1)
  pub known : found ≤ 2
  pub stays : me.0.found ≢ 0 → found ≡ me.0.found

abbrev pub looks : Step ℕ → Place → ℕ → Place → Type 0
looks st me found after = Looked me found after

-- the seat, which has found the mark, has no part, and the one that was put to it had found the same, if any
pub record Agreed (me after : Place) : Type 0 where
  pub after_is : after ≡ (marking me.0.parts me.0.found 0 me.0.looks, me.1)
  pub no_part : me.0.parts ≡ 0
  pub same : me.0.theirs ≢ 0 → me.0.theirs ≡ me.0.found

abbrev pub agrees : Step ℕ → Place → ℕ → Place → Type 0
agrees st me found after = me.0.found ≢ 0 → Agreed me after

abbrev pub sets : Step ℕ → Place → ℕ → Place → Type 0
sets st me found after = after ≡ (marking 0 found 0 0, me.1)

-- which end a word says
abbrev pub ending_of : ℕ → Option Ending
ending_of zero = None
ending_of (suc zero) = Some Joins
ending_of (suc (suc n)) = Some Stops

-- a mark: which, and how many adders its pool has
pub record MarkSeen : Type 0 where
  pub mark : TableId
  pub adders : ℕ

-- the same, and the count of the keep-alives that are joined before it is set
pub record KeptSeen : Type 0 where
  pub mark : TableId
  pub adders : ℕ
  pub count : TableId

-- so many of the adders' parts of a mark
pub record OpenSeen : Type 0 where
  pub mark : TableId
  pub parts : ℕ

-- one that looks at a mark: how often it looked, and which end its last look found begun
pub record WatchSeen : Type 0 where
  pub mark : TableId
  pub looks : ℕ
  pub found : Option Ending

abbrev pub watch_of : TableId → MarkView → WatchSeen
watch_of mark v = record { mark = mark; looks = v.looks; found = ending_of v.found }

pub record IsWatch (me : Place) : Type 0 where
  pub knows : me ≡ (marking 0 me.0.found 0 me.0.looks, [])
  pub known : me.0.found ≤ 2
