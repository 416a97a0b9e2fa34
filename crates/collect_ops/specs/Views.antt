-- What a view says of its seat.
use Rattle.std.specs.Prelude.{ℕ, List, [], Option, Some, None}
use Rattle.atomic_table.specs.Seated.{TableId}
use Rattle.collect_ops.specs.declared.view.Phase.{Phase}
use Rattle.collect_ops.specs.declared.view.Phase.TheVariants as phase
use Rattle.collect_ops.specs.declared.view.View.{View}
use Rattle.collect_ops.specs.declared.view.View.TheVariants as view
use Rattle.collect_ops.specs.Seen.{DeskId}

module _ {X : Type 0} where
  -- 1 for an arrival that is still counted among those left, 0 for one whose outcome is kept
  abbrev pub waits : Phase X → ℕ
  waits phase.Ready = 1
  waits phase.Holding = 1
  waits (phase.Kept x found) = 0
  waits phase.Lost = 1
  waits phase.Claiming = 1
  waits phase.Claimed = 1
  waits (phase.Emptying xs) = 1
  waits (phase.Emptied xs) = 1
  waits (phase.Told xs k x) = 1

  -- what was kept
  abbrev pub kept_in : Phase X → Option X
  kept_in phase.Ready = None
  kept_in phase.Holding = None
  kept_in (phase.Kept x found) = Some x
  kept_in phase.Lost = None
  kept_in phase.Claiming = None
  kept_in phase.Claimed = None
  kept_in (phase.Emptying xs) = None
  kept_in (phase.Emptied xs) = None
  kept_in (phase.Told xs k x) = None

  -- the word that the deciding step found: the count, or 0 where nobody had claimed and 1 where another had
  abbrev pub found_in : Phase X → ℕ
  found_in phase.Ready = 0
  found_in phase.Holding = 0
  found_in (phase.Kept x found) = found
  found_in phase.Lost = 1
  found_in phase.Claiming = 0
  found_in phase.Claimed = 0
  found_in (phase.Emptying xs) = 1
  found_in (phase.Emptied xs) = 1
  found_in (phase.Told xs k x) = 1

  -- the outcomes by index, as the arrival that found 1 left got them
  abbrev pub list_in : Phase X → List X
  list_in phase.Ready = []
  list_in phase.Holding = []
  list_in (phase.Kept x found) = []
  list_in phase.Lost = []
  list_in phase.Claiming = []
  list_in phase.Claimed = []
  list_in (phase.Emptying xs) = xs
  list_in (phase.Emptied xs) = xs
  list_in (phase.Told xs k x) = xs

module _ {X E : Type 0} where
  abbrev pub size_in : View X E → ℕ
  size_in view.Making = 0
  size_in view.Opening = 0
  size_in (view.Opened n r) = n
  size_in (view.Dealing n r d) = n
  size_in (view.Owner n r) = n
  size_in (view.Arriving n r k p) = n
  size_in view.Clash = 0
  size_in view.Spent = 0

  abbrev pub end_in : View X E → Option E
  end_in view.Making = None
  end_in view.Opening = None
  end_in (view.Opened n r) = Some r.end
  end_in (view.Dealing n r d) = Some r.end
  end_in (view.Owner n r) = Some r.end
  end_in (view.Arriving n r k p) = Some r.end
  end_in view.Clash = None
  end_in view.Spent = None

  abbrev pub index_in : View X E → ℕ
  index_in view.Making = 0
  index_in view.Opening = 0
  index_in (view.Opened n r) = 0
  index_in (view.Dealing n r d) = d
  index_in (view.Owner n r) = 0
  index_in (view.Arriving n r k p) = k
  index_in view.Clash = 0
  index_in view.Spent = 0

  abbrev pub phase_in : View X E → Phase X
  phase_in view.Making = phase.Ready
  phase_in view.Opening = phase.Ready
  phase_in (view.Opened n r) = phase.Ready
  phase_in (view.Dealing n r d) = phase.Ready
  phase_in (view.Owner n r) = phase.Ready
  phase_in (view.Arriving n r k p) = p
  phase_in view.Clash = phase.Ready
  phase_in view.Spent = phase.Ready

  -- the desk that a view speaks of
  abbrev pub desk_in : TableId → View X E → DeskId E
  desk_in table v = record { table = table; size = size_in v; end = end_in v }
