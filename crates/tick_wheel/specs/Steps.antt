-- How many steps a tick may take. One step is one entry taken out of a slot.
use Rattle.std.specs.Prelude.{ℕ, ◌+◌, ◌-◌, ◌%◌, ◌==◌, nat_le, ◌&&◌, List, count_by, if◌then◌else◌}
use Rattle.tick_wheel.specs.declared.timer.Timer.{Timer}
use Rattle.tick_wheel.specs.TimerList.{TimerList}

module _ {T : Type 0} where
  -- how many are due at a tick
  abbrev pub count_due : ℕ → List (Timer T) → ℕ
  count_due tick = count_by (λ (t : Timer T). t.due == tick)

  -- how many are due from one tick to another
  abbrev pub count_between : ℕ → ℕ → List (Timer T) → ℕ
  count_between from to = count_by (λ (t : Timer T). nat_le from t.due && nat_le t.due to)

  -- where the tick is a multiple of the width: how many are due within the width from it on
  abbrev pub count_turning : ℕ → ℕ → List (Timer T) → ℕ
  count_turning width tick ts = if tick % width == 0 then count_between tick (tick + (width - 1)) ts else 0

  -- how many are due soon enough to be placed anew when now becomes this tick
  abbrev pub turning_bound : ℕ → List (Timer T) → ℕ
  turning_bound tick ts = count_turning 256 tick ts + count_turning 65536 tick ts + count_turning 16777216 tick ts

  -- the most steps of the next tick: those that fire, and those that are placed anew
  abbrev pub tick_bound : TimerList T → ℕ
  tick_bound list = count_due (list.tick + 1) list.timers + turning_bound (list.tick + 1) list.timers
