-- The timers of worked rows of calls, in order of scheduling.
use Rattle.std.specs.Prelude.{ℕ, List, [], ◌∷◌, ◌++◌}
use Rattle.tick_wheel.specs.declared.timer.Timer.{Timer}
use Rattle.tick_wheel.specs.TimerList.{TimerList}

-- a timer of a wheel of ids
abbrev pub timer_of : ℕ → ℕ → Timer ℕ
timer_of due id = record { due = due; id = id; item = id }

-- 255 ticks were made, and two timers are due at the next one
abbrev pub two_due : TimerList ℕ
two_due = record { tick = 255; timers = timer_of 256 1 ∷ timer_of 256 2 ∷ [] }

-- no tick was made, and behind these timers stands one that is due at the next
abbrev pub one_due_behind : List (Timer ℕ) → TimerList ℕ
one_due_behind far = record { tick = 0; timers = far ++ timer_of 1 5000 ∷ [] }
