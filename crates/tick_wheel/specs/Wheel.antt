-- A wheel of ids: its timers carry nothing, and are seen as if each carried its id.
use Rattle.std.specs.Prelude.{◌≡◌, ℕ, ◌+◌, List, map}
use Rattle.tick_wheel.specs.declared.timer.Timer.{Timer}
use Rattle.tick_wheel.specs.TimerList.{TimerList, due_at, due_later}

module _ {T : Type 0} where
  abbrev pub with_id : Timer T → Timer ℕ
  with_id t = record { due = t.due; id = t.id; item = t.id }

  abbrev pub with_ids : TimerList T → TimerList ℕ
  with_ids list = record { tick = list.tick; timers = map with_id list.timers }

abbrev pub ids_of : List (Timer ℕ) → List ℕ
ids_of = map (λ (t : Timer ℕ). t.id)

abbrev pub due_of : Timer ℕ → ℕ
due_of t = t.due

-- one tick: the ids that were due then have left in order of scheduling, and the rest stays
pub record TicksIds (old new : TimerList ℕ) (ids : List ℕ) : Type 0 where
  pub now : new.tick ≡ old.tick + 1
  pub fired : ids ≡ ids_of (due_at new.tick old.timers)
  pub rest : new.timers ≡ due_later new.tick old.timers
