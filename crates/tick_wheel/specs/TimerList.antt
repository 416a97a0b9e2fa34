-- The list of timers, which is all that contracts see of a wheel.
use Rattle.std.specs.Prelude.{◌≡◌, ℕ, ◌+◌, ◌==◌, nat_le, not, if◌then◌else◌, List, [], ◌∷◌, ◌++◌, Option, map}
use Rattle.std.specs.List.{filter, find}
use Rattle.tick_wheel.specs.declared.timer.Timer.{Timer}
use Rattle.tick_wheel.specs.declared.timer.ScheduleFault.{ScheduleFault}
use Rattle.tick_wheel.specs.declared.timer.ScheduleFault.TheVariants.{ZeroDelay, DelayTooLong, Memory}
use Rattle.tick_wheel.specs.InOrder.{in_order}

-- the number of ticks made, and the timers that are held, in order of scheduling
pub record TimerList (T : Type 0) : Type 0 where
  pub tick : ℕ
  pub timers : List (Timer T)

module _ {T : Type 0} where
  -- the timer of an id, where one is held
  abbrev pub timer_at : ℕ → List (Timer T) → Option (Timer T)
  timer_at id = find (λ (t : Timer T). t.id == id)

  -- the timers of other ids
  abbrev pub without : ℕ → List (Timer T) → List (Timer T)
  without id = filter (λ (t : Timer T). not (t.id == id))

  -- the timers that are due at a tick, and the others
  abbrev pub due_at : ℕ → List (Timer T) → List (Timer T)
  due_at tick = filter (λ (t : Timer T). t.due == tick)

  abbrev pub due_later : ℕ → List (Timer T) → List (Timer T)
  due_later tick = filter (λ (t : Timer T). not (t.due == tick))

  -- what timers carry
  abbrev pub items_of : List (Timer T) → List T
  items_of = map (λ (t : Timer T). t.item)

  -- the timers in order of their ids
  abbrev pub by_id : List (Timer T) → List (Timer T)
  by_id ts = map (λ (e : ℕ × Timer T). e.1) (in_order (map (λ (t : Timer T). (t.id, t)) ts))

  -- the timers by due tick, and by order of scheduling where that is the same
  abbrev pub insert_due : Timer T → List (Timer T) → List (Timer T)
  insert_due t [] = t ∷ []
  insert_due t (u ∷ us) = if nat_le t.due u.due then t ∷ u ∷ us else u ∷ insert_due t us

  abbrev pub by_due : List (Timer T) → List (Timer T)
  by_due [] = []
  by_due (t ∷ ts) = insert_due t (by_due ts)

  -- one timer more, which was scheduled last
  abbrev pub scheduled : TimerList T → ℕ → ℕ → T → TimerList T
  scheduled old delay id item =
      record { tick = old.tick; timers = old.timers ++ record { due = old.tick + delay; id = id; item = item } ∷ [] }

  -- the id's timer is gone
  abbrev pub cancelled : TimerList T → ℕ → TimerList T
  cancelled old id = record { tick = old.tick; timers = without id old.timers }

  -- one tick: what was due then has left in order of scheduling, and the rest stays
  pub record Ticks (old new : TimerList T) (items : List T) : Type 0 where
    pub now : new.tick ≡ old.tick + 1
    pub fired : items ≡ items_of (due_at new.tick old.timers)
    pub rest : new.timers ≡ due_later new.tick old.timers

  -- what a refused call hands back
  abbrev pub handed_back : ScheduleFault T → T
  handed_back (ZeroDelay item) = item
  handed_back (DelayTooLong item) = item
  handed_back (Memory item) = item
