-- What a wheel hands out of its timers: what each carries, or its id.
use Rattle.std.specs.Prelude.{◌≡◌, ℕ, ◌+◌, List, map}
use Rattle.tick_wheel.specs.declared.timer.Timer.{Timer}
use Rattle.tick_wheel.specs.TimerList.{TimerList, due_at, due_later}

module _ {T X : Type 0} where
  abbrev pub handouts_of : (ℕ → T → X) → List (Timer T) → List X
  handouts_of handout = map (λ (t : Timer T). handout t.id t.item)

  -- one tick: what was due then has left in order of scheduling, and the rest stays
  pub record HandsOut (handout : ℕ → T → X) (old new : TimerList T) (handouts : List X) : Type 0 where
    pub now : new.tick ≡ old.tick + 1
    pub fired : handouts ≡ handouts_of handout (due_at new.tick old.timers)
    pub rest : new.timers ≡ due_later new.tick old.timers
