-- What a wheel shows of its index, and what the index keeps.
use Rattle.std.specs.Prelude.{ℕ, ◌≤◌, ◌<◌, ◌^◌, List, map}
use Rattle.tick_wheel.specs.Held.{Held}
use Rattle.tick_wheel.specs.declared.timer.Timer.{Timer}
use Rattle.tick_wheel.specs.InOrder.{in_order}
use Rattle.tick_wheel.specs.Table.{Index, AreApart, AreBelow, AreAhead, rank_of}

module _ {T : Type 0} where
  -- the held timers, each behind the number of its scheduling, in that order
  abbrev pub numbered : Index T → List (ℕ × Timer T)
  numbered index = in_order (map (λ (e : ℕ × Held T). rank_of e.0 e.1) index)

  -- the held timers in order of scheduling
  abbrev pub timers_of : Index T → List (Timer T)
  timers_of index = map (λ (r : ℕ × Timer T). r.1) (numbered index)

  -- what the index keeps
  pub record IsKept (tick next : ℕ) (index : Index T) : Type 0 where
    pub now : tick ≤ 2 ^ 63
    pub last : next < 2 ^ 64
    pub apart : AreApart index
    pub below : AreBelow next index
    pub ahead : AreAhead tick index
