-- A sweep part of the way.
use Rattle.std.proofs.Common.{◌≡◌, ℕ, ◌≤◌, List, ◌++◌, length, vec_len, vec_capacity}
use Rattle.std.specs.declared.vec.Vec.{Vec}
use Rattle.std.specs.declared.alloc.Global.{Global}
use Rattle.tick_wheel.specs.Handouts.{handouts_of}
use Rattle.tick_wheel.specs.Kept.{timers_of}
use Rattle.tick_wheel.specs.Sweep.{IsListed}
use Rattle.tick_wheel.specs.Table.{Index, AreApart}
use Rattle.tick_wheel.specs.TimerList.{by_id}

pub record SweepsSo {T X : Type 0} (handout : ℕ → T → X) (ids : List ℕ) (place : ℕ) (index0 : Index T) (index : Index T) (given : Vec X Global) : Type 0 where
  pub apart : AreApart index
  pub listed : IsListed ids place index
  pub moved : handouts_of handout (by_id (timers_of index0)) ≡ given.items ++ handouts_of handout (by_id (timers_of index))
  pub len : vec_len given ≡ place
  pub spare : length ids ≤ vec_capacity given
