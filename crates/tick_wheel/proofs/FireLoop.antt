-- A slot that has fired part of the way.
use Rattle.std.proofs.Common.{◌≡◌, ℕ, ◌+◌, ◌%◌, ◌≤◌, List, ◌++◌, length, vec_len, vec_capacity}
use Rattle.std.specs.declared.vec.Vec.{Vec}
use Rattle.std.specs.declared.alloc.Global.{Global}
use Rattle.tick_wheel.specs.Firing.{IsFiring, IsPartOf}
use Rattle.tick_wheel.specs.Handouts.{handouts_of}
use Rattle.tick_wheel.specs.Kept.{timers_of}
use Rattle.tick_wheel.specs.Table.{Index, AreApart, AreAhead, AreSettled}
use Rattle.tick_wheel.specs.TimerList.{due_at, due_later}

pub record FiresSo {T X : Type 0} (handout : ℕ → T → X) (now : ℕ) (keys : List (ℕ × ℕ)) (place : ℕ) (index0 : Index T) (steps0 : ℕ) (index : Index T) (fired : Vec X Global) (steps : ℕ) : Type 0 where
  pub firing : IsFiring ((now + 1) % 256) keys place index
  pub apart : AreApart index
  pub ahead : AreAhead now index
  pub settled : AreSettled (now + 1) index
  pub part : IsPartOf index index0
  pub items : handouts_of handout (due_at (now + 1) (timers_of index0)) ≡ fired.items ++ handouts_of handout (due_at (now + 1) (timers_of index))
  pub rest : due_later (now + 1) (timers_of index) ≡ due_later (now + 1) (timers_of index0)
  pub len : vec_len fired ≤ place
  pub spare : length keys ≤ vec_capacity fired
  pub counted : steps ≡ steps0 + vec_len fired
