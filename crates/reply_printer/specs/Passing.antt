-- What is written to a sink, and when it fails.
use Rattle.std.specs.Prelude.{◌≡◌, ℕ, List, ◌++◌}
use Rattle.std.specs.Io.KnownBytes.{Appends, Keeps}
use Rattle.fan_base.specs.Outside.{Shown, FaultsRose}

-- the sink gained these bytes, and nothing failed
pub record Gains (old new : Shown) (bytes : List ℕ) : Type 0 where
  pub gained : Appends old.bytes new.bytes bytes
  pub sound : new.faults ≡ old.faults

-- the sink gained a front of these bytes
pub record GainsFront (old new : Shown) (bytes : List ℕ) : Type 0 where
  pub front : List ℕ
  pub rest : List ℕ
  pub whole : bytes ≡ front ++ rest
  pub gained : Appends old.bytes new.bytes front

-- a source or a sink failed, and nothing was moved
pub record Fails (old new : Shown) : Type 0 where
  pub kept : Keeps old.bytes new.bytes
  pub rose : FaultsRose old.faults new.faults
