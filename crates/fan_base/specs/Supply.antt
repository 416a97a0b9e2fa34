-- What a source in memory is, and what a read makes of it.
use Rattle.std.specs.Prelude.{ℕ, List, length, drop, min, Result, Ok, Err}
use Rattle.fan_base.specs.declared.refusal.Failed.{Failed}
use Rattle.fan_base.specs.Outside.{raised}

-- the bytes still to be read, the most that a call gives, the calls that fail, and how many calls and failures there were
pub record Supply : Type 0 where
  pub left : List ℕ
  pub piece : ℕ
  pub fails : List ℕ
  pub calls : ℕ
  pub faults : ℕ

abbrev pub fresh_supply : List ℕ → ℕ → List ℕ → Supply
fresh_supply bytes piece fails = record { left = bytes; piece = piece; fails = fails; calls = 0; faults = 0 }

-- how many bytes a read into so much room gives
abbrev pub read_size : Supply → ℕ → ℕ
read_size s room = min s.piece (min room (length s.left))

abbrev pub after_read : Supply → Result ℕ Failed → Supply
after_read s (Ok n) = record s { left = drop n s.left; calls = raised s.calls }
after_read s (Err _) = record s { calls = raised s.calls; faults = raised s.faults }
