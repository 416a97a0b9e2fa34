-- What a sink in memory is, and what a write makes of it.
use Rattle.std.specs.Prelude.{ℕ, ◌-◌, ◌≤◌, ◌⊎◌, List, [], ◌++◌, length, take, min, Contains, Result, Ok, Err}
use Rattle.fan_base.specs.declared.refusal.Failed.{Failed}
use Rattle.fan_base.specs.Outside.{raised}

-- the bytes that it holds and how many it can hold, the most that a call takes, the calls that fail, and how many calls and
-- failures there were
pub record Store : Type 0 where
  pub holds : List ℕ
  pub capacity : ℕ
  pub piece : ℕ
  pub fails : List ℕ
  pub calls : ℕ
  pub faults : ℕ

abbrev pub empty_store : ℕ → ℕ → List ℕ → Store
empty_store capacity piece fails =
    record { holds = []; capacity = capacity; piece = piece; fails = fails; calls = 0; faults = 0 }

-- the next write fails: it is one of the listed calls, or there is no room
abbrev pub FailsNext : Store → Type 0
FailsNext s = Contains s.fails s.calls ⊎ (s.capacity ≤ length s.holds)

-- how many of so many bytes a write takes
abbrev pub write_size : Store → ℕ → ℕ
write_size s size = min s.piece (min size (s.capacity - length s.holds))

abbrev pub after_write : Store → List ℕ → Result ℕ Failed → Store
after_write s bytes (Ok n) = record s { holds = s.holds ++ take n bytes; calls = raised s.calls }
after_write s bytes (Err _) = record s { calls = raised s.calls; faults = raised s.faults }
