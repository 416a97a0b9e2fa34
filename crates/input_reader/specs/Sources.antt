-- What is read from a source to its end.
use Rattle.std.specs.Prelude.{ℕ, ◌≡◌, ◌↔◌, ◌≤◌, ◌<◌, ◌+◌, List, [], length, Some, IfSome}
use Rattle.std.specs.Io.KnownBytes.{Consumes}
use Rattle.fan_base.specs.Outside.{Shown, FaultsRose}

-- the bytes that an input has at most
abbrev pub most_bytes : ℕ
most_bytes = 67108864

-- the bytes that a read asks for at most
abbrev pub most_asked : ℕ
most_asked = 65536

-- these bytes were read, none of them only at the source's end, and nothing failed
pub record ReadsChunk (old new : Shown) (got : List ℕ) : Type 0 where
  pub moved : Consumes old.bytes new.bytes got
  pub few : length got ≤ most_asked
  pub end : IfSome old.bytes (λ bytes. (got ≡ []) ↔ (bytes ≡ []))
  pub sound : new.faults ≡ old.faults

-- this text was all that the source had left, nothing failed, and it wasn't too much
pub record ReadsAll (old new : Shown) (text : List ℕ) : Type 0 where
  pub whole : IfSome old.bytes (λ bytes. (bytes ≡ text) × (new.bytes ≡ Some []))
  pub sound : new.faults ≡ old.faults
  pub few : length text ≤ most_bytes

-- too many bytes were read, though by no more than the last read, and nothing failed
pub record ReadsTooMuch (old new : Shown) (text : List ℕ) : Type 0 where
  pub consumed : Consumes old.bytes new.bytes text
  pub sound : new.faults ≡ old.faults
  pub many : most_bytes < length text
  pub one_read : length text ≤ most_bytes + most_asked

-- these bytes were read, at most one read too many of them, and nothing failed
pub record ReadsSome (old new : Shown) (text : List ℕ) : Type 0 where
  pub consumed : Consumes old.bytes new.bytes text
  pub sound : new.faults ≡ old.faults
  pub few : length text ≤ most_bytes + most_asked

-- behind these bytes, which weren't too many, a read failed
pub record FailsBehind (old new : Shown) (text : List ℕ) : Type 0 where
  pub consumed : Consumes old.bytes new.bytes text
  pub few : length text ≤ most_bytes
  pub rose : FaultsRose old.faults new.faults
