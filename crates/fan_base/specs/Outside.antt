-- What a read of a source and a write to a sink do, and when their faults have risen.
use Rattle.std.specs.Prelude.{ℕ, ◌+◌, min, ◌≡◌, ◌<◌, ◌≤◌, ◌⊎◌, ◌↔◌, List, [], length, take, Option, Result, IfOk, IfSome, OnOk, OnErr}
use Rattle.std.specs.Io.KnownBytes.{Appends, Consumes, Keeps}
use Rattle.fan_base.specs.declared.refusal.Failed.{Failed}

-- the last number of a counter of 64 bits
abbrev pub last_count : ℕ
last_count = 18446744073709551615

-- a count one higher, which stays at its type's end
abbrev pub raised : ℕ → ℕ
raised n = min (n + 1) last_count

-- a count of faults has risen, or stands at its type's end
pub record FaultsRose (old new : ℕ) : Type 0 where
  pub never_falls : old ≤ new
  pub rose : (old < new) ⊎ (old ≡ last_count)

-- what a source or a sink shows: the bytes that it tells of, and its count of faults
pub record Shown : Type 0 where
  pub bytes : Option (List ℕ)
  pub faults : ℕ

abbrev pub shown : Option (List ℕ) → ℕ → Shown
shown bytes faults = record { bytes = bytes; faults = faults }

-- a read that left its buffer as `buf`: it moved the first bytes of what was left there, none exactly at the end; or it
-- failed, its faults have risen and nothing was moved
pub record Reads (old new : Shown) (result : Result ℕ Failed) (buf : List ℕ) : Type 0 where
  pub bound : IfOk result (λ n. n ≤ length buf)
  pub moved : IfOk result (λ n. Consumes old.bytes new.bytes (take n buf))
  pub end : IfOk result (λ n. IfSome old.bytes (λ bytes. (n ≡ 0) ↔ (bytes ≡ [])))
  pub sound : OnOk result (new.faults ≡ old.faults)
  pub rose : OnErr result (FaultsRose old.faults new.faults)
  pub kept : OnErr result (Keeps old.bytes new.bytes)

-- a write of `bytes`: it appended the first n of them; or it failed, its faults have risen and nothing was appended. A write
-- that took nothing has failed too.
pub record Writes (old new : Shown) (result : Result ℕ Failed) (bytes : List ℕ) : Type 0 where
  pub bound : IfOk result (λ n. n ≤ length bytes)
  pub gained : IfOk result (λ n. Appends old.bytes new.bytes (take n bytes))
  pub sound : IfOk result (λ n. 0 < n → new.faults ≡ old.faults)
  pub full : IfOk result (λ n. n ≡ 0 → FaultsRose old.faults new.faults)
  pub rose : OnErr result (FaultsRose old.faults new.faults)
  pub kept : OnErr result (Keeps old.bytes new.bytes)
