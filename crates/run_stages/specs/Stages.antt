-- What stages have to be, and what their runs make of them.
use Rattle.std.specs.Prelude.{◌≡◌, ℕ, ◌<◌, List, length, slice_index_or}

-- each stage is ready
pub record AllReady {S : Type 0} (ready : S → Type 0) (stages : List S) : Type 0 where
  pub each : (k : ℕ) (d : S) → k < length stages → ready (slice_index_or stages k d)

-- each stage ran, at its place
pub record AllRan {S : Type 0} (ran : S → S → Type 0) (old new : List S) : Type 0 where
  pub as_many : length new ≡ length old
  pub each : (k : ℕ) (d : S) → k < length old → ran (slice_index_or old k d) (slice_index_or new k d)
