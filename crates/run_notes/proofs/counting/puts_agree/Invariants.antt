use Rattle.std.proofs.Common.{◌≡◌, ◌<◌, ◌*◌, ℕ, slice_index_or}
use Rattle.event_base.specs.Seen.{NoteSeen}
use Rattle.run_notes.proofs.counting.puts_agree.Given as goal

abbrev pub invariant-loop-place : goal.invariant-loop-place
invariant-loop-place l = (k : ℕ) (d : NoteSeen) → k < l.place → (slice_index_or l.notes k d).put ≡ l.shards * slice_index_or l.counted.by_base.items k 0
