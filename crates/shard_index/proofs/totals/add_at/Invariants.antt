use Rattle.std.proofs.Common.{◌≡◌, take}
use Rattle.word_table.specs.Told.{repeated}
use Rattle.shard_index.specs.Totals.{added_at}
use Rattle.shard_index.proofs.totals.add_at.Given as goal

abbrev pub invariant-loop-i : goal.invariant-loop-i
invariant-loop-i l = l.totals.items ≡ added_at l.weight l.initial.totals.items (repeated (take l.i l.places) (take l.i l.times))
