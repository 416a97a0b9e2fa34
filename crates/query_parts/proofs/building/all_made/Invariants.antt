use Rattle.std.proofs.Common.{◌≡◌, ◌++◌, Ok, map}
use Rattle.std.specs.Vec.Iter.{into_iter_items}
use Rattle.query_parts.proofs.building.all_made.Given as goal

abbrev pub invariant-loop-shard : goal.invariant-loop-shard
invariant-loop-shard l = map Ok l.all.items ++ into_iter_items l.shard-iterator ≡ l.fn.made.items
