use Rattle.std.proofs.Common.{◌≡◌, ◌++◌}
use Rattle.std.specs.Vec.Iter.{into_iter_items}
use Rattle.query_parts.proofs.building.put_behind.Given as goal

abbrev pub invariant-loop-shard : goal.invariant-loop-shard
invariant-loop-shard l = l.all.items ++ into_iter_items l.shard-iterator ≡ l.initial.all.items ++ l.fn.more.items
