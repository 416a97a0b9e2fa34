use Rattle.std.proofs.Common.{◌≡◌, take, map, get_or}
use Rattle.shard_index.proofs.hits.ids_at.Given as goal

abbrev pub invariant-loop-i : goal.invariant-loop-i
invariant-loop-i l = l.first.items ≡ map (λ place. get_or l.ids place 0) (take l.i l.places)
