use Rattle.std.proofs.Common.{◌≡◌, ◌+◌, ◌-◌, ◌≤◌, ◌++◌, length, drop}
use Rattle.shard_index.proofs.JoinLemmas.{joined}
use Rattle.shard_index.proofs.join.all_near.Given as goal

abbrev pub invariant-places : goal.invariant-places
invariant-places l = record {
  within_first : l.i ≤ length l.first;
  within_second : l.j ≤ length l.second;
  kept : l.kept.items ++ joined (drop l.i l.first) (drop l.j l.second) ≡ joined l.first l.second;
}

abbrev pub decreases-places : goal.decreases-places
decreases-places l = (length l.first - l.i) + (length l.second - l.j)
