use Rattle.std.proofs.Common.{◌≡◌, ◌+◌, ◌-◌, ◌<◌, ◌≤◌, ◌++◌, length, drop, vec_capacity}
use Rattle.shard_index.proofs.ScoredLemmas.{summed, weighed}
use Rattle.shard_index.proofs.scored.with_places.Given as goal

abbrev pub invariant-both : goal.invariant-both
invariant-both l = record {
  within_scored : l.i ≤ length l.scored;
  within_places : l.j ≤ length l.places;
  few : length l.more.items ≤ l.i + l.j;
  room : length l.scored + length l.places ≤ vec_capacity l.more;
  so_far : l.more.items ++ summed (drop l.i l.scored) (weighed l.weight (drop l.j l.places) (drop l.j l.times)) ≡ summed l.scored (weighed l.weight l.places l.times);
}

abbrev pub decreases-both : goal.decreases-both
decreases-both l = (length l.scored - l.i) + (length l.places - l.j)

abbrev pub invariant-places : goal.invariant-places
invariant-places l = record {
  within_scored : l.i ≤ length l.scored;
  within_places : l.j ≤ length l.places;
  past : l.j < length l.places → length l.scored ≤ l.i;
  few : length l.more.items ≤ l.i + l.j;
  room : length l.scored + length l.places ≤ vec_capacity l.more;
  so_far : l.more.items ++ summed (drop l.i l.scored) (weighed l.weight (drop l.j l.places) (drop l.j l.times)) ≡ summed l.scored (weighed l.weight l.places l.times);
}

abbrev pub decreases-places : goal.decreases-places
decreases-places l = length l.places - l.j
