use Rattle.std.proofs.Common.{◌-◌, ◌<◌, ◌≤◌, length, get_or}
use Rattle.shard_index.proofs.narrow.first_far.Given as goal

abbrev pub invariant-steps : goal.invariant-steps
invariant-steps l = record {
  order : l.from ≤ l.low;
  between : l.low ≤ l.high;
  within : l.high ≤ length l.places;
  front : l.from < l.low → get_or l.places (l.low - 1) 0 < l.place;
}

abbrev pub decreases-steps : goal.decreases-steps
decreases-steps l = length l.places - l.low

abbrev pub invariant-halves : goal.invariant-halves
invariant-halves l = record {
  order : l.from ≤ l.low;
  between : l.low ≤ l.high;
  within : l.high ≤ length l.places;
  front : l.from < l.low → get_or l.places (l.low - 1) 0 < l.place;
  behind : l.high < length l.places → l.place ≤ get_or l.places l.high 0;
}

abbrev pub decreases-halves : goal.decreases-halves
decreases-halves l = l.high - l.low
