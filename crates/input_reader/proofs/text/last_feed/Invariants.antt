use Rattle.std.proofs.Common.{◌≡◌, ◌≤◌, drop, length, false}
use Rattle.input_reader.specs.Texts.{HasNoFeed}
use Rattle.input_reader.proofs.text.last_feed.Given as goal

abbrev pub invariant-bytes : goal.invariant-bytes
invariant-bytes l = record { within : l.end ≤ length l.chunk; none : HasNoFeed (drop l.end l.chunk) }

abbrev pub decreases-bytes : goal.decreases-bytes
decreases-bytes l = l.end
