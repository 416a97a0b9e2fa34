use Rattle.std.proofs.Common.{length}
use Rattle.query_model.specs.Pieces.{pieces}
use Rattle.query_text.specs.Progress.{HasRead}
use Rattle.query_text.proofs.reading.Reading.read.Given as goal

abbrev pub invariant-pieces : goal.invariant-pieces
invariant-pieces l = HasRead l.shards (pieces l.bytes) l.pieces l.fn.self (record { lines = l.lines; number = l.number })

abbrev pub decreases-pieces : goal.decreases-pieces
decreases-pieces l = length l.pieces
