use Rattle.std.proofs.Common.{List, take, zip}
use Rattle.fan_base.specs.declared.doc.Doc.{Doc}
use Rattle.query_model.specs.Parts.{weighted_score}
use Rattle.shard_index.specs.Places.{has_one}
use Rattle.shard_index.specs.Scored.{AreScored}
use Rattle.shard_index.specs.Standing.{Indexes}
use Rattle.shard_index.proofs.index.Index.scored.Given as goal

abbrev pub invariant-loop-i : goal.invariant-loop-i
invariant-loop-i l = (docs : List Doc) → Indexes l.self docs → AreScored l.scored.items (has_one (take l.i l.words)) (weighted_score (zip (take l.i l.words) (take l.i l.weights))) (take l.front docs)
