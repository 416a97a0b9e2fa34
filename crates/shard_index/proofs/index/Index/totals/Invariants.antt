use Rattle.std.proofs.Common.{◌≡◌, List, map, take, zip}
use Rattle.fan_base.specs.declared.doc.Doc.{Doc}
use Rattle.query_model.specs.Parts.{weighted_score}
use Rattle.shard_index.specs.Standing.{Indexes}
use Rattle.shard_index.proofs.index.Index.totals.Given as goal

abbrev pub invariant-loop-i : goal.invariant-loop-i
invariant-loop-i l = (docs : List Doc) → Indexes l.self docs → l.totals.items ≡ map (weighted_score (zip (take l.i l.words) (take l.i l.weights))) (take l.front docs)
