use Rattle.std.proofs.Common.{◌≡◌, Bool, List, map, take}
use Rattle.fan_base.specs.declared.doc.Doc.{Doc}
use Rattle.shard_index.specs.Places.{places_where}
use Rattle.shard_index.proofs.marks.marked.Given as goal

abbrev pub invariant-loop-i : goal.invariant-loop-i
invariant-loop-i l = (test : Doc → Bool) (docs : List Doc) → l.marks ≡ map test docs → l.places.items ≡ places_where test (take l.i docs)
