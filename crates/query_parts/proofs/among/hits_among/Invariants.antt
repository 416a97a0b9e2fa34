use Rattle.std.proofs.Common.{◌≡◌, ◌++◌}
use Rattle.std.specs.List.{filter_map}
use Rattle.std.specs.Vec.Iter.{into_iter_items}
use Rattle.query_parts.specs.Parts.{hits_in}
use Rattle.query_parts.proofs.among.hits_among.Given as goal

abbrev pub invariant-loop-part : goal.invariant-loop-part
invariant-loop-part l = l.all.items ++ filter_map hits_in (into_iter_items l.part-iterator) ≡ filter_map hits_in l.fn.parts.items
