use Rattle.std.proofs.Common.{◌≡◌, map, sum, take}
use Rattle.query_parts.specs.Parts.{mark_in}
use Rattle.query_parts.proofs.among.total_of.Given as goal

abbrev pub invariant-loop-part : goal.invariant-loop-part
invariant-loop-part l = l.total ≡ sum (map mark_in (take l.part-index l.parts))
