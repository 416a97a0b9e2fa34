use Rattle.std.proofs.Common.{◌≡◌, ◌++◌, map}
use Rattle.std.specs.List.{filter_map}
use Rattle.std.specs.Vec.Iter.{into_iter_items}
use Rattle.line_table.specs.Numbered.{bare_line, numbered_doc}
use Rattle.line_table.proofs.table.LineTable.into_parts.Given as goal

abbrev pub invariant-loop-line : goal.invariant-loop-line
invariant-loop-line l = record {
  whole : l.yielded ++ into_iter_items l.line-iterator ≡ into_iter_items l.initial.line-iterator;
  docs : l.docs.items ≡ filter_map numbered_doc l.yielded;
  lines : l.bare.items ≡ map bare_line l.yielded;
}
