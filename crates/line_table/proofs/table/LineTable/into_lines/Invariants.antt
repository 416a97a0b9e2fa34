use Rattle.std.proofs.Common.{◌≡◌, map}
use Rattle.word_table.specs.Numbers.{words_in}
use Rattle.line_table.specs.Numbered.{line_by}
use Rattle.line_table.proofs.table.LineTable.into_lines.Given as goal

abbrev pub invariant-loop-line : goal.invariant-loop-line
invariant-loop-line l = l.all.items ≡ map (line_by (words_in l.dictionary)) l.yielded
