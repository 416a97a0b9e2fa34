use Rattle.std.proofs.Common.{◌≡◌, take}
use Rattle.std.specs.List.{list_all}
use Rattle.query_text.specs.Cuts.{is_small}
use Rattle.query_text.proofs.line.are_small.Given as goal

abbrev pub invariant-loop-byte : goal.invariant-loop-byte
invariant-loop-byte l = l.all ≡ list_all is_small (take l.byte-index l.text)
