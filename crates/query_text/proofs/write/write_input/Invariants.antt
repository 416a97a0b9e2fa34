use Rattle.std.proofs.Common.{◌≡◌, ◌++◌, ◌∷◌, [], take}
use Rattle.std.specs.List.{flat_map}
use Rattle.query_model.specs.Canonical.{line_text}
use Rattle.query_model.specs.Pieces.{line_feed}
use Rattle.query_text.proofs.write.write_input.Given as goal

abbrev pub invariant-loop-line : goal.invariant-loop-line
invariant-loop-line l = l.text.items ≡ flat_map (λ line. line_text line ++ line_feed ∷ []) (take l.line-index l.input.lines)
