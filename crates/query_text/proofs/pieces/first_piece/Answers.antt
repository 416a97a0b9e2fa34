use Rattle.std.proofs.Common.{◌∙◌, sym}
use Rattle.std.proofs.lemmas.Option.{MatchOption-at_some, MatchOption-at_none}
use Rattle.query_text.proofs.CutLemmas.{pieces_cut, pieces_last}
use Rattle.query_text.proofs.pieces.first_piece.Goals as goal

pub returns-in-Some : goal.returns-in-Some
returns-in-Some c = pieces_cut _ _ _ c.cut.ensures.front (MatchOption-at_some _ _ _ c.in-Some.is c.cut.ensures.whole)

pub returns-in-None : goal.returns-in-None
returns-in-None c = pieces_last _ _ (sym c.is_empty.ensures ∙ c.if-is_empty.false) c.cut.ensures.front (MatchOption-at_none _ _ c.in-None.is c.cut.ensures.whole)
