use Rattle.std.proofs.lemmas.List.Elements.{recursion_from_All}
use Rattle.query_model.specs.Documents.{IsLine}
use Rattle.query_model.proofs.WalkLaws.{one_walk}
use Rattle.query_model.proofs.laws.one_walk_gives_all_replies.Goals as goal

pub returns : goal.returns
returns c = λ lines are. one_walk lines (recursion_from_All IsLine lines are)
