use Rattle.query_words.proofs.Ranges.{is_in_range}
use Rattle.query_words.proofs.laws.commands_are_in_range.Goals as goal

pub returns : goal.returns
returns c = λ words read h. is_in_range words read h
