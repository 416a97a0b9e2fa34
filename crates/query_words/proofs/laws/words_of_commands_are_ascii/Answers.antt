use Rattle.query_words.proofs.Ranges.{words_are_ascii}
use Rattle.query_words.proofs.laws.words_of_commands_are_ascii.Goals as goal

pub returns : goal.returns
returns c = λ words read h. words_are_ascii words read h
