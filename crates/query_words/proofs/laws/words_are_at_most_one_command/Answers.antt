use Rattle.query_words.proofs.Finding.{one_command}
use Rattle.query_words.proofs.laws.words_are_at_most_one_command.Goals as goal

pub returns : goal.returns
returns c = λ words a b h g. one_command words a b h g
