use Rattle.word_table.proofs.DocLemmas.{few-more, numbered-more}
use Rattle.word_table.proofs.numbered.numbers_stay.Goals as goal

pub returns-clause-more : goal.returns-clause-more
returns-clause-more c = numbered-more

pub returns-clause-few : goal.returns-clause-few
returns-clause-few c = few-more
