use Rattle.word_table.proofs.NumberLemmas.{hint-right}
use Rattle.word_table.proofs.dictionary.Dictionary.find.Goals as goal

pub returns-in-Some : goal.returns-in-Some
returns-in-Some c = λ words knows. hint-right c.args.self.now words c.in-Some.number c.args.word.now knows (c.in-Some.ensures knows.keyed)
