use Rattle.std.proofs.Common.{length, ap, sym, ◌∙◌, arith}
use Rattle.word_table.proofs.NumberLemmas.{none-found}
use Rattle.word_table.proofs.dictionary.Dictionary.looked_up.Goals as goal

pub returns-in-None : goal.returns-in-None
returns-in-None c = λ words knows.
    let none = none-found words c.args.word.now (sym (c.in-None.ensures.value ∙ knows.numbered c.args.word.now)) in
    omega (arith, c.len.ensures, c.args.self.now.words.ok, ap length knows.words_are, none)
