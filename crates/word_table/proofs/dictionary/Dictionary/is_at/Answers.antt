use Rattle.word_table.proofs.NumberLemmas.{at-key}
use Rattle.word_table.proofs.dictionary.Dictionary.is_at.Goals as goal

pub returns-then-is_short : goal.returns-then-is_short
returns-then-is_short c = λ keyed short.
    at-key c.args.self.now.keys.items c.args.self.now.words.items c.args.number c.key_of.result c.args.word.now keyed
    (c.has_key.ensures.within c.if-has_key.true) (c.has_key.ensures.key c.if-has_key.true) c.key_of.ensures (c.is_short.ensures short)
