use Rattle.std.proofs.Common.{sym, subst}
use Rattle.word_table.specs.declared.dictionary.Dictionary.{Dictionary}
use Rattle.word_table.specs.Numbers.{Knows, words_in}
use Rattle.shard_index.proofs.index.Index.places_with.Goals as goal

pub returns : goal.returns
returns c = λ docs stands.
    let known = words_in c.args.self.now.dictionary.value in
    c.places_of.ensures docs c.args.word.now stands (c.find.ensures known (subst (λ (d : Dictionary). Knows d known) (sym c.deref.ensures) stands.knows))
