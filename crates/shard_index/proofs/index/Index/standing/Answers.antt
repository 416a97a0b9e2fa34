use Rattle.std.proofs.Common.{sym, subst}
use Rattle.word_table.specs.declared.dictionary.Dictionary.{Dictionary}
use Rattle.word_table.specs.Numbers.{Knows, words_in}
use Rattle.shard_index.specs.Places.{standing_of}
use Rattle.shard_index.proofs.index.Index.standing.Goals as goal

pub places-requires : goal.places-requires
places-requires c = let docs = c.requires.0 in let stands = c.requires.1 in (words_in c.args.self.now.dictionary.value, (λ word. standing_of word docs), stands.places)

pub returns : goal.returns
returns c = λ docs stands.
    let known = words_in c.args.self.now.dictionary.value in
    c.places.ensures known (λ word. standing_of word docs) (subst (λ (d : Dictionary). Knows d known) (sym c.deref.ensures) stands.knows) stands.places
