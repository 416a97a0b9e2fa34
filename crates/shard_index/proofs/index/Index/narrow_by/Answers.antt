use Rattle.std.proofs.Common.{take}
use Rattle.word_table.specs.Numbers.{words_in}
use Rattle.shard_index.specs.Places.{has_word}
use Rattle.shard_index.proofs.BitLemmas.{bits-front, places-within}
use Rattle.shard_index.proofs.NarrowLemmas.{stand-where}
use Rattle.shard_index.proofs.index.Index.narrow_by.Goals as goal

pub narrow_by_bits-requires : goal.narrow_by_bits-requires
narrow_by_bits-requires c =
    let has = c.in-Some.ensures (words_in c.args.self.now.dictionary.value) c.requires.docs c.requires.word c.requires.indexes.bits c.requires.number_is in
    places-within c.in-Some.bits.now c.args.places.now c.requires.test (has_word c.requires.word) c.requires.front c.requires.docs has c.requires.places_are

pub returns-in-Some : goal.returns-in-Some
returns-in-Some c = λ p word front docs stands is are others.
    let has = c.in-Some.ensures (words_in c.args.self.now.dictionary.value) docs word stands.bits is in
    c.narrow_by_bits.ensures p (has_word word) (take front docs) are (bits-front c.in-Some.bits.now (has_word word) docs front has)

pub returns-in-None : goal.returns-in-None
returns-in-None c = λ p word front docs stands is are others.
    c.narrow.ensures p (has_word word) (take front docs) are (stand-where (has_word word) (take front docs) c.args.others.now others)
