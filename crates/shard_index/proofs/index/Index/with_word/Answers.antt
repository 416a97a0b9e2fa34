use Rattle.std.proofs.Common.{◌≡◌, ℕ, List, length, take, refl, sym}
use Rattle.std.proofs.lemmas.List.{length-take-le}
use Rattle.fan_base.specs.declared.doc.Doc.{Doc}
use Rattle.fan_base.specs.declared.word.Word.{Word}
use Rattle.word_table.specs.Told.{Tell}
use Rattle.shard_index.specs.Places.{front_of, standing_of}
use Rattle.shard_index.specs.Scored.{StandAt}
use Rattle.shard_index.proofs.IndexLemmas.{places-front, times-enough, told-front, told-parted}
use Rattle.shard_index.proofs.index.Index.with_word.Goals as goal

-- the front of a word's places stands for the first documents
stand-front : (docs : List Doc) (front : ℕ) (word : Word) (places times below : List ℕ) → Tell places times (standing_of word docs) → below ≡ front_of front places
    → StandAt below (take (length below) times) word (take front docs)
stand-front docs front word places times below tell cut = record {
  once = places-front docs front word places times below tell cut;
  many = length-take-le (length below) times (times-enough (standing_of word docs) front places times below tell cut);
  are = told-front docs front word places times below (take (length below) times) tell cut refl;
}

pub standing-requires : goal.standing-requires
standing-requires c = (c.requires.docs, c.requires.indexes)

pub slice_bounds-with_places-end : goal.slice_bounds-with_places-end
slice_bounds-with_places-end c =
    let tell = c.standing.ensures c.requires.docs c.requires.indexes in
    let cut = c.below-places.ensures (told-parted c.requires.docs c.args.front c.args.word.now c.standing.result.0.now c.standing.result.1.now tell) in
    sym (length-take-le (length c.below-places.result.now) c.standing.result.1.now
    (times-enough (standing_of c.args.word.now c.requires.docs) c.args.front c.standing.result.0.now c.standing.result.1.now c.below-places.result.now tell cut))

pub with_places-requires : goal.with_places-requires
with_places-requires c =
    let tell = c.standing.ensures c.requires.docs c.requires.indexes in
    let cut = c.below-places.ensures (told-parted c.requires.docs c.args.front c.args.word.now c.standing.result.0.now c.standing.result.1.now tell) in
    record {
      docs = take c.args.front c.requires.docs;
      test = c.requires.test;
      score = c.requires.score;
      word = c.args.word.now;
      scored_are = c.requires.scored_are;
      stand = stand-front c.requires.docs c.args.front c.args.word.now c.standing.result.0.now c.standing.result.1.now c.below-places.result.now tell cut;
      room = c.requires.room;
    }

pub returns : goal.returns
returns c = λ docs test score stands before.
    let tell = c.standing.ensures docs stands in
    let cut = c.below-places.ensures (told-parted docs c.args.front c.args.word.now c.standing.result.0.now c.standing.result.1.now tell) in
    c.with_places.ensures test score c.args.word.now (take c.args.front docs) before
    (stand-front docs c.args.front c.args.word.now c.standing.result.0.now c.standing.result.1.now c.below-places.result.now tell cut)
