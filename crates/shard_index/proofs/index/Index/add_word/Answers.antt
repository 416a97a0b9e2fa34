use Rattle.std.proofs.Common.{◌≡◌, ◌^◌, length, take, ap, refl, sym, ◌∙◌}
use Rattle.std.proofs.lemmas.List.{length-map, length-take-le}
use Rattle.word_table.specs.Told.{repeated}
use Rattle.shard_index.specs.Places.{has_word, standing_of}
use Rattle.shard_index.specs.Totals.{added_at}
use Rattle.shard_index.proofs.IndexLemmas.{places-front, times-enough, told-front, told-parted}
use Rattle.shard_index.proofs.TotalLemmas.{added-word, places-within, word-fits}
use Rattle.shard_index.proofs.index.Index.add_word.Goals as goal

pub standing-requires : goal.standing-requires
standing-requires c = (c.requires.docs, c.requires.indexes)

pub slice_bounds-add_at-end : goal.slice_bounds-add_at-end
slice_bounds-add_at-end c =
    let tell = c.standing.ensures c.requires.docs c.requires.indexes in
    let cut = c.below-places.ensures (told-parted c.requires.docs c.args.front c.args.word.now c.standing.result.0.now c.standing.result.1.now tell) in
    sym (length-take-le (length c.below-places.result.now) c.standing.result.1.now
    (times-enough (standing_of c.args.word.now c.requires.docs) c.args.front c.standing.result.0.now c.standing.result.1.now c.below-places.result.now tell cut))

pub add_at-requires-clause-many : goal.add_at-requires-clause-many
add_at-requires-clause-many c =
    let tell = c.standing.ensures c.requires.docs c.requires.indexes in
    let cut = c.below-places.ensures (told-parted c.requires.docs c.args.front c.args.word.now c.standing.result.0.now c.standing.result.1.now tell) in
    length-take-le (length c.below-places.result.now) c.standing.result.1.now
    (times-enough (standing_of c.args.word.now c.requires.docs) c.args.front c.standing.result.0.now c.standing.result.1.now c.below-places.result.now tell cut)

pub add_at-requires-clause-places : goal.add_at-requires-clause-places
add_at-requires-clause-places c =
    let docs = take c.args.front c.requires.docs in
    let tell = c.standing.ensures c.requires.docs c.requires.indexes in
    let cut = c.below-places.ensures (told-parted c.requires.docs c.args.front c.args.word.now c.standing.result.0.now c.standing.result.1.now tell) in
    places-within (has_word c.args.word.now) docs c.below-places.result.now (length c.args.totals.now.items)
    (places-front c.requires.docs c.args.front c.args.word.now c.standing.result.0.now c.standing.result.1.now c.below-places.result.now tell cut)
    (ap length c.requires.totals_are ∙ length-map docs c.requires.score)

pub add_at-requires-clause-fits : goal.add_at-requires-clause-fits
add_at-requires-clause-fits c =
    let docs = take c.args.front c.requires.docs in
    let below = c.below-places.result.now in
    let beside = take (length below) c.standing.result.1.now in
    let tell = c.standing.ensures c.requires.docs c.requires.indexes in
    let cut = c.below-places.ensures (told-parted c.requires.docs c.args.front c.args.word.now c.standing.result.0.now c.standing.result.1.now tell) in
    word-fits c.args.weight c.args.word.now c.requires.score docs c.args.totals.now.items (repeated below beside) (2 ^ 64) c.requires.room c.requires.totals_are
    (told-front c.requires.docs c.args.front c.args.word.now c.standing.result.0.now c.standing.result.1.now below beside tell cut refl)

pub returns : goal.returns
returns c = λ docs score stands is.
    let first = take c.args.front docs in
    let below = c.below-places.result.now in
    let beside = take (length below) c.standing.result.1.now in
    let tell = c.standing.ensures docs stands in
    let cut = c.below-places.ensures (told-parted docs c.args.front c.args.word.now c.standing.result.0.now c.standing.result.1.now tell) in
    let at : repeated below beside ≡ standing_of c.args.word.now first = told-front docs c.args.front c.args.word.now c.standing.result.0.now c.standing.result.1.now below beside tell cut refl in
    c.add_at.ensures ∙ ((λ i. added_at c.args.weight (is i) (at i)) ∙ added-word c.args.weight c.args.word.now score first)
