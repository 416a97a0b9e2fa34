use Rattle.std.proofs.Common.{◌≡◌, ℕ, length, sym, subst, arith}
use Rattle.word_table.specs.Told.{HasTold}
use Rattle.shard_index.specs.Places.{standing_of}
use Rattle.shard_index.proofs.IndexLemmas.{places-front, places-whole, told-parted}
use Rattle.shard_index.proofs.index.Index.places_of.Goals as goal

pub of_number-requires : goal.of_number-requires
of_number-requires c = c.requires.1.places.told

pub returns-then-front-len : goal.returns-then-front-len
returns-then-front-len c = λ docs word stands is.
    let all : c.args.front ≡ length c.args.self.now.ids.items = omega (arith, c.if-front-len.true, c.len.ensures, c.args.self.now.ids.ok) in
    let tell = c.of_number.ensures (standing_of word docs) (subst (λ (n : ℕ). HasTold c.args.self.now.places n (standing_of word docs)) (sym is) (stands.places.places word)) in
    places-whole c.args.self.now docs c.args.front word c.of_number.result.0.now c.of_number.result.1.now stands all tell

pub returns : goal.returns
returns c = λ docs word stands is.
    let tell = c.of_number.ensures (standing_of word docs) (subst (λ (n : ℕ). HasTold c.args.self.now.places n (standing_of word docs)) (sym is) (stands.places.places word)) in
    places-front docs c.args.front word c.of_number.result.0.now c.of_number.result.1.now c.below.result.now tell
    (c.below.ensures (told-parted docs c.args.front word c.of_number.result.0.now c.of_number.result.1.now tell))
