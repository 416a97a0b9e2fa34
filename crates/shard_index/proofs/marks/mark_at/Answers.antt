use Rattle.std.proofs.Common.{ap, length, take, arith}
use Rattle.shard_index.proofs.MarkLemmas.{length-marked}
use Rattle.shard_index.proofs.marks.mark_at.Goals as goal

pub index-requires : goal.index-requires
index-requires c =
    let many = ap length c.loop-place.invariant.marks in
    let same = length-marked c.args.marks.now.items (take c.loop-place.place-index c.args.places.now) in
    let low = c.requires c.loop-place.place-index 0 c.loop-place-test.true in
    omega (arith, many, same, low, c.loop-place.marks.ok)

pub index_mut-requires : goal.index_mut-requires
index_mut-requires c =
    let many = ap length c.loop-place.invariant.marks in
    let same = length-marked c.args.marks.now.items (take c.loop-place.place-index c.args.places.now) in
    let low = c.requires c.loop-place.place-index 0 c.loop-place-test.true in
    omega (arith, many, same, low, c.loop-place.marks.ok)
