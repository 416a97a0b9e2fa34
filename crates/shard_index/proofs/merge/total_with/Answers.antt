use Rattle.std.proofs.Common.{◌^◌, ap, get_or, arith}
use Rattle.shard_index.proofs.MergeLemmas.{total-with-fits}
use Rattle.shard_index.proofs.merge.total_with.Goals as goal

pub overflow_add-total : goal.overflow_add-total
overflow_add-total c =
    let fits = total-with-fits c.args.parts.now c.args.i c.loop-part.part-index c.loop-part.total (2 ^ 64) c.part-item.result c.loop-part-test.true c.part-item.is c.loop-part.invariant c.requires.fits in
    let same = ap (λ xs. get_or xs c.args.i 0) c.as_slice.ensures in
    omega (arith, fits, same)
