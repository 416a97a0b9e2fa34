use Rattle.std.proofs.Common.{◌+◌, ◌<◌, ◌^◌, arith}
use Rattle.shard_index.proofs.MergeLemmas.{total-fits}
use Rattle.shard_index.proofs.merge.total_of.Goals as goal

pub overflow_add-total : goal.overflow_add-total
overflow_add-total c =
    let fits : c.loop-part.total + c.part-item.result.total < 2 ^ 64 = total-fits c.args.parts.now c.loop-part.part-index c.loop-part.total c.part-item.result
    c.loop-part-test.true c.part-item.is c.loop-part.invariant c.requires in
    omega arith
