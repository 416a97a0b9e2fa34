use Rattle.std.proofs.Common.{length, ap, arith}
use Rattle.pool_runs.proofs.Blocks.{block_more, no_more}
use Rattle.pool_runs.proofs.records.Records.push.Goals as goal

pub append_blocks-requires : goal.append_blocks-requires
append_blocks-requires c =
    omega (arith, c.requires, no_more c.self.inside.blocks c.self.invariant.1, ap length c.self.view_is, ap length c.in-Err.ensures.back.1, ap length c.fill.ensures)

pub invariant_of-self-in-Err : goal.invariant_of-self-in-Err
invariant_of-self-in-Err c =
    let i = c.self.invariant in
    block_more c.self.inside.blocks c.push_last.new.blocks c.fill.result c.append_blocks.new.blocks c.in-Err.entry c.self.inside.count c.in-Err.ensures.back.1 c.fill.ensures c.append_blocks.ensures i.0 i.1
