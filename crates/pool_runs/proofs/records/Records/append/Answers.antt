use Rattle.std.proofs.Common.{length, ap, arith}
use Rattle.pool_runs.proofs.Blocks.{no_more}
use Rattle.pool_runs.proofs.records.Records.append.Goals as goal

pub append_blocks-requires : goal.append_blocks-requires
append_blocks-requires c =
    omega (arith, c.requires, no_more c.self.inside.blocks c.self.invariant.1, no_more c.more.inside.blocks c.more.invariant.1, ap length c.self.view_is, ap length c.more.view_is)
