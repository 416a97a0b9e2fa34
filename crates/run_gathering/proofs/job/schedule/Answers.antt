use Rattle.std.proofs.Common.{length}
use Rattle.run_gathering.proofs.Counting.{kept}
use Rattle.run_gathering.proofs.job.schedule.Goals as goal

pub returns-in-Ok-clause-did : goal.returns-in-Ok-clause-did
returns-in-Ok-clause-did g c = kept (record { printer = c.world.inside.printer; tally = c.world.inside.tally; refused = c.world.inside.refused; waiting = length c.world.inside.scorings.items }) c.args.world.now _ c.world.view_is
