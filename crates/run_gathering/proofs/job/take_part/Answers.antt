use Rattle.std.proofs.Common.{length}
use Rattle.run_gathering.proofs.Counting.{fired}
use Rattle.run_gathering.proofs.job.take_part.Goals as goal

pub returns-in-Kept-clause-did : goal.returns-in-Kept-clause-did
returns-in-Kept-clause-did g c =
    fired (record { printer = c.world.inside.printer; tally = c.world.inside.tally; refused = c.world.inside.refused; waiting = length c.world.inside.scorings.items }) c.args.world.now c.bring_part.new.tally c.args.agenda.now
    c.world.view_is c.bring_part.ensures.tally

pub returns-in-Unawaited-clause-did : goal.returns-in-Unawaited-clause-did
returns-in-Unawaited-clause-did g c =
    fired (record { printer = c.world.inside.printer; tally = c.world.inside.tally; refused = c.world.inside.refused; waiting = length c.world.inside.scorings.items }) c.args.world.now c.bring_part.new.tally c.args.agenda.now
    c.world.view_is c.bring_part.ensures.tally
