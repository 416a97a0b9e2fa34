use Rattle.std.proofs.Common.{length}
use Rattle.run_gathering.proofs.Counting.{forwarded}
use Rattle.run_gathering.proofs.job.complete.Goals as goal

pub returns-in-Some-clause-did : goal.returns-in-Some-clause-did
returns-in-Some-clause-did g c =
    forwarded (record { printer = c.world.inside.printer; tally = c.world.inside.tally; refused = c.world.inside.refused; waiting = length c.world.inside.scorings.items }) c.args.world.now c.schedule.new.world c.forward-scoring.new.tally c.args.agenda.now c.schedule.new.agenda
    c.world.view_is c.forward-scoring.ensures.tally c.schedule.ensures.did c.schedule.ensures.held
