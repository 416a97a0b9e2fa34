use Rattle.std.proofs.Common.{arith}
use Rattle.fan_model.specs.Comings.{Coming}
use Rattle.run_plan.proofs.planning.PlannerAtTurn.cancel.Goals as goal

pub overflow_cast-number : goal.overflow_cast-number
overflow_cast-number g c = omega (arith, c.requires.names, c.args.self.now.few, c.comings_are_queries.ensures.number g.N.Planned.lines c.args._place (Coming.cancels c.requires.asked) c.requires.comes)
