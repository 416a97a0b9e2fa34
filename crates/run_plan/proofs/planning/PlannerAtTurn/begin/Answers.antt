use Rattle.std.proofs.Common.{arith}
use Rattle.fan_model.specs.Comings.{Coming}
use Rattle.run_plan.proofs.planning.PlannerAtTurn.begin.Goals as goal

pub overflow_cast-turn : goal.overflow_cast-turn
overflow_cast-turn g c = omega (arith, c.requires.number, c.args.self.now.few, c.comings_are_queries.ensures.number g.N.Planned.lines c.args._place (Coming.begins c.requires.asked) c.requires.comes)
