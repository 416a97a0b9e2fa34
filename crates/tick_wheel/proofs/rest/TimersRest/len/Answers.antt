use Rattle.tick_wheel.proofs.Rested.{seen_left}
use Rattle.tick_wheel.proofs.rest.TimersRest.len.Goals as goal

pub returns : goal.returns
returns g c = seen_left c.self.inside.left c.self.inside.cells.items c.args.self.now c.self.invariant c.self.view_is
