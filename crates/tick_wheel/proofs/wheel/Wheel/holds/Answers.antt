use Rattle.tick_wheel.proofs.Ids.{seen_holds}
use Rattle.tick_wheel.proofs.wheel.Wheel.holds.Goals as goal

pub returns : goal.returns
returns c = seen_holds c.self.inside.timers c.args.self.now c.self.view_is c.args.id c.holds.result c.holds.ensures
