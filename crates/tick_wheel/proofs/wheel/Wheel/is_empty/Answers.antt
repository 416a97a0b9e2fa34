use Rattle.tick_wheel.proofs.Ids.{seen_empty}
use Rattle.tick_wheel.proofs.wheel.Wheel.is_empty.Goals as goal

pub returns : goal.returns
returns c = seen_empty c.self.inside.timers c.args.self.now c.self.view_is c.is_empty.result c.is_empty.ensures
