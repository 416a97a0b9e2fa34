use Rattle.tick_wheel.proofs.Ids.{seen_free}
use Rattle.tick_wheel.proofs.wheel.Wheel.schedule.Goals as goal

pub schedule-requires : goal.schedule-requires
schedule-requires c = seen_free c.self.inside.timers c.args.self.now c.self.view_is c.args.id c.requires
