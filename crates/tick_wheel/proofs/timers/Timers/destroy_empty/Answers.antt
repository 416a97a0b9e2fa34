use Rattle.tick_wheel.proofs.Seen.{seen_empty}
use Rattle.tick_wheel.proofs.timers.Timers.destroy_empty.Goals as goal

pub destroy_empty-requires : goal.destroy_empty-requires
destroy_empty-requires g c = seen_empty _ c.self.inside.book c.args.self c.self.invariant.apart c.self.view_is c.requires
