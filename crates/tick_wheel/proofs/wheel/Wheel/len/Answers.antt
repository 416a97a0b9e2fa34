use Rattle.std.proofs.Common.{◌∙◌}
use Rattle.tick_wheel.proofs.Ids.{seen_len}
use Rattle.tick_wheel.proofs.wheel.Wheel.len.Goals as goal

pub returns : goal.returns
returns c = c.len.ensures ∙ seen_len c.self.inside.timers c.args.self.now c.self.view_is
