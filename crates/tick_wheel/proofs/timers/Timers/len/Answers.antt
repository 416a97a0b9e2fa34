use Rattle.std.proofs.Common.{◌∙◌}
use Rattle.tick_wheel.proofs.Seen.{seen_length}
use Rattle.tick_wheel.proofs.timers.Timers.len.Goals as goal

pub returns : goal.returns
returns g c = c.len.ensures ∙ seen_length _ c.self.inside.book c.args.self.now c.self.invariant.apart c.self.view_is
