use Rattle.std.proofs.Common.{sym, ◌∙◌}
use Rattle.tick_wheel.proofs.Seen.{seen_holds}
use Rattle.tick_wheel.proofs.timers.Timers.holds.Goals as goal

pub returns : goal.returns
returns g c =
    let e = seen_holds _ c.self.inside.book c.args.self.now c.args.id c.holds.result c.self.invariant.apart c.self.view_is c.holds.ensures in
    (λ t. sym e ∙ t, λ t. e ∙ t)
