use Rattle.tick_wheel.proofs.Seen.{items_ticked}
use Rattle.tick_wheel.proofs.timers.Timers.tick_into.Goals as goal

pub returns-clause-ok : goal.returns-clause-ok
returns-clause-ok g c = items_ticked c.args.self.now c.tick_to.new.self c.tick_to.new.fired.items c.in_ok-tick_to.ensures.ok
