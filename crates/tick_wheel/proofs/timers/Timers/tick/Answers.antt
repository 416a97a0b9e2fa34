use Rattle.tick_wheel.proofs.Seen.{items_ticked}
use Rattle.tick_wheel.proofs.timers.Timers.tick.Goals as goal

pub returns-clause-ok : goal.returns-clause-ok
returns-clause-ok g c = items_ticked c.args.self.now c.tick_list.new.self c.in_ok-items.items.items c.in_ok-items.ensures.ok
