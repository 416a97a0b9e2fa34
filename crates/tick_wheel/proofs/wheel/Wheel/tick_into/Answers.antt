use Rattle.tick_wheel.proofs.Ids.{seen_ticked, seen_bound}
use Rattle.tick_wheel.proofs.wheel.Wheel.tick_into.Goals as goal

pub returns-in_err-tick_to-clause-steps : goal.returns-in_err-tick_to-clause-steps
returns-in_err-tick_to-clause-steps g c = seen_bound c.self.inside.timers c.args.self.now c.self.view_is _ _ c.tick_to.ensures.steps

pub returns-clause-ok : goal.returns-clause-ok
returns-clause-ok g c = seen_ticked c.self.inside.timers c.args.self.now c.self.view_is c.tick_to.new.self c.tick_to.new.fired.items c.in_ok-tick_to.ensures.ok

pub returns-clause-steps : goal.returns-clause-steps
returns-clause-steps g c = seen_bound c.self.inside.timers c.args.self.now c.self.view_is _ _ c.tick_to.ensures.steps
