use Rattle.tick_wheel.proofs.Ids.{seen_ticked, seen_bound}
use Rattle.tick_wheel.proofs.wheel.Wheel.tick.Goals as goal

pub returns-in_err-ids-clause-steps : goal.returns-in_err-ids-clause-steps
returns-in_err-ids-clause-steps g c = seen_bound c.self.inside.timers c.args.self.now c.self.view_is _ _ c.tick_list.ensures.steps

pub returns-clause-ok : goal.returns-clause-ok
returns-clause-ok g c = seen_ticked c.self.inside.timers c.args.self.now c.self.view_is c.tick_list.new.self c.in_ok-ids.ids.items c.in_ok-ids.ensures.ok

pub returns-clause-steps : goal.returns-clause-steps
returns-clause-steps g c = seen_bound c.self.inside.timers c.args.self.now c.self.view_is _ _ c.tick_list.ensures.steps
