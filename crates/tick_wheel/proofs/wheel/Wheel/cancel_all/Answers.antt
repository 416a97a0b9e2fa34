use Rattle.tick_wheel.proofs.Ids.{seen_swept, seen_gone}
use Rattle.tick_wheel.proofs.wheel.Wheel.cancel_all.Goals as goal

pub returns-clause-ok : goal.returns-clause-ok
returns-clause-ok c = seen_swept c.self.inside.timers c.args.self.now c.self.view_is _ c.in_ok-ids.ensures.ok

pub returns-clause-gone : goal.returns-clause-gone
returns-clause-gone c = seen_gone c.self.inside.timers c.args.self.now c.self.view_is c.take_list.new.self c.in_ok-ids.ensures.gone
