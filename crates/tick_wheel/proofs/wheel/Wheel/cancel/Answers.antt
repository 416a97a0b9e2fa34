use Rattle.std.proofs.Common.{None, Some, ◌∙◌}
use Rattle.tick_wheel.proofs.Ids.{seen_due, seen_cancelled}
use Rattle.tick_wheel.proofs.wheel.Wheel.cancel.Goals as goal

pub returns-in_err-due-clause-due : goal.returns-in_err-due-clause-due
returns-in_err-due-clause-due c =
    c.from_residual.ensures ∙ seen_due c.self.inside.timers c.args.self.now c.self.view_is c.args.id None c.in_err-due.ensures.timer

pub returns-in_err-due-clause-rest : goal.returns-in_err-due-clause-rest
returns-in_err-due-clause-rest c = seen_cancelled c.self.inside.timers c.args.self.now c.self.view_is c.cancel.new.self c.args.id c.cancel.ensures.rest

pub returns-clause-due : goal.returns-clause-due
returns-clause-due c = seen_due c.self.inside.timers c.args.self.now c.self.view_is c.args.id (Some c.in_ok-due.field-0) c.in_ok-due.ensures.timer

pub returns-clause-rest : goal.returns-clause-rest
returns-clause-rest c = seen_cancelled c.self.inside.timers c.args.self.now c.self.view_is c.cancel.new.self c.args.id c.cancel.ensures.rest
