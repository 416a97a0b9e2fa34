use Rattle.std.proofs.Common.{rules}
use Rattle.event_base.specs.Calls.{Call}
use Rattle.event_base.proofs.Calling.{reached_one}
use Rattle.event_base.proofs.agenda.Agenda.cancel_timer.Goals as goal

pub returns-in_err-item-clause-calls : goal.returns-in_err-item-clause-calls
returns-in_err-item-clause-calls g c = reached_one g.J.Headed.head _ _ (Call.cancel_timer c.args.id) tt (search rules)

pub returns-clause-calls : goal.returns-clause-calls
returns-clause-calls g c = reached_one g.J.Headed.head _ _ (Call.cancel_timer c.args.id) tt (search rules)
