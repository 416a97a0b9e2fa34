use Rattle.std.proofs.Common.{rules}
use Rattle.event_base.specs.Calls.{Call}
use Rattle.event_base.proofs.Calling.{reached_or_same}
use Rattle.event_base.proofs.agenda.Agenda.cancel_timers.Goals as goal

pub returns-clause-calls : goal.returns-clause-calls
returns-clause-calls g c = reached_or_same g.J.Headed.head _ _ Call.cancel_timers c.cancel_all.result tt (search rules) (search rules)
