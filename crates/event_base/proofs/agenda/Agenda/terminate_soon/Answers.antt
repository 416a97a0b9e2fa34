use Rattle.std.proofs.Common.{rules}
use Rattle.event_base.specs.Calls.{Call}
use Rattle.event_base.proofs.Calling.{reached_one}
use Rattle.event_base.proofs.agenda.Agenda.terminate_soon.Goals as goal

pub returns-clause-calls : goal.returns-clause-calls
returns-clause-calls g c = reached_one g.J.Headed.head _ _ Call.terminate_soon tt (search rules)
