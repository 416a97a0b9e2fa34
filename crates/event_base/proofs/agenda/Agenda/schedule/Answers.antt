use Rattle.std.proofs.Common.{rules}
use Rattle.event_base.proofs.Calling.{reached_schedule}
use Rattle.event_base.proofs.agenda.Agenda.schedule.Goals as goal

pub returns-clause-calls : goal.returns-clause-calls
returns-clause-calls g c = reached_schedule g.J.Headed.head _ _ c.args.delay c.args.job c.schedule.result c.requires.exec c.requires.free (search rules) (search rules) (search rules) (search rules)
