use Rattle.event_base.proofs.Leading.{round_leads}
use Rattle.event_base.proofs.laws.a_round_leads.Goals as goal

pub returns : goal.returns
returns g c = round_leads g.J.Headed.head g.J.LoopJob.runs
