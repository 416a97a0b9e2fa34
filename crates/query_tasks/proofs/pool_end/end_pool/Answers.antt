use Rattle.run_tasks.proofs.WorldLemmas.{leads-follow, leads-made}
use Rattle.query_tasks.proofs.pool_end.end_pool.Goals as goal

pub returns-in-Joins-clause-follows : goal.returns-in-Joins-clause-follows
returns-in-Joins-clause-follows g c = leads-follow _ _ _ c.join_all.ensures.led.1

pub returns-in-Stops-clause-follows : goal.returns-in-Stops-clause-follows
returns-in-Stops-clause-follows g c = leads-follow _ _ _ c.stop_all.ensures.all.back.leads

pub returns-in-Joins-clause-made : goal.returns-in-Joins-clause-made
returns-in-Joins-clause-made g c n = leads-made n _ _ _ c.join_all.ensures.led.1

pub returns-in-Stops-clause-made : goal.returns-in-Stops-clause-made
returns-in-Stops-clause-made g c n = leads-made n _ _ _ c.stop_all.ensures.all.back.leads
