use Rattle.query_tasks.proofs.Helping.{helped_makes, helped_once}
use Rattle.query_tasks.proofs.starting.help_once.Goals as goal

pub returns-clause-helped : goal.returns-clause-helped
returns-clause-helped g c = helped_once _ _ _ _ _ c.help-helped.ensures.pool.0 c.help-helped.ensures.pool.1 c.help-helped.ensures.helped

pub returns-clause-made : goal.returns-clause-made
returns-clause-made g c n has = helped_makes n _ _ _ _ _ c.help-helped.ensures.helped has
