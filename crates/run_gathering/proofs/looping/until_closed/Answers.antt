use Rattle.run_gathering.proofs.Firing.{took_more}
use Rattle.run_gathering.proofs.Looped.{loops_start, loops_more}
use Rattle.run_gathering.proofs.looping.until_closed.Goals as goal

pub loop-init : goal.loop-init
loop-init g c = loops_start _ _ c.requires

pub returns-in-Some-Closed-clause-did : goal.returns-in-Some-Closed-clause-did
returns-in-Some-Closed-clause-did g c = took_more _ _ _ _ _ _ c.loop.invariant.did c.loop_once_more.ensures.did

pub loop-preserved : goal.loop-preserved
loop-preserved g c = loops_more _ _ _ _ _ _ c.loop.invariant c.loop_once_more.ensures.did c.loop_once_more.ensures.base
