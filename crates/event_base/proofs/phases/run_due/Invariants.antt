use Rattle.std.specs.VecDeque.{deque_len}
use Rattle.event_base.proofs.SoFar.{AllSoFar}
use Rattle.event_base.proofs.phases.run_due.Given as goal

abbrev pub invariant-loop-job : goal.invariant-loop-job
invariant-loop-job g l = AllSoFar g.J.Headed.head g.J.LoopJob.runs l.initial.jobs.items (l.initial.world, l.initial.agenda) l.jobs.items (l.world, l.agenda)

abbrev pub decreases-loop-job : goal.decreases-loop-job
decreases-loop-job g l = deque_len l.jobs
