use Rattle.std.proofs.Common.{◌≡◌, length}
use Rattle.job_trait.specs.Runs.{Leads}
use Rattle.pool_model.specs.Records.{ran_of}
use Rattle.pool_model.specs.Steps.{steps_in}
use Rattle.prio_pool.specs.Takers.{RanTaken}
use Rattle.prio_pool.specs.Turned.{WorkedSoFar}
use Rattle.prio_pool.proofs.pool.Pool.work.Given as goal

abbrev pub invariant-loop : goal.invariant-loop
invariant-loop g l = record {
  pool : l.takers.pool ≡ l.initial.takers.pool;
  number : l.takers.number ≡ l.initial.takers.number;
  records : RanTaken l.takers l.records;
  ran : Leads g.J.Job.runs l.initial.world (ran_of l.records) l.world;
  worked : WorkedSoFar (length l.initial.takers.pool.queues) (steps_in l.takers.looks);
}
