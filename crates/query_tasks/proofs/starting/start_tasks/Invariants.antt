use Rattle.std.proofs.Common.{length}
use Rattle.pool_model.specs.Passes.{adds_of}
use Rattle.prio_pool.specs.Priority.{queue_in}
use Rattle.run_tasks.specs.Worlds.{MadeFor}
use Rattle.query_tasks.specs.Starting.{HasAdded, HasHelped, adds_for}
use Rattle.query_tasks.proofs.starting.start_tasks.Given as goal

abbrev pub invariant-loop-shard : goal.invariant-loop-shard
invariant-loop-shard g l = record {
  helped : HasHelped l.initial.world l.initial.helper l.world l.helper;
  added : HasAdded l.initial.adder (adds_for g.N.RunName.asked l.ask (queue_in l.pool.id l.fn.priority) l.shard) l.adder;
  made : MadeFor (length (adds_of l.initial.adder)) l.initial.world → MadeFor (length (adds_of l.adder)) l.world;
}
