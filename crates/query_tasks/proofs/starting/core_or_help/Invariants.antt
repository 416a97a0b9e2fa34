use Rattle.std.proofs.Common.{ℕ}
use Rattle.run_tasks.specs.Worlds.{MadeFor}
use Rattle.query_tasks.specs.Starting.{HasHelped}
use Rattle.query_tasks.proofs.starting.core_or_help.Given as goal

abbrev pub invariant-loop : goal.invariant-loop
invariant-loop g l = record {
  helped : HasHelped l.initial.world l.initial.helper l.world l.helper;
  made : (n : ℕ) → MadeFor n l.initial.world → MadeFor n l.world;
}
