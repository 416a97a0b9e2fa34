use Rattle.std.proofs.Common.{ℕ}
use Rattle.run_tasks.specs.Worlds.{Follows, MadeFor}
use Rattle.query_tasks.proofs.here.core_in_turn.Given as goal

abbrev pub invariant-loop : goal.invariant-loop
invariant-loop g l = record {
  follows : Follows l.initial.world l.world;
  made : (n : ℕ) → MadeFor n l.initial.world → MadeFor n l.world;
}
