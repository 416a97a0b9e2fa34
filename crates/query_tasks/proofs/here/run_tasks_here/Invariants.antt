use Rattle.std.proofs.Common.{List, ◌≡◌, ℕ, ◌+◌, ◌++◌, false, length, map}
use Rattle.query_tasks.specs.Starting.{runs_for}
use Rattle.fan_model.specs.Tasks.{Run}
use Rattle.run_notes.specs.Told.{TellOf, run_of_direct}
use Rattle.run_tasks.specs.Worlds.{Follows, MadeFor}
use Rattle.query_tasks.proofs.here.run_tasks_here.Given as goal

abbrev pub invariant-loop-shard : goal.invariant-loop-shard
invariant-loop-shard g l = record {
  follows : Follows l.initial.world l.world;
  direct : l.world.refused ≡ false →
      map run_of_direct l.direct ≡ map run_of_direct l.initial.direct ++ runs_for g.N.RunName.asked l.ask l.queue l.front l.shard;
  told : (before : List Run) → TellOf l.initial.direct before → TellOf l.direct (before ++ runs_for g.N.RunName.asked l.ask l.queue l.front l.shard);
  made : (n : ℕ) → MadeFor (n + length l.initial.direct) l.initial.world → MadeFor (n + length l.direct) l.world;
}
