use Rattle.std.proofs.Common.{◌-◌, ◌≡◌, ◌≤◌, map, take, drop, length}
use Rattle.job_trait.specs.Runs.{RunsAll}
use Rattle.job_trait.proofs.manual.ManualExecutor.run.Given as goal

abbrev pub invariant-loop-count : goal.invariant-loop-count
invariant-loop-count g l = record {
  left : l.self.jobs ≡ drop l.count l.initial.self.jobs;
  within : l.count ≤ length l.initial.self.jobs;
  below : l.count ≤ l.n;
  exec : l.self.exec ≡ l.initial.self.exec;
  ran : RunsAll g.J.Job.runs (map g.J.Headed.head (take l.count l.initial.self.jobs)) l.initial.world l.world;
}

abbrev pub decreases-loop-count : goal.decreases-loop-count
decreases-loop-count g l = l.n - l.count
