-- A task that was refused.
use Rattle.std.specs.Prelude.{◌≡◌}
use Rattle.fan_base.specs.declared.refusal.Refused.{Refused}
use Rattle.fan_base.specs.declared.refusal.Refused.TheVariants.{Memory}
use Rattle.pool_runs.specs.declared.placed.Placed.{Placed}
use Rattle.task_queue.specs.declared.rule.Queued.{Queued}

-- the job of the task is refused
abbrev pub GivesJob : {J : Type 0} → Refused (Queued (Placed J)) → Refused J → Type 0
GivesJob (Memory task) r = r ≡ Memory task.job.job
