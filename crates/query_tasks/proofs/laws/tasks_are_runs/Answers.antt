use Rattle.std.proofs.Common.{rules}
use Rattle.std.specs.List.{range_with_len}
use Rattle.fan_model.specs.Tasks.{pool_exec, queue_of, task_run}
use Rattle.prio_pool.specs.Adders.{add_on}
use Rattle.run_notes.specs.Told.{run_of_add}
use Rattle.query_tasks.specs.Starting.{head_on_pool}
use Rattle.query_tasks.proofs.Loops.{map_map}
use Rattle.query_tasks.proofs.laws.tasks_are_runs.Goals as goal

pub returns-clause-added : goal.returns-clause-added
returns-clause-added c asked ask is_ask shards =
    map_map (λ shard. add_on (queue_of is_ask.query.query.prio) (head_on_pool asked ask shard)) run_of_add
    (task_run asked.lines asked.shards pool_exec is_ask.query) (λ shard. search rules) (range_with_len 0 shards)
