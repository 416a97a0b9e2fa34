use Rattle.fan_model.proofs.TaskLaws.{task_count}
use Rattle.fan_model.proofs.laws.a_task_for_each_shard.Goals as goal

pub returns : goal.returns
returns c = λ lines shards exec queries. task_count lines shards exec queries
