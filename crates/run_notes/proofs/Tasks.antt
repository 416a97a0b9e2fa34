-- How many tasks a report tells of: those of the early queries, which the pool accepted, and those of the late ones.
use Rattle.std.proofs.Common.{◌≡◌, ℕ, ◌+◌, ◌*◌, List, ◌++◌, length, sym, ap, ◌∙◌, length-append, arith}
use Rattle.std.specs.Prelude.{Option}
use Rattle.std.proofs.Math.Nat.{mul-add, mul_comm}
use Rattle.fan_base.specs.declared.number.ExecId.{ExecId}
use Rattle.query_model.specs.declared.line.Line.{Line}
use Rattle.query_model.specs.Order.{Asked}
use Rattle.pool_model.proofs.Lists.{sum_by-ones}
use Rattle.fan_model.specs.Answered.{answered_in, early_of, late_of}
use Rattle.fan_model.specs.Report.{Asking, IsPoolReport, PoolTold}
use Rattle.fan_model.specs.Tasks.{Run, early_runs, front_exec, late_runs, pool_exec, task_runs}

-- so many tasks of each of these queries and of those
both_parts : (early late queries shards first second : ℕ) → early + late ≡ queries → first ≡ early * shards → second ≡ late * shards → first + second ≡ queries * shards
both_parts early late queries shards first second both is are =
    omega (arith, is, are, mul_comm early shards, mul_comm late shards, mul-add shards early late)
    ∙ (ap (λ (n : ℕ). shards * n) both ∙ mul_comm shards queries)

pub all_tasks : (asked : Asking) (told : PoolTold) → ((stop_at : Option ℕ) (queries : List Asked) → early_of stop_at queries ++ late_of stop_at queries ≡ queries)
    → ((lines : List Line) (shards : ℕ) (exec : ExecId) (queries : List Asked) → length (task_runs lines shards exec queries) ≡ length queries * shards)
    → IsPoolReport asked told → told.accepted + length told.direct ≡ length (answered_in asked.lines) * asked.shards
unfolding early_runs late_runs
all_tasks asked told either each report =
    let queries : List Asked = answered_in asked.lines in
    let early : List Asked = early_of asked.stop_at queries in
    let late : List Asked = late_of asked.stop_at queries in
    let runs : List Run = late_runs asked.lines asked.shards asked.bases asked.stop_at in
    both_parts (length early) (length late) (length queries) asked.shards told.accepted (length told.direct)
    (sym (length-append early late) ∙ ap (λ (l : List Asked). length l) (either asked.stop_at queries))
    (report.accepted ∙ each asked.lines asked.shards pool_exec early)
    (sym (sum_by-ones told.direct) ∙ (report.late.weigh (λ _. 1) ∙ (sum_by-ones runs ∙ each asked.lines asked.shards (front_exec asked.bases) late)))
