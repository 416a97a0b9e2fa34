-- A pool whose passes and ends were put together and whose queues were settled.
use Rattle.std.specs.Prelude.{◌≡◌, ℕ, List, Option, length, All}
use Rattle.std.specs.declared.alloc.Global.{Global}
use Rattle.crossbeam_queue.specs.SegTies.{SegId}
use Rattle.job_trait.specs.declared.job.Head.{Head}
use Rattle.pool_model.specs.declared.task.Ending.{Ending}
use Rattle.pool_model.specs.Endings.{RanWhatItTook}
use Rattle.pool_model.specs.Passes.{HasNoGap}
use Rattle.pool_model.specs.Seen.{PassSeen, EndSeen, Returned}
use Rattle.pool_runs.specs.declared.placed.Placed.{Placed}
use Rattle.prio_pool.specs.Gathering.{FoundAs, AllSettled, gathered_from}
use Rattle.pool_runs.specs.Returning.{back_from}
use Rattle.task_queue.specs.declared.rule.Queued.{Queued}

-- what is known of all passes and ends, and what was left in each queue
pub record CameTo {J : Type 0} (head : J → Head) (whole : ℕ) (queues : List (SegId Global)) (ending : Option Ending) (passes : List PassSeen) (ends : List EndSeen) (rests : List (List (Queued (Placed J)))) : Type 0 where
  pub gaps : All HasNoGap passes
  pub pushed : All (λ p. length p.pushed ≡ length queues) passes
  pub ran : All RanWhatItTook ends
  pub popped : All (λ e. length e.popped ≡ length queues) ends
  pub found : All (FoundAs ending) ends
  pub settled : AllSettled head (gathered_from whole passes ends 0 queues) rests

-- the same, with the tasks that are handed back
pub record CameBack {J : Type 0} (head : J → Head) (whole : ℕ) (queues : List (SegId Global)) (ending : Option Ending) (passes : List PassSeen) (ends : List EndSeen) (returned : List (Returned J)) : Type 0 where
  pub rests : List (List (Queued (Placed J)))
  pub came : CameTo head whole queues ending passes ends rests
  pub back : returned ≡ back_from 0 rests
