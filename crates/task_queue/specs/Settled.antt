-- What a take tells, and a queue that has ended.
use Rattle.std.specs.Prelude.{◌≡◌, List, [], ◌∷◌, ◌++◌, Option, Some, None}
use Rattle.job_trait.specs.declared.job.Head.{Head}
use Rattle.pool_model.specs.declared.task.Entry.{Entry}
use Rattle.pool_model.specs.History.{Event}
use Rattle.pool_model.specs.Orders.{IsSameInAnyOrder}
use Rattle.task_queue.specs.declared.rule.Queued.{Queued}
use Rattle.task_queue.specs.declared.view.View.{View}
use Rattle.task_queue.specs.Seen.{TakerSeen, GatheredSeen}
use Rattle.task_queue.specs.Steps.{IsWhole}
use Rattle.task_queue.specs.Views.{entry_of, entries_of, gathered}

-- the taker has popped the task; or it is as it was
abbrev pub TakeTold : {J : Type 0} → (J → Head) → TakerSeen → TakerSeen → Option (Queued J) → Type 0
TakeTold head old new (Some task) = new ≡ record old { popped = old.popped ++ entry_of head task ∷ [] }
TakeTold head old new None = new ≡ old

-- all passes were put together in this one, and nothing was popped since
abbrev pub IsAll : View → Type 0
IsAll v = v ≡ gathered v.whole v.whole v.added v.taken []

-- the queue has a whole history in which this was left and nothing waits
pub record Drained (v : View) (rest : List Entry) : Type 0 where
  pub history : List Event
  pub whole : IsWhole v.added v.taken rest [] history

-- The queue has a whole history in which the rest was left and nothing waits; and what the adders pushed is, in any order, what the takers popped
-- and the rest.
pub record Settled (g : GatheredSeen) (rest : List Entry) : Type 0 where
  pub history : List Event
  pub whole : IsWhole g.added g.taken rest [] history
  pub balanced : IsSameInAnyOrder (entries_of g.added) (entries_of g.taken ++ rest)
