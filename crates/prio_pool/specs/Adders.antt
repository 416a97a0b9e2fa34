-- The passes of one adder on each queue.
use Rattle.std.specs.Prelude.{◌≡◌, ℕ, ◌<◌, ◌≤◌, List, [], ◌∷◌, ◌++◌, Some, map, length, slice_get, slice_set, vec_capacity, All}
use Rattle.std.specs.declared.alloc.Global.{Global}
use Rattle.crossbeam_queue.specs.SegTies.{SegId}
use Rattle.job_trait.specs.declared.job.Head.{Head}
use Rattle.pool_model.specs.declared.task.Entry.{Entry}
use Rattle.pool_model.specs.declared.task.Ticket.{Ticket}
use Rattle.pool_model.specs.Orders.{IsSameInAnyOrder}
use Rattle.pool_model.specs.Passes.{adds_of, pushed_by}
use Rattle.pool_model.specs.Seen.{PassSeen, at_queue}
use Rattle.pool_model.specs.Tasks.{Add, numbered}
use Rattle.prio_pool.specs.declared.adders.Adders.TheInside.{Inside}
use Rattle.pool_runs.specs.declared.placed.Placed.{Placed}
use Rattle.task_queue.specs.declared.rule.Queued.{Queued}
use Rattle.task_queue.specs.Seen.{AdderSeen}

-- what the queue sees of a task
abbrev pub entry_of : {J : Type 0} → (J → Head) → Queued (Placed J) → Entry
entry_of head task = record { ticket = task.ticket; head = head task.job.job }

-- the pass after a push of this task on this queue
abbrev pub and_pushed : PassSeen → ℕ → Entry → PassSeen
and_pushed p queue e = record p { pushed = slice_set p.pushed queue (at_queue p.pushed queue ++ e ∷ []) }

-- an add of a job with this head to this queue
abbrev pub add_on : ℕ → Head → Add
add_on queue head = record { queue = queue; head = head }

-- the pass with this number is of this queue and may push under this ticket
pub record MayPush (queue : SegId Global) (adders : List AdderSeen) (number : ℕ) (ticket : Ticket) : Type 0 where
  pub adder : AdderSeen
  pub at : slice_get adders number ≡ Some adder
  pub of_queue : adder.queue ≡ queue
  pub own : ticket.adder ≡ adder.number
  pub above : All (λ e. e.ticket.index < ticket.index) adder.pushed
  pub room : length adder.pushed < 4294967296

-- the pass with this number pushed one more
pub record PushedAt (old : List AdderSeen) (number : ℕ) (e : Entry) (new : List AdderSeen) : Type 0 where
  pub adder : AdderSeen
  pub at : slice_get old number ≡ Some adder
  pub new_is : new ≡ slice_set old number (record adder { pushed = adder.pushed ++ e ∷ [] })

-- What a pass pushed are its adds: each task has its number and an index below the count, each index once, and the adds in order are these tasks.
pub record AreAdds (count : ℕ) (p : PassSeen) : Type 0 where
  pub numbers : All (λ t. t.ticket.adder ≡ p.number) (pushed_by p)
  pub below : All (λ t. t.ticket.index < count) (pushed_by p)
  pub count_is : count ≡ length (pushed_by p)
  pub all : IsSameInAnyOrder (numbered p.number 0 (adds_of p)) (pushed_by p)

module _ {J : Type 0} where
  abbrev pub adders_seen : Inside J → PassSeen
  adders_seen a = record {
    pool = record { queues = map (λ p. p.queue) a.adders.items; passes = a.passes; mark = a.mark.value.mark };
    number = a.number;
    pushed = map (λ p. p.pushed) a.adders.items;
  }

  pub record IsAdders (a : Inside J) : Type 0 where
    pub each : All (λ p. (p.passes ≡ a.passes) × (p.number ≡ a.number)) a.adders.items
    pub adds : AreAdds a.count (adders_seen a)
    pub few : a.count ≤ 4294967295
    pub no_gathered : a.room.gathered.items ≡ []
    pub no_rests : a.room.rests.items ≡ []
    pub gathered_room : length a.adders.items ≤ vec_capacity a.room.gathered
    pub rests_room : length a.adders.items ≤ vec_capacity a.room.rests
