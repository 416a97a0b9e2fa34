-- The passes of one worker or helper on each queue.
use Rattle.std.specs.Prelude.{◌≡◌, ℕ, ◌+◌, ◌-◌, ◌<◌, ◌≤◌, ◌^◌, ◌==◌, suc, List, [], ◌∷◌, ◌++◌, Option, Some, None, map, filter, length, slice_get, slice_set, All}
use Rattle.std.specs.declared.alloc.Global.{Global}
use Rattle.crossbeam_queue.specs.SegTies.{SegId}
use Rattle.job_trait.specs.declared.job.Head.{Head}
use Rattle.pool_model.specs.declared.task.Ending.{Ending}
use Rattle.pool_model.specs.declared.task.Entry.{Entry}
use Rattle.pool_model.specs.Endings.{AreLooksAt}
use Rattle.pool_model.specs.Orders.{IsSameInAnyOrder}
use Rattle.pool_model.specs.Records.{Record, AreRunsOf}
use Rattle.pool_model.specs.Seen.{PoolId, at_queue}
use Rattle.pool_model.specs.Steps.{Step, LookSeen, of_queue, of_mark, looked, found_empty, took, steps_in, tasks_taken, empty_from_the_top}
use Rattle.pool_model.specs.Tasks.{in_queue, upwards}
use Rattle.pool_model.specs.Tickets.{Ascend, tickets_of}
use Rattle.pool_runs.specs.declared.placed.Placed.{Placed}
use Rattle.prio_pool.specs.declared.takers.Takers.TheInside.{Inside}
use Rattle.prio_pool.specs.Adders.{entry_of}
use Rattle.task_queue.specs.declared.rule.Queued.{Queued}
use Rattle.task_queue.specs.Seen.{TakerSeen}

-- what is seen of the passes of one worker or helper: what it popped from each queue, how often it looked at the mark, what its last look found, and all
-- its looks, oldest first
pub record TakersSeen : Type 0 where
  pub pool : PoolId
  pub number : ℕ
  pub popped : List (List Entry)
  pub looked_so_often : ℕ
  pub found : Option Ending
  pub looks : List LookSeen

-- one look more
abbrev pub and_look : TakersSeen → LookSeen → TakersSeen
and_look t look = record { pool = t.pool; number = t.number; popped = t.popped; looked_so_often = t.looked_so_often; found = t.found; looks = t.looks ++ look ∷ [] }

-- after a look at the mark
abbrev pub and_looked : TakersSeen → Option Ending → TakersSeen
and_looked t found = record { pool = t.pool; number = t.number; popped = t.popped; looked_so_often = t.looked_so_often + 1; found = found; looks = t.looks ++ record { place = of_mark t.pool.mark; step = looked found } ∷ [] }

-- after a pop that found this queue empty
abbrev pub and_cleared : TakersSeen → ℕ → SegId Global → TakersSeen
and_cleared t queue at = and_look t record { place = of_queue at; step = found_empty queue }

-- after a pop from this queue
abbrev pub and_popped : TakersSeen → ℕ → SegId Global → Entry → TakersSeen
and_popped t queue at e = record { pool = t.pool; number = t.number; popped = slice_set t.popped queue (at_queue t.popped queue ++ e ∷ []); looked_so_often = t.looked_so_often; found = t.found; looks = t.looks ++ record { place = of_queue at; step = took queue e } ∷ [] }

-- its looks were at its pool, and the tasks that it took from each queue are what it popped there, in order
pub record HasTaken (t : TakersSeen) : Type 0 where
  pub looks : AreLooksAt t.pool t.looks
  pub of_queues : (queue : ℕ) → filter (λ x. x.queue == queue) (tasks_taken (steps_in t.looks)) ≡ in_queue queue (at_queue t.popped queue)
  pub all : IsSameInAnyOrder (tasks_taken (steps_in t.looks)) (upwards 0 t.popped)
  pub ascend : All (λ entries. Ascend (tickets_of entries)) t.popped
  pub short : All (λ (entries : List Entry). length entries ≤ 2 ^ 38) t.popped
  pub few : length t.popped ≤ 256
  pub as_many : length t.popped ≡ length t.pool.queues

-- the records are of runs of what was taken, in order
pub record RanTaken (t : TakersSeen) (records : List Record) : Type 0 where
  pub runs : AreRunsOf (tasks_taken (steps_in t.looks)) records

-- the pass with this number is of this queue
pub record HasTaker (takers : List TakerSeen) (number : ℕ) (queue : SegId Global) : Type 0 where
  pub taker : TakerSeen
  pub at : slice_get takers number ≡ Some taker
  pub of_queue : taker.queue ≡ queue
  pub few : number < 4294967296

-- the pass with this number popped the task
pub record PoppedAt (old : List TakerSeen) (number : ℕ) (e : Entry) (new : List TakerSeen) : Type 0 where
  pub taker : TakerSeen
  pub at : slice_get old number ≡ Some taker
  pub new_is : new ≡ slice_set old number (record taker { popped = taker.popped ++ e ∷ [] })
  pub ascend : Ascend (tickets_of (taker.popped ++ e ∷ []))
  pub short : length (taker.popped ++ e ∷ []) ≤ 2 ^ 38

-- it did, or it found none
abbrev pub TookAt : {J : Type 0} → (J → Head) → List TakerSeen → ℕ → List TakerSeen → Option (Queued (Placed J)) → Type 0
TookAt head old number new (Some task) = PoppedAt old number (entry_of head task) new
TookAt head old number new None = new ≡ old

-- what changes nothing but the looks, and what these steps are
pub record DidSteps (old new : TakersSeen) (steps : List Step) : Type 0 where
  pub pool : new.pool ≡ old.pool
  pub number : new.number ≡ old.number
  pub looked_same : new.looked_so_often ≡ old.looked_so_often
  pub found : new.found ≡ old.found
  pub steps_are : steps_in new.looks ≡ steps_in old.looks ++ steps

-- each queue above this one was found empty, from the highest down, and then the task was popped from this one
pub record TookNext {J : Type 0} (head : J → Head) (old : TakersSeen) (queue : ℕ) (task : Queued (Placed J)) (new : TakersSeen) : Type 0 where
  pub did : DidSteps old new (empty_from_the_top (length old.pool.queues) (length old.pool.queues - suc queue) ++ took queue (entry_of head task) ∷ [])
  pub within : queue < length old.pool.queues

-- all queues were found empty, from the highest down
pub record FoundNone (old new : TakersSeen) : Type 0 where
  pub did : DidSteps old new (empty_from_the_top (length old.pool.queues) (length old.pool.queues))
  pub popped : new.popped ≡ old.popped

module _ {J : Type 0} where
  abbrev pub takers_seen : Inside J → TakersSeen
  takers_seen t = record {
    pool = record { queues = map (λ p. p.queue) t.takers.items; passes = t.passes; mark = t.watch.mark };
    number = t.number;
    popped = map (λ p. p.popped) t.takers.items;
    looked_so_often = t.watch.looks;
    found = t.watch.found;
    looks = t.looks;
  }

  pub record IsTakers (t : Inside J) : Type 0 where
    pub each : All (λ p. (p.passes ≡ t.passes) × (p.number ≡ t.number)) t.takers.items
    pub taken : HasTaken (takers_seen t)
