-- A pool that has ended: what its workers and helpers did, a history of each queue, and what ran last.
use Rattle.std.specs.Prelude.{◌≡◌, ◌≢◌, ℕ, ◌<◌, ◌==◌, List, ◌++◌, length, map, filter, slice_get, All, Some, None}
use Rattle.std.specs.List.{flat_map}
use Rattle.fan_base.specs.declared.number.JobId.{JobId}
use Rattle.fan_base.specs.declared.number.Mark.{Mark}
use Rattle.job_trait.specs.declared.job.Head.{Head}
use Rattle.job_trait.specs.Runs.{Leads}
use Rattle.pool_model.specs.declared.task.Ending.{Ending}
use Rattle.pool_model.specs.declared.task.Ending.TheVariants.{Joins, Stops}
use Rattle.pool_model.specs.declared.task.Entry.{Entry}
use Rattle.pool_model.specs.History.{Event, PoolHistory, accepts, outs, takes, lefts, accepted_by, taken_by}
use Rattle.pool_model.specs.Orders.{IsSameInAnyOrder}
use Rattle.pool_model.specs.Steps.{Place, of_queue, of_mark, LookSeen, Step, looked, found_empty, took, tasks_taken}
use Rattle.pool_model.specs.Tasks.{in_queue, upwards, downwards}
use Rattle.pool_model.specs.Tickets.{Ascend, tickets_of}
use Rattle.pool_model.specs.Records.{Record, AreRunsOf, ran_of}
use Rattle.pool_model.specs.Seen.{PoolId, PassSeen, EndSeen, steps_by, Returned, at_queue, task_of}
use Rattle.pool_model.specs.Passes.{HasNoGap}

-- the records of all these ends, one end after another
abbrev pub records_of : List EndSeen → List Record
records_of ends = flat_map (λ e. e.records) ends

-- the step was at this place of the pool: a look at the mark at its mark, a pop at the queue with that number
abbrev pub IsAt : PoolId → Place → Step → Type 0
IsAt pool place (looked found) = place ≡ of_mark pool.mark
IsAt pool place (found_empty queue) = slice_get (map of_queue pool.queues) queue ≡ Some place
IsAt pool place (took queue e) = slice_get (map of_queue pool.queues) queue ≡ Some place

-- these are looks at this pool
abbrev pub AreLooksAt : PoolId → List LookSeen → Type 0
AreLooksAt pool looks = All (λ l. IsAt pool l.place l.step) looks

-- The records of a worker or helper are of runs of the tasks that it took, in the order of the takes, each once; and the tasks that it took from each
-- queue are what it popped there, in order, in which the tickets of each adder ascend.
pub record RanWhatItTook (e : EndSeen) : Type 0 where
  pub looks : AreLooksAt e.pool e.looks
  pub runs : AreRunsOf (tasks_taken (steps_by e)) e.records
  pub of_queue : (queue : ℕ) → filter (λ t. t.queue == queue) (tasks_taken (steps_by e)) ≡ in_queue queue (at_queue e.popped queue)
  pub all : IsSameInAnyOrder (tasks_taken (steps_by e)) (upwards 0 e.popped)
  pub ascend : All (λ entries. Ascend (tickets_of entries)) e.popped

-- where it found an end of its pool begun, that is this one
abbrev pub FoundNoOther : Ending → EndSeen → Type 0
FoundNoOther ending e = e.found ≢ None → e.found ≡ Some ending

-- what the passes and ends of a pool that has ended so say
pub record AreOfEnded (ending : Ending) (passes : List PassSeen) (ends : List EndSeen) : Type 0 where
  pub no_gaps : All HasNoGap passes
  pub ran : All RanWhatItTook ends
  pub found : All (FoundNoOther ending) ends

-- The whole history of one queue: it is lawful, each adder's accepts are what its pass pushed there, each worker's and helper's takes are what its
-- end popped there, and these are all; what was left is the rest, which is behind all that was taken, and nothing waits.
pub record IsHistoryOf (passes : List PassSeen) (ends : List EndSeen) (queue : ℕ) (rest : List Entry) (history : List Event) : Type 0 where
  pub lawful : PoolHistory history
  pub accepted : All (λ p. accepted_by p.number history ≡ at_queue p.pushed queue) passes
  pub taken : All (λ e. taken_by e.number history ≡ at_queue e.popped queue) ends
  pub all_accepted : IsSameInAnyOrder (flat_map (λ p. at_queue p.pushed queue) passes) (accepts history)
  pub all_taken : IsSameInAnyOrder (flat_map (λ e. at_queue e.popped queue) ends) (takes history)
  pub left : lefts history ≡ rest
  pub left_last : outs history ≡ takes history ++ lefts history
  pub whole : outs history ≡ accepts history

-- each of so many queues has such a history, with its rest
pub record HaveHistories (queues : ℕ) (passes : List PassSeen) (ends : List EndSeen) (rests : List (List Entry)) : Type 0 where
  pub count : length rests ≡ queues
  pub each : (queue : ℕ) → queue < queues → (history : List Event) × IsHistoryOf passes ends queue (at_queue rests queue) history

-- A pool that was joined: the records are those of the ends and of the helpers' ends, and then those of what still waited, from the highest queue to
-- the lowest, each in order of acceptance, whose jobs led in this order from the world w to the world v.
pub record Joined {W : Type 0} (runs : JobId → W → Mark → W → Type 0) (queues : ℕ) (passes : List PassSeen) (ends helped : List EndSeen) (records : List Record) (w v : W) : Type 0 where
  pub told : AreOfEnded Joins passes (ends ++ helped)
  pub rests : List (List Entry)
  pub histories : HaveHistories queues passes (ends ++ helped) rests
  pub more : List Record
  pub list : records ≡ (records_of ends ++ records_of helped) ++ more
  pub rest : AreRunsOf (downwards 0 rests) more
  pub led : Leads runs w (ran_of more) v

-- A pool that was stopped: the records are those of the ends and of the helpers' ends, and what still waited is handed back, from the highest queue to
-- the lowest, each in order of acceptance.
pub record Stopped {J : Type 0} (head : J → Head) (queues : ℕ) (passes : List PassSeen) (ends helped : List EndSeen) (records : List Record) (returned : List (Returned J)) : Type 0 where
  pub told : AreOfEnded Stops passes (ends ++ helped)
  pub rests : List (List Entry)
  pub histories : HaveHistories queues passes (ends ++ helped) rests
  pub list : records ≡ records_of ends ++ records_of helped
  pub rest : map (task_of head) returned ≡ downwards 0 rests
