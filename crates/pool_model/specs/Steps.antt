-- What one worker or helper did at the queues and at the end mark, oldest first.
use Rattle.std.specs.Prelude.{◌≡◌, ◌≢◌, ℕ, zero, suc, ◌-◌, ◌<◌, List, [], ◌∷◌, ◌++◌, Option, Some, None, map, All}
use Rattle.std.specs.List.{flat_map}
use Rattle.std.specs.declared.alloc.Global.{Global}
use Rattle.atomic_table.specs.Seated.{TableId}
use Rattle.crossbeam_queue.specs.SegTies.{SegId}
use Rattle.pool_model.specs.declared.task.Ending.{Ending}
use Rattle.pool_model.specs.declared.task.Ending.TheVariants.{Joins, Stops}
use Rattle.pool_model.specs.declared.task.Entry.{Entry}
use Rattle.pool_model.specs.Tasks.{Task}

-- it looked at the mark and found that this end had begun, or none; a pop found this queue empty; or a pop of this queue gave this task
pub data Step : Type 0 where
  looked : Option Ending → Step
  found_empty : ℕ → Step
  took : ℕ → Entry → Step

-- where a step was: at a queue, or at a mark
pub data Place : Type 0 where
  of_queue : SegId Global → Place
  of_mark : TableId → Place

-- a step, and where it was
pub record LookSeen : Type 0 where
  pub place : Place
  pub step : Step

abbrev pub steps_in : List LookSeen → List Step
steps_in looks = map (λ l. l.step) looks

-- the tasks that were taken, in order
abbrev pub tasks_taken : List Step → List Task
tasks_taken [] = []
tasks_taken (looked found ∷ steps) = tasks_taken steps
tasks_taken (found_empty queue ∷ steps) = tasks_taken steps
tasks_taken (took queue e ∷ steps) = record { ticket = e.ticket; queue = queue; head = e.head } ∷ tasks_taken steps

-- the highest of so many queues were found empty, as many as the count says, from the highest down
abbrev pub empty_from_the_top : ℕ → ℕ → List Step
empty_from_the_top queues zero = []
empty_from_the_top queues (suc count) = empty_from_the_top queues count ++ found_empty (queues - suc count) ∷ []

-- A turn begins with a look at the mark. It found each queue above one empty, from the highest down, and took the task in front of that one; or it found
-- all queues empty; or the look found a stop, which ended it.
pub data Turn : Type 0 where
  ran : Option Ending → ℕ → Entry → Turn
  idle : Option Ending → Turn
  stopped : Turn

abbrev pub steps_of : ℕ → Turn → List Step
steps_of queues (ran found queue e) = looked found ∷ empty_from_the_top queues (queues - suc queue) ++ took queue e ∷ []
steps_of queues (idle found) = looked found ∷ empty_from_the_top queues queues
steps_of queues stopped = looked (Some Stops) ∷ []

-- after this turn a worker goes on: the look had found no stop, and where no task was found no end either
abbrev pub GoesOn : ℕ → Turn → Type 0
GoesOn queues (ran found queue e) = (queue < queues) × (found ≢ Some Stops)
GoesOn queues (idle found) = found ≡ None
GoesOn queues stopped = ⊥

-- with this turn a worker ends, which found this end begun: the look had found a join, and then each queue was found empty; or it had found a stop
abbrev pub IsLast : Option Ending → Turn → Type 0
IsLast end (ran found queue e) = ⊥
IsLast end (idle found) = (end ≡ Some Joins) × (found ≡ Some Joins)
IsLast end stopped = end ≡ Some Stops

-- all that a worker did over so many queues: turns after which it went on, and the turn with which it ended, whose look found this end
pub record Worked (queues : ℕ) (end : Option Ending) (steps : List Step) : Type 0 where
  pub turns : List Turn
  pub last : Turn
  pub list : steps ≡ flat_map (steps_of queues) turns ++ steps_of queues last
  pub each : All (GoesOn queues) turns
  pub ends : IsLast end last

-- behind the last take among these steps there is this one
pub record IsSinceTheLastTake (steps : List Step) (step : Step) : Type 0 where
  pub before : List Step
  pub behind : List Step
  pub list : steps ≡ before ++ step ∷ behind
  pub no_take : tasks_taken behind ≡ []

-- A task was taken from this queue behind these steps: since the take before it, a look at the mark had found no stop, and each higher queue was found empty.
pub record MayTake (queues : ℕ) (steps : List Step) (queue : ℕ) : Type 0 where
  pub found : Option Ending
  pub no_stop : found ≢ Some Stops
  pub look : IsSinceTheLastTake steps (looked found)
  pub higher : (other : ℕ) → queue < other → other < queues → IsSinceTheLastTake steps (found_empty other)

-- each take was made so
pub record TakesFromTheHighest (queues : ℕ) (steps : List Step) : Type 0 where
  pub each : (before behind : List Step) (queue : ℕ) (e : Entry) → steps ≡ before ++ took queue e ∷ behind → MayTake queues before queue
