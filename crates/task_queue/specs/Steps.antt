-- What a pop tells.
use Rattle.std.specs.Prelude.{◌≡◌, ◌^◌, ◌≤◌, List, [], ◌∷◌, ◌++◌, map, length, Option, Some, None, All}
use Rattle.job_trait.specs.declared.job.Head.{Head}
use Rattle.pool_model.specs.declared.task.Entry.{Entry}
use Rattle.pool_model.specs.History.{Event, PoolHistory, accepts, takes, lefts, outs, accepted_by, taken_by}
use Rattle.pool_model.specs.Orders.{IsSameInAnyOrder}
use Rattle.pool_model.specs.Tickets.{Ascend, tickets_of}
use Rattle.task_queue.specs.declared.rule.Queued.{Queued}
use Rattle.task_queue.specs.declared.view.Role.TheVariants.{Gathered}
use Rattle.task_queue.specs.declared.view.Share.{Share}
use Rattle.task_queue.specs.declared.view.View.{View}
use Rattle.task_queue.specs.Views.{entry_of, entries_of, taking, gathered}

-- the view of a pass that has popped one more
abbrev pub and_popped : View → Entry → View
and_popped v e = record { role = v.role; parts = v.parts; whole = v.whole; number = v.number; adders = v.adders; takers = v.takers; pushed = v.pushed; popped = v.popped ++ e ∷ []; added = v.added; taken = v.taken }

-- a task was popped: in what the pass popped the tickets of each adder ascend, and it is short
pub record Took {J : Type 0} (head : J → Head) (v : View) (x : Queued J) (w : View) : Type 0 where
  pub view : w ≡ and_popped v (entry_of head x)
  pub ascend : Ascend (tickets_of (v.popped ++ entry_of head x ∷ []))
  pub short : length (v.popped ++ entry_of head x ∷ []) ≤ 2 ^ 38

-- A whole history of the queue: it is lawful, each adder's accepts are what it pushed, each taker's takes are what it popped, and these are all; what
-- was left is behind all that was taken, and the queue holds what isn't out.
pub record IsWhole (added taken : List Share) (popped waiting : List Entry) (history : List Event) : Type 0 where
  pub lawful : PoolHistory history
  pub accepted : All (λ s. accepted_by s.number history ≡ s.entries) added
  pub taken_is : All (λ s. taken_by s.number history ≡ s.entries) taken
  pub all_accepted : IsSameInAnyOrder (entries_of added) (accepts history)
  pub all_taken : IsSameInAnyOrder (entries_of taken) (takes history)
  pub left : lefts history ≡ popped
  pub left_last : outs history ≡ takes history ++ lefts history
  pub waits : accepts history ≡ outs history ++ waiting
  pub short : length (accepts history) ≤ 2 ^ 38

-- a look at what the queue holds tells a gathered pass that is whole what happened in all
abbrev pub Shows : {J : Type 0} → (J → Head) → View → List (Queued J) → Type 0
Shows head v items = v.role ≡ Gathered → v.parts ≡ v.whole → (history : List Event) × IsWhole v.added v.taken v.popped (map (entry_of head) items) history

-- a taker may pop, and a gathered pass that is whole
pub data MayPop (v : View) : Type 0 where
  may_take : v ≡ taking v.whole v.number v.popped → MayPop v
  is_whole : v ≡ gathered v.whole v.whole v.added v.taken v.popped → MayPop v

-- a pop gave this task, or it found none, which tells the gathered pass that is whole what happened in all
abbrev pub Popped : {J : Type 0} → (J → Head) → View → View → Option (Queued J) → Type 0
Popped head v w (Some x) = Took head v x w
Popped head v w None = (w ≡ v) × Shows head v []
