-- What is left of a base at its close.
use Rattle.std.specs.Prelude.{◌≡◌, ℕ, ◌+◌, ◌<◌, List, [], ◌++◌, map, length}
use Rattle.std.specs.List.{All, sum_by}
use Rattle.fan_base.specs.declared.number.ExecId.{ExecId}
use Rattle.job_trait.specs.declared.job.Head.{Head}
use Rattle.notify_queue.specs.declared.stamp.Stamped.{Stamped}
use Rattle.notify_queue.specs.Ends.{Sending, IsDry, weight_sent}
use Rattle.notify_queue.specs.Stamps.{messages_of, total_weight, IsInOrder}
use Rattle.tick_wheel.specs.declared.timer.Timer.{Timer}
use Rattle.tick_wheel.specs.TimerList.{items_of, by_due}
use Rattle.event_base.specs.Seen.{AgendaSeen, BaseSeen, NoteSeen}

-- what is left: the jobs, and all that was ever popped from the base's queue, in that order
pub record RestSeen (J : Type 0) : Type 0 where
  pub jobs : List J
  pub popped : List (Stamped J)

module _ {J : Type 0} where
  abbrev pub message_of : Stamped J → J
  message_of x = x.message

  -- callbacks for the beginning of a round, those of a loop phase, and the jobs of timers, in this order
  abbrev pub held_in : List J → List J → List (Timer J) → List J
  held_in before loops timers = before ++ (loops ++ items_of timers)

  -- what an agenda holds: the callbacks for the beginning of a round, those of the loop phase as they would run, and the timers by due
  -- tick and order of scheduling
  abbrev pub held_by : AgendaSeen J → List J
  held_by a = a.before ++ ((a.loops ++ a.later) ++ items_of (by_due a.wheel.timers))

module _ {J : Type 0} (head : J → Head) where
  -- each message that these ends put has this executor
  abbrev pub AreOn : ExecId → List (Sending J) → Type 0
  AreOn exec ends = All (λ (e : Sending J). All (λ (job : J). (head job).exec ≡ exec) e.sent) ends

  -- What is left, once each: the messages that were not taken, in the queue's order, and then all that the agenda held.
  pub record IsClosing (base : BaseSeen J) (ends : List (Sending J)) (note : NoteSeen) (rest : RestSeen J) : Type 0 where
    pub left : List (Stamped J)
    pub jobs : rest.jobs ≡ map message_of left ++ held_by base.agenda
    pub order : rest.popped ≡ base.queue.taken ++ left
    pub whole : All (λ (e : Sending J). messages_of e.number base.queue.taken ++ messages_of e.number left ≡ e.sent) ends
    pub in_order : IsInOrder (base.queue.taken ++ left)
    pub from_senders : All (λ (x : Stamped J). x.stamp.sender < base.queue.senders) (base.queue.taken ++ left)
    pub account : (weight : J → ℕ) → total_weight weight base.queue.taken + total_weight weight left ≡ weight_sent weight ends
    -- all that was taken and all that is left has the base's executor
    pub on_base : All (λ (x : Stamped J). (head x.message).exec ≡ base.agenda.exec) (base.queue.taken ++ left)
    pub exec : note.exec ≡ base.agenda.exec
    pub put : note.put ≡ sum_by (λ (e : Sending J). length e.sent) ends
    pub taken : note.taken ≡ length base.queue.taken
    pub left_over : note.left ≡ length left
    pub all : note.put ≡ note.taken + note.left
    pub dry : IsDry base.queue → left ≡ []
