-- The calls on an agenda as data, what each makes of it, and when each is allowed. A call that was refused isn't one of them.
use Rattle.std.specs.Prelude.{◌≡◌, ℕ, ◌≤◌, true, List, [], ◌∷◌, ◌++◌, None, if◌then◌else◌}
use Rattle.fan_base.specs.declared.number.JobId.{JobId}
use Rattle.job_trait.specs.declared.job.Head.{Head}
use Rattle.tick_wheel.specs.TimerList.{timer_at, scheduled, cancelled}
use Rattle.event_base.specs.Seen.{AgendaSeen}

pub data Call (J : Type 0) : Type 0 where
  run_in_loop : J → Call J
  run_this_iteration : J → Call J
  run_before_loop : J → Call J
  -- after so many ticks
  schedule : ℕ → J → Call J
  cancel_timer : JobId → Call J
  cancel_timers : Call J
  terminate_soon : Call J

module _ {J : Type 0} where
  -- a callback more for the next loop phase to begin
  abbrev pub with_in_loop : AgendaSeen J → J → AgendaSeen J
  with_in_loop a job = record a {
    loops = if a.in_loop then a.loops else a.loops ++ job ∷ [];
    later = if a.in_loop then a.later ++ job ∷ [] else a.later;
  }

  -- a callback more for the loop phase that runs, or else for the next one
  abbrev pub with_this_iteration : AgendaSeen J → J → AgendaSeen J
  with_this_iteration a job = record a { loops = a.loops ++ job ∷ [] }

  -- a callback more for the beginning of the next round
  abbrev pub with_before : AgendaSeen J → J → AgendaSeen J
  with_before a job = record a { before = a.before ++ job ∷ [] }

  -- a timer more, which has this id
  abbrev pub with_timer : AgendaSeen J → ℕ → ℕ → J → AgendaSeen J
  with_timer a delay id job = record a { wheel = scheduled a.wheel delay id job }

  abbrev pub without_timer : AgendaSeen J → JobId → AgendaSeen J
  without_timer a id = record a { wheel = cancelled a.wheel id.0 }

  abbrev pub without_timers : AgendaSeen J → AgendaSeen J
  without_timers a = record a { wheel = record { tick = a.wheel.tick; timers = [] } }

  -- the loop is to end after its round
  abbrev pub with_mark : AgendaSeen J → AgendaSeen J
  with_mark a = record a { terminating = true }

module _ {J : Type 0} (head : J → Head) where
  -- what a call makes of an agenda
  abbrev pub after_call : AgendaSeen J → Call J → AgendaSeen J
  after_call a (Call.run_in_loop job) = with_in_loop a job
  after_call a (Call.run_this_iteration job) = with_this_iteration a job
  after_call a (Call.run_before_loop job) = with_before a job
  after_call a (Call.schedule delay job) = with_timer a delay (head job).id.0 job
  after_call a (Call.cancel_timer id) = without_timer a id
  after_call a Call.cancel_timers = without_timers a
  after_call a Call.terminate_soon = with_mark a

  -- its conditions are met, and it isn't refused but for want of memory
  abbrev pub IsAllowed : AgendaSeen J → Call J → Type 0
  IsAllowed a (Call.run_in_loop job) = (head job).exec ≡ a.exec
  IsAllowed a (Call.run_this_iteration job) = (head job).exec ≡ a.exec
  IsAllowed a (Call.run_before_loop job) = (head job).exec ≡ a.exec
  IsAllowed a (Call.schedule delay job) =
      ((head job).exec ≡ a.exec) × (1 ≤ delay) × (delay ≤ 4294967295) × (timer_at (head job).id.0 a.wheel.timers ≡ None)
  IsAllowed a (Call.cancel_timer id) = Unit {0}
  IsAllowed a Call.cancel_timers = Unit {0}
  IsAllowed a Call.terminate_soon = Unit {0}

  -- what a list of calls makes of an agenda
  abbrev pub after_calls : AgendaSeen J → List (Call J) → AgendaSeen J
  after_calls a [] = a
  after_calls a (call ∷ calls) = after_calls (after_call a call) calls

  -- each is allowed as it comes
  abbrev pub AreAllowed : AgendaSeen J → List (Call J) → Type 0
  AreAllowed a [] = Unit {0}
  AreAllowed a (call ∷ calls) = IsAllowed a call × AreAllowed (after_call a call) calls

  -- these calls lead from one agenda to the other
  pub record Makes (a : AgendaSeen J) (calls : List (Call J)) (b : AgendaSeen J) : Type 0 where
    pub allowed : AreAllowed a calls
    pub after : b ≡ after_calls a calls

  -- some list of calls leads from one agenda to the other
  pub record IsReached (a b : AgendaSeen J) : Type 0 where
    pub calls : List (Call J)
    pub makes : Makes a calls b
