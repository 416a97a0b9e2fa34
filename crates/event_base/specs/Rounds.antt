-- A round: its four phases in their order, and what it answers.
use Rattle.std.specs.Prelude.{◌≡◌, ℕ, ◌+◌, ◌<◌, ◌≤◌, min, true, List, [], ◌∷◌, ◌++◌, map, length, take}
use Rattle.std.specs.List.{All, sum_by}
use mathlib.Core.List.{IsPrefix}
use Rattle.fan_base.specs.declared.number.JobId.{JobId}
use Rattle.fan_base.specs.declared.number.Mark.{Mark}
use Rattle.job_trait.specs.declared.job.Head.{Head}
use Rattle.notify_queue.specs.declared.stamp.Stamped.{Stamped}
use Rattle.notify_queue.specs.Ends.{Receiving, FoundEmpty, HasEnded, IsDry}
use Rattle.notify_queue.specs.Stamps.{IsInOrder}
use Rattle.tick_wheel.specs.TimerList.{due_at, due_later, items_of}
use Rattle.event_base.specs.declared.round.Round.{Round}
use Rattle.event_base.specs.declared.round.RoundMemory.{RoundMemory}
use Rattle.event_base.specs.Seen.{AgendaSeen, BaseSeen, settled}
use Rattle.event_base.specs.Turns.{Turn, Place, LeavesAgenda, TakesBefore, TakesLoop, jobs_of, added_to_phase, AreTurns}

-- what a round took of its queue, and what ran in each phase; of the timers tick by tick
pub record Phases (J : Type 0) : Type 0 where
  pub took : List (Stamped J)
  pub before : List (Turn J)
  pub messages : List (Turn J)
  pub ticks : List (List (Turn J))
  pub loops : List (Turn J)

module _ {J : Type 0} where
  -- a loop phase has begun
  abbrev pub in_phase : AgendaSeen J → AgendaSeen J
  in_phase a = record a { in_loop = true }

  -- one tick: the timers that are due then have left
  abbrev pub ticked : AgendaSeen J → AgendaSeen J
  ticked a = record a { wheel = record { tick = a.wheel.tick + 1; timers = due_later (a.wheel.tick + 1) a.wheel.timers } }

  -- the jobs of the timers that are due at the next tick, in order of scheduling
  abbrev pub due_next : AgendaSeen J → List J
  due_next a = items_of (due_at (a.wheel.tick + 1) a.wheel.timers)

  -- the messages at the front of a queue were taken, 10 or fewer; fewer only where nothing more was found
  pub record Takes (old : Receiving J) (took : List (Stamped J)) (new : Receiving J) : Type 0 where
    pub same : (new.queue ≡ old.queue) × (new.senders ≡ old.senders) × (new.ended ≡ old.ended)
    pub taken : new.taken ≡ old.taken ++ took
    pub from_senders : All (λ (x : Stamped J). x.stamp.sender < old.senders) took
    pub looks : IsPrefix old.looks new.looks
    pub in_order : IsInOrder new.taken
    pub at_most : length took ≤ 10
    pub fewer : length took < 10 → FoundEmpty old new
    pub last : length took < 10 → HasEnded old → IsDry new

  -- how many ran in each phase; the number of timers stays at the last of its type
  abbrev pub counts_of : ℕ → Phases J → Round
  counts_of number did = record {
    number = number;
    before = length did.before;
    messages = length did.took;
    timers = min (sum_by length did.ticks) 18446744073709551615;
    loops = length did.loops;
  }

-- the number of the round after one, which stays at the last of its type
abbrev pub next_number : ℕ → ℕ
next_number number = min (number + 1) 18446744073709551615

-- the counts of a round that has not begun
abbrev pub no_counts : ℕ → Round
no_counts number = record { number = number; before = 0; messages = 0; timers = 0; loops = 0 }

module _ {W J : Type 0} (head : J → Head) (runs : JobId → Place W J → Mark → Place W J → Type 0) where
  -- exactly the callbacks that were held for the beginning of a round, in order of scheduling
  pub record IsBeforePhase (p : Place W J) (turns : List (Turn J)) (q : Place W J) : Type 0 where
    pub jobs : jobs_of turns ≡ p.1.before
    pub ran : AreTurns TakesBefore head runs p turns q

  -- exactly these jobs, in this order; nothing leaves the agenda by the base's part
  pub record AllRun (jobs : List J) (p : Place W J) (turns : List (Turn J)) (q : Place W J) : Type 0 where
    pub each : jobs_of turns ≡ jobs
    pub ran : AreTurns LeavesAgenda head runs p turns q

  -- one tick, and then exactly what was due at it, in order of scheduling
  abbrev pub IsTick : Place W J → List (Turn J) → Place W J → Type 0
  IsTick p turns q = AllRun (due_next p.1) (p.0, ticked p.1) turns q

  abbrev pub TicksThrough : Place W J → List (List (Turn J)) → Place W J → Type 0
  TicksThrough p [] q = p ≡ q
  TicksThrough p (turns ∷ more) q = (m : Place W J) × IsTick p turns m × TicksThrough m more q

  -- ticks one by one
  pub record AreTicks (p : Place W J) (ticks : List (List (Turn J))) (q : Place W J) : Type 0 where
    pub through : TicksThrough p ticks q

  -- The first so many of what was held as the phase began and of what its own calls added to it. What else they added stands behind what is left.
  pub record IsLoopPhase (limit : ℕ) (p : Place W J) (turns : List (Turn J)) (q : Place W J) : Type 0 where
    pub end : AgendaSeen J
    pub jobs : jobs_of turns ≡ take limit (p.1.loops ++ added_to_phase turns)
    pub ran : AreTurns TakesLoop head runs (p.0, in_phase p.1) turns (q.0, end)
    pub ended : q.1 ≡ settled end

  -- the phases before the loop phase, with the ticks that were made
  pub record RunsUpToTicks (p : Place W J) (did : Phases J) (q : Place W J) : Type 0 where
    pub after_before : Place W J
    pub after_messages : Place W J
    pub before : IsBeforePhase (p.0, settled p.1) did.before after_before
    pub messages : AllRun (map (λ (x : Stamped J). x.message) did.took) after_before did.messages after_messages
    pub ticks : AreTicks after_messages did.ticks q

  -- a whole round with so many ticks
  pub record IsWholeRound (ticks : ℕ) (w : W) (old : BaseSeen J) (round : Round) (did : Phases J) (v : W) (new : BaseSeen J) : Type 0 where
    pub after_ticks : Place W J
    pub took : Takes old.queue did.took new.queue
    pub up_to_ticks : RunsUpToTicks (w, old.agenda) did after_ticks
    pub loops : IsLoopPhase 65536 after_ticks did.loops (v, new.agenda)
    pub each_tick : length did.ticks ≡ ticks
    pub next : new.number ≡ next_number old.number
    pub counts : round ≡ counts_of old.number did

  -- a round that was cut short at a tick that found no memory: that tick and the later ones were not made, and no loop phase ran
  pub record IsCutRound (ticks : ℕ) (w : W) (old : BaseSeen J) (fault : RoundMemory) (did : Phases J) (v : W) (new : BaseSeen J) : Type 0 where
    pub took : Takes old.queue did.took new.queue
    pub up_to_ticks : RunsUpToTicks (w, old.agenda) did (v, new.agenda)
    pub no_loops : did.loops ≡ []
    pub each_tick : length did.ticks + fault.left_ticks ≡ ticks
    pub some_left : 0 < fault.left_ticks
    pub next : new.number ≡ next_number old.number
    pub counts : fault.round ≡ counts_of old.number did

-- a round that has not begun, since its first take was refused: nothing ran and nothing changed
pub record HasNotBegun {W J : Type 0} (ticks : ℕ) (w : W) (old : BaseSeen J) (fault : RoundMemory) (v : W) (new : BaseSeen J) : Type 0 where
  pub base : new ≡ old
  pub world : v ≡ w
  pub number : fault.round ≡ no_counts old.number
  pub all_left : fault.left_ticks ≡ ticks
