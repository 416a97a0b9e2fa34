-- What a gathering base does.
use Rattle.std.specs.Prelude.{◌≡◌, ◌⊎◌, ℕ, zero, suc, ◌+◌, ◌≤◌, true, false, List, [], ◌∷◌, ◌++◌, length, nat_lt, if◌then◌else◌}
use Rattle.std.specs.List.{All, sum_by}
use Rattle.fan_base.specs.declared.number.JobId.{JobId}
use Rattle.fan_base.specs.declared.number.Mark.{Mark}
use Rattle.fan_base.specs.declared.number.Mark.TheVariants as mark
use Rattle.fan_base.specs.declared.outcome.Try.{Try}
use Rattle.fan_base.specs.declared.outcome.Try.TheVariants as try
use Rattle.job_trait.specs.Marks.{IsDone}
use Rattle.core_word.specs.Count.{Counts, raised}
use Rattle.event_base.specs.Calls.{with_in_loop}
use Rattle.event_base.specs.Looping.{count_of_callbacks}
use Rattle.notify_queue.specs.declared.stamp.Stamped.{Stamped}
use Rattle.event_base.specs.Seen.{AgendaSeen, BaseSeen}
use Rattle.event_base.specs.Turns.{Place}
use Rattle.fan_parts.specs.declared.jobs.GatherJob.{GatherJob}
use Rattle.fan_parts.specs.declared.jobs.GatherJob.TheVariants as gather
use Rattle.fan_parts.specs.declared.jobs.PrintJob.{PrintJob}
use Rattle.fan_parts.specs.declared.jobs.PrintJob.TheVariants as print
use Rattle.fan_parts.specs.Heads.{first_scoring, gather_head}
use Rattle.fan_parts.specs.Seen.{PlacedSeen}
use Rattle.run_gathering.specs.Seen.{GatheringSeen}

abbrev pub no_counts : Counts
no_counts = record { made = 0; handed = 0; forwarded = 0; freed = 0; reopened = 0 }

-- so many times one more, up to the last of u64
abbrev pub raised_times : ℕ → ℕ → ℕ
raised_times zero n = n
raised_times (suc k) n = raised (raised_times k n)

-- The numbers after so many fires of tasks, so many replies' cores that were forwarded to an inner core, and so many posts to the printer's base: each post
-- is that of a fulfilled core, which was freed, and each forwarded core was freed too.
abbrev pub counted : ℕ → ℕ → ℕ → Counts → Counts
counted fires forwards posts counts = record {
  made = raised_times forwards counts.made;
  handed = raised_times fires counts.handed;
  forwarded = raised_times forwards counts.forwarded;
  freed = raised_times (posts + forwards) counts.freed;
  reopened = counts.reopened;
}

-- a run of a job with this id unpacks a fire exactly where it is a task's
abbrev pub fires_at : JobId → ℕ
fires_at id = if nat_lt id.0 first_scoring then 1 else 0

-- a value, and no fault
abbrev pub IsValue : {T : Type 0} → Try T → Type 0
IsValue (try.Value value) = Unit {0}
IsValue try.Broken = ⊥
IsValue try.Memory = ⊥
IsValue (try.Cancelled number) = ⊥

module _ {N : Type 0} where
  -- a reply that fired with its answer
  abbrev pub HasAnswer : PrintJob N → Type 0
  HasAnswer (print.Replied fire) = IsValue fire.outcome
  HasAnswer (print.Cancelled reply) = ⊥

  -- a reply that fired with this outcome
  abbrev pub FiredWith : Try PlacedSeen → PrintJob N → Type 0
  FiredWith outcome (print.Replied fire) = fire.outcome ≡ outcome
  FiredWith outcome (print.Cancelled reply) = ⊥

  -- what was put to the printer's base
  abbrev pub sent_by : GatheringSeen N → List (PrintJob N)
  sent_by w = w.printer.sender.sent

  -- So many fires came in, so many replies' cores were forwarded, and these replies were put to the printer's base. Where no memory was refused up to the
  -- end, none was before, the tally counts exactly this, and each of the replies has its answer.
  pub record GathersBy (fires forwards : ℕ) (posts : List (PrintJob N)) (old new : GatheringSeen N) : Type 0 where
    pub sent : sent_by new ≡ sent_by old ++ posts
    pub same : (new.printer.sender.queue ≡ old.printer.sender.queue) × (new.printer.sender.number ≡ old.printer.sender.number) × (new.printer.exec ≡ old.printer.exec)
    pub known : new.refused ≡ false → old.refused ≡ false
    pub tally : new.refused ≡ false → new.tally ≡ counted fires forwards (length posts) old.tally
    pub answers : new.refused ≡ false → All HasAnswer posts

  -- A fire with this outcome, and nothing else, was put to the printer's base.
  pub record PutsFire (outcome : Try PlacedSeen) (old new : GatheringSeen N) : Type 0 where
    pub job : PrintJob N
    pub sent : sent_by new ≡ sent_by old ++ job ∷ []
    pub fired : FiredWith outcome job

  -- how many of these messages are fires of tasks
  abbrev pub fires_among : List (Stamped (GatherJob N)) → ℕ
  fires_among messages = sum_by (λ (x : Stamped (GatherJob N)). fires_at (gather_head x.message).id) messages

  abbrev pub IsScoringJob : GatherJob N → Type 0
  IsScoringJob (gather.Task fire) = ⊥
  IsScoringJob (gather.Score scoring) = Unit {0}

  -- nothing is held but scorings, for a loop phase
  pub record HoldsScorings (a : AgendaSeen (GatherJob N)) : Type 0 where
    pub before : a.before ≡ []
    pub timers : a.wheel.timers ≡ []
    pub loops : All IsScoringJob a.loops
    pub later : All IsScoringJob a.later

  -- Over so many turns, among them so many fires, as many scorings come to wait as callbacks come to be held; but each turn that is no fire takes a scoring. Nothing
  -- is said where the last world notes a refusal.
  abbrev pub KeepsWaiting : ℕ → ℕ → Place (GatheringSeen N) (GatherJob N) → Place (GatheringSeen N) (GatherJob N) → Type 0
  KeepsWaiting fires turns p q = q.0.refused ≡ false → q.0.waiting + (turns + count_of_callbacks p.1) ≡ p.0.waiting + (fires + count_of_callbacks q.1)

  -- Over one turn one reply was posted, or one reply's core was forwarded, or neither, and for each core that was forwarded one callback more is held, for its
  -- scoring. Nothing is said where the last world notes a refusal.
  abbrev pub HoldsFor : ℕ → List (PrintJob N) → Place (GatheringSeen N) (GatherJob N) → Place (GatheringSeen N) (GatherJob N) → Type 0
  HoldsFor forwards posts p q = q.0.refused ≡ false → (length posts + forwards ≤ 1) × (count_of_callbacks q.1 ≡ count_of_callbacks p.1 + forwards)

  -- The base took these messages; as many fires came in as there are among them, some replies' cores were forwarded, and these replies were posted.
  pub record TookIn (w : GatheringSeen N) (old : BaseSeen (GatherJob N)) (v : GatheringSeen N) (new : BaseSeen (GatherJob N)) : Type 0 where
    pub took : List (Stamped (GatherJob N))
    pub taken : new.queue.taken ≡ old.queue.taken ++ took
    pub forwards : ℕ
    pub posts : List (PrintJob N)
    pub by : GathersBy (fires_among took) forwards posts w v
    pub waits : KeepsWaiting (fires_among took) (length took) (w, old.agenda) (v, new.agenda)
    pub holds : HoldsScorings new.agenda

  -- nothing was scheduled, or one scoring for the next loop phase
  abbrev pub Schedules : AgendaSeen (GatherJob N) → AgendaSeen (GatherJob N) → Type 0
  Schedules old new = (new ≡ old) ⊎ ((scoring : _) × (new ≡ with_in_loop old (gather.Score scoring)))

  -- What a run of the job with this id does. A scoring posts its reply. The run is done exactly where the world notes no refusal behind it.
  pub record Runs (id : JobId) (before : Place (GatheringSeen N) (GatherJob N)) (m : Mark) (after : Place (GatheringSeen N) (GatherJob N)) : Type 0 where
    pub forwards : ℕ
    pub posts : List (PrintJob N)
    pub by : GathersBy (fires_at id) forwards posts before.0 after.0
    pub done : after.0.refused ≡ false → IsDone m
    pub lacks : after.0.refused ≡ true → m ≡ mark.Memory
    pub agenda : Schedules before.1 after.1
    pub held : HoldsFor forwards posts before after
    pub scored : after.0.refused ≡ false → fires_at id ≡ 0 → length posts ≡ 1
    pub waits : KeepsWaiting (fires_at id) 1 before after
