-- What the printer's stage has done once its base is closed, and how it ends.
use Rattle.std.specs.Prelude.{◌≡◌, ◌≢◌, ◌⊎◌, ℕ, true, false, Option, List, [], length}
use Rattle.std.specs.List.{All, AllByRecursion, list_any}
use Rattle.fan_base.specs.Outside.{FaultsRose, Shown}
use Rattle.fan_base.specs.declared.number.ExecId.{ExecId}
use Rattle.query_model.specs.declared.line.Line.{Line}
use Rattle.query_model.specs.Order.{replies_of}
use Rattle.core_word.specs.Count.{Counts}
use Rattle.notify_queue.specs.declared.stamp.Stamped.{Stamped}
use Rattle.notify_queue.specs.Ends.{IsDry, Sending}
use Rattle.notify_queue.specs.Stamps.{messages_of}
use Rattle.job_trait.specs.declared.job.Head.{Head}
use Rattle.event_base.specs.declared.round.RoundMemory.{RoundMemory}
use Rattle.event_base.specs.Closing.{held_by}
use Rattle.event_base.specs.Looping.{IsCutLoop}
use Rattle.event_base.specs.Seen.{BaseSeen, NoteSeen, new_base}
use Rattle.reply_order.specs.Orders.{next_of}
use Rattle.fan_model.specs.Answered.{answered_in}
use Rattle.reply_printer.specs.declared.printer.Progress.TheVariants as progress
use Rattle.reply_printer.specs.Passing.{Gains, GainsFront}
use Rattle.reply_printer.specs.Printing.{GoesOn, Prints, text_of}
use Rattle.run_printing.specs.declared.stage.PrintStage.{PrintStage}
use Rattle.run_printing.specs.declared.stage.PrintOutcome.{PrintOutcome}
use Rattle.run_printing.specs.declared.stage.PrintOutcome.TheVariants as outcome
use Rattle.run_printing.specs.declared.world.PrintWorld.{PrintWorld}
use Rattle.run_printing.specs.Worlds.{IsNewWorld, IsUpToDate, RunsOnBase}
use Rattle.run_printing.specs.Events.{Event, IsOf, fired_in, given_in, has_failed, no_counts, with_handed}

module _ {J : Type 0} where
  -- no round was made, and nothing is scheduled
  pub record IsNewBase (base : BaseSeen J) : Type 0 where
    pub start : ℕ
    pub is_new : base ≡ new_base base.agenda.exec start base.queue.queue base.queue.senders

  -- it is the base of before, with its posters
  pub record IsBaseOf (old new : BaseSeen J) : Type 0 where
    pub exec : new.agenda.exec ≡ old.agenda.exec
    pub queue : new.queue.queue ≡ old.queue.queue
    pub senders : new.queue.senders ≡ old.queue.senders

module _ {J : Type 0} (lines : List Line) where
  -- Each message that the base took ran once, and the printer was given its reply, since its sink showed `start`; no line is kept back whose turn has come. A core that fired without a reply is
  -- noted, each that fired was counted, nothing is scheduled, and where the base is closed nothing is left in its queue.
  pub record HasPrinted (start now : Shown) (stage : PrintStage J) : Type 0 where
    pub events : List Event
    pub each : length events ≡ length stage.base.queue.taken
    pub are_of : AllByRecursion (IsOf lines) events
    pub prints : Prints lines (given_in events) stage.printer start now
    pub up_to_date : IsUpToDate stage.printer
    pub missed : stage.missed ≡ list_any has_failed events
    pub tally : stage.tally ≡ with_handed no_counts (fired_in events)
    pub none_held : held_by stage.base.agenda ≡ []
    pub closed : stage.closed ≡ true → IsDry stage.base.queue

module _ {J K : Type 0} (head : J → Head) (lines : List Line) (holds : K → Option (List ℕ)) (faults : K → ℕ) where
  -- Why a base was not closed: from a new printer on it made rounds, behind each of which there was a reason to go on, and then one found no memory and has not begun.
  -- Of the sink before and now, the base before, and the stage.
  pub record WasCut (first last : K) (old : BaseSeen J) (stage : PrintStage J) : Type 0 where
    pub fault : RoundMemory
    pub start : PrintWorld K
    pub end : PrintWorld K
    pub is_new : IsNewWorld start
    pub sink : (start.sink.now ≡ first) × (end.sink.now ≡ last)
    pub kept : (stage.printer ≡ end.printer.now) × (stage.tally ≡ end.tally.now) × (stage.missed ≡ end.missed)
    pub cut : IsCutLoop head (λ id p mark q. RunsOnBase lines holds faults p q) fault start old end stage.base

-- what the sink gained
abbrev pub Wrote : List Line → Shown → Shown → PrintOutcome → Type 0
Wrote lines start now outcome.Done = Gains start now (text_of lines)
Wrote lines start now outcome.Memory = GainsFront start now (text_of lines)
Wrote lines start now outcome.WriteFault = GainsFront start now (text_of lines) × FaultsRose start.faults now.faults

-- The base took one message for each reply and none is left, and the core of each answered query was counted as handed over.
pub record IsWhole (lines : List Line) (executor : ExecId) (note : NoteSeen) (counts : Counts) : Type 0 where
  pub exec : note.exec ≡ executor
  pub put : note.put ≡ length (replies_of lines)
  pub taken : note.taken ≡ length (replies_of lines)
  pub left : note.left ≡ 0
  pub tally : counts ≡ record no_counts { handed = length (answered_in lines) }

-- all that each poster put was taken, in its order
abbrev pub AreAllTaken : {J : Type 0} → List (Stamped J) → List (Sending J) → Type 0
AreAllTaken taken ends = All (λ (e : Sending _). messages_of e.number taken ≡ e.sent) ends

-- all replies came
abbrev pub IsDone : PrintOutcome → Type 0
IsDone o = (o ≡ outcome.Done) ⊎ (o ≡ outcome.WriteFault)

module _ {J : Type 0} where
  -- the base is closed, no core fired without a reply, and the replies of so many places went out
  pub record HasAll (stage : PrintStage J) (queries : ℕ) : Type 0 where
    pub closed : stage.closed ≡ true
    pub all_fired : stage.missed ≡ false
    pub next : next_of stage.printer.orderer ≡ queries

  -- why a stage can't have all replies: a round found no memory, a core fired without a reply, the printer found no memory or a reply twice, or
  -- the replies of some places never came
  abbrev pub LacksSome : PrintStage J → ℕ → Type 0
  LacksSome stage queries =
      (stage.closed ≡ false) ⊎ ((stage.missed ≡ true) ⊎ ((next_of stage.printer.orderer ≢ queries) ⊎ (GoesOn stage.printer.progress → ⊥)))

  -- how the stage ends, by what it has done
  abbrev pub EndsAs : PrintStage J → ℕ → PrintOutcome → Type 0
  EndsAs stage queries outcome.Done = HasAll stage queries × (stage.printer.progress ≡ progress.Writing)
  EndsAs stage queries outcome.Memory = LacksSome stage queries
  EndsAs stage queries outcome.WriteFault = HasAll stage queries × (stage.printer.progress ≡ progress.WriteFault)
