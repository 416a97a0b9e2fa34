-- What the printer's base prints with, and what a run of a message does to it.
use Rattle.std.specs.Prelude.{◌≡◌, ℕ, ◌||◌, false, Option, List, ◌++◌}
use Rattle.std.specs.List.{AllByRecursion, list_any}
use Rattle.fan_base.specs.Outside.{Shown, shown}
use Rattle.query_model.specs.declared.line.Line.{Line}
use Rattle.event_base.specs.Turns.{Place}
use Rattle.reply_printer.specs.declared.printer.Printer.{Printer}
use Rattle.reply_printer.specs.Printing.{GoesOn, IsNew, Placed, Prints, Waits}
use Rattle.run_printing.specs.declared.world.PrintWorld.{PrintWorld}
use Rattle.run_printing.specs.Events.{Event, IsOf, counted, fired_in, given_by, given_in, has_failed, no_counts, with_handed}

module _ {K : Type 0} (holds : K → Option (List ℕ)) (faults : K → ℕ) where
  -- what the world's sink shows
  abbrev pub sink_of : PrintWorld K → Shown
  sink_of w = shown (holds w.sink.now) (faults w.sink.now)

-- a printer that orders on keeps no line back whose turn has come
abbrev pub IsUpToDate : Printer → Type 0
IsUpToDate p = GoesOn p.progress → Waits p.orderer

-- nothing was printed, counted or noted
pub record IsNewWorld {K : Type 0} (w : PrintWorld K) : Type 0 where
  pub printer : IsNew w.printer.now
  pub tally : w.tally.now ≡ no_counts
  pub missed : w.missed ≡ false

-- it is the same printer, the same sink and the same tally
pub record HasSameLoans {K : Type 0} (p q : PrintWorld K) : Type 0 where
  pub printer : q.printer.ghost_name ≡ p.printer.ghost_name
  pub sink : q.sink.ghost_name ≡ p.sink.ghost_name
  pub tally : q.tally.ghost_name ≡ p.tally.ghost_name

-- nothing was counted or noted
pub record LeavesCounts {K : Type 0} (p q : PrintWorld K) : Type 0 where
  pub tally : q.tally.now ≡ p.tally.now
  pub missed : q.missed ≡ p.missed
  pub same : HasSameLoans p q

module _ {K : Type 0} (lines : List Line) (holds : K → Option (List ℕ)) (faults : K → ℕ) where
  -- The printer was given what an event tells, and has written as far as it could, with no line kept back. A reply that is missing is noted. It is the same printer, sink and tally.
  pub record PrintsEvent (event : Event) (p q : PrintWorld K) : Type 0 where
    pub prints : (given : List Placed) (start : Shown)
        → Prints lines given p.printer.now start (sink_of holds faults p) → Prints lines (given ++ given_by event) q.printer.now start (sink_of holds faults q)
    pub waits : IsUpToDate p.printer.now → IsUpToDate q.printer.now
    pub missed : q.missed ≡ p.missed || has_failed event
    pub same : HasSameLoans p q

  -- a message ran, this became of it, and a core that fired was counted
  pub record RunsAs (event : Event) (p q : PrintWorld K) : Type 0 where
    pub is_of : IsOf lines event
    pub did : PrintsEvent event p q
    pub tally : q.tally.now ≡ counted event p.tally.now

  -- a message ran, and this became of it
  pub record RunsEvent (p q : PrintWorld K) : Type 0 where
    pub event : Event
    pub ran : RunsAs event p q

  -- messages ran one after another
  pub record RunsEvents (events : List Event) (p q : PrintWorld K) : Type 0 where
    pub are_of : AllByRecursion (IsOf lines) events
    pub prints : (given : List Placed) (start : Shown)
        → Prints lines given p.printer.now start (sink_of holds faults p) → Prints lines (given ++ given_in events) q.printer.now start (sink_of holds faults q)
    pub waits : IsUpToDate p.printer.now → IsUpToDate q.printer.now
    pub missed : q.missed ≡ p.missed || list_any has_failed events
    pub same : HasSameLoans p q
    pub tally : q.tally.now ≡ with_handed p.tally.now (fired_in events)

  -- a message ran on the base, and left the agenda as it was
  pub record RunsOnBase {J : Type 0} (p q : Place (PrintWorld K) J) : Type 0 where
    pub agenda : q.1 ≡ p.1
    pub ran : RunsEvent p.0 q.0
