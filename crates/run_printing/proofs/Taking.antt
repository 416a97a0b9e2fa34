-- What becomes of one message.
use Rattle.std.proofs.Common.{◌≡◌, ℕ, Bool, true, false, ◌||◌, Option, List, [], ◌∷◌, ◌++◌, refl, sym, ◌∙◌, subst, append-nil}
use Rattle.std.proofs.lemmas.List.Elements.{All-cons, All-nil}
use Rattle.fan_base.specs.declared.outcome.Try.{Try}
use Rattle.fan_base.specs.declared.outcome.Try.TheVariants as try
use Rattle.query_model.specs.declared.line.Line.{Line}
use Rattle.query_model.specs.declared.reply.Reply.{Reply}
use Rattle.query_model.specs.declared.reply.Reply.TheVariants as reply
use Rattle.core_word.specs.Count.{Counts, raised}
use Rattle.fan_model.specs.Places.{IsReplyAt}
use Rattle.fan_parts.specs.Seen.{PlacedSeen}
use Rattle.reply_printer.specs.Printing.{KeepsPrinting, Placed, Prints}
use Rattle.run_printing.specs.declared.world.PrintWorld.{PrintWorld}
use Rattle.run_printing.specs.Events.{Event, IsOf, counted, event_of, has_fired}
use Rattle.run_printing.specs.Worlds.{IsUpToDate, LeavesCounts, PrintsEvent, RunsAs, sink_of}

or_false : (b : Bool) → b ≡ b || false
or_false true = refl
or_false false = refl

or_true : (b : Bool) → true ≡ b || true
or_true true = refl
or_true false = refl

fired_counted : (e : Event) (t : Counts) → has_fired e ≡ true → record t { handed = raised t.handed } ≡ counted e t
fired_counted (Event.answered place number answer) t fired = refl
fired_counted Event.failed t fired = refl
fired_counted (Event.cancelled place number) t fired = absurd cc

-- a core that fired has fired
pub event_of_fired : (outcome : Try PlacedSeen) → has_fired (event_of outcome) ≡ true
event_of_fired (try.Value reply) = refl
event_of_fired try.Broken = refl
event_of_fired try.Memory = refl
event_of_fired (try.Cancelled number) = refl

module _ {K : Type 0} (lines : List Line) (holds : K → Option (List ℕ)) (faults : K → ℕ) (p q : PrintWorld K) where
  prints_one : (place number : ℕ) (answer : Reply) → IsReplyAt lines place number answer
      → KeepsPrinting ((place, (number, answer)) ∷ []) p.printer.now q.printer.now (sink_of holds faults p) (sink_of holds faults q)
      → (given : List Placed) (start : _) → Prints lines given p.printer.now start (sink_of holds faults p)
      → Prints lines (given ++ (place, (number, answer)) ∷ []) q.printer.now start (sink_of holds faults q)
  prints_one place number answer at keeps given start h =
      keeps.keeps lines given start (All-cons (λ (x : Placed). IsReplyAt lines x.0 x.1.0 x.1.1) (place, (number, answer)) [] at (All-nil (λ (x : Placed). IsReplyAt lines x.0 x.1.0 x.1.1))) h

  pub answered : (place number : ℕ) (answer : Reply) → IsReplyAt lines place number answer
      → KeepsPrinting ((place, (number, answer)) ∷ []) p.printer.now q.printer.now (sink_of holds faults p) (sink_of holds faults q)
      → IsUpToDate q.printer.now → LeavesCounts p q → PrintsEvent lines holds faults (Event.answered place number answer) p q
  answered place number answer at keeps waits same = record {
    prints = prints_one place number answer at keeps;
    waits = λ before. waits;
    missed = same.missed ∙ or_false p.missed;
    same = same.same;
  }

  pub cancelled : (place number : ℕ) → IsReplyAt lines place number reply.Cancelled
      → KeepsPrinting ((place, (number, reply.Cancelled)) ∷ []) p.printer.now q.printer.now (sink_of holds faults p) (sink_of holds faults q)
      → IsUpToDate q.printer.now → LeavesCounts p q → RunsAs lines holds faults (Event.cancelled place number) p q
  cancelled place number at keeps waits same = record {
    is_of = at;
    did = record { prints = prints_one place number reply.Cancelled at keeps; waits = λ before. waits; missed = same.missed ∙ or_false p.missed; same = same.same };
    tally = same.tally;
  }

  -- a core fired, and this became of it
  pub fired : (event : Event) → IsOf lines event → has_fired event ≡ true → PrintsEvent lines holds faults event p q
      → q.tally.now ≡ record p.tally.now { handed = raised p.tally.now.handed } → RunsAs lines holds faults event p q
  fired event is_of has did tally = record { is_of = is_of; did = did; tally = tally ∙ fired_counted event p.tally.now has }

-- a reply is missing
pub missed : {K : Type 0} (lines : List Line) (holds : K → Option (List ℕ)) (faults : K → ℕ) (p : PrintWorld K)
    → PrintsEvent lines holds faults Event.failed p (record p { missed = true })
missed lines holds faults p = record {
  prints = λ given start h. subst (λ (g : List Placed). Prints lines g p.printer.now start (sink_of holds faults p)) (sym (append-nil given)) h;
  waits = λ before. before;
  missed = or_true p.missed;
  same = record { printer = refl; sink = refl; tally = refl };
}
