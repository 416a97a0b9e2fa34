-- What a printer has written of the replies of an input, and what it holds.
use Rattle.std.specs.Prelude.{◌≡◌, ◌≢◌, ◌≤◌, ◌<◌, ◌⊎◌, All, IsSome, ℕ, ◌+◌, List, [], ◌++◌, take, Some, None}
use Rattle.std.specs.List.{enumerate_from, flat_map, sum_by}
use Rattle.fan_base.specs.Outside.{Shown, FaultsRose}
use Rattle.query_model.specs.declared.line.Line.{Line}
use Rattle.query_model.specs.declared.reply.Reply.{Reply}
use Rattle.query_model.specs.Order.{replies_of}
use Rattle.query_model.specs.Output.{reply_text}
use Rattle.query_model.specs.Pieces.{Bytes}
use Rattle.reply_order.specs.declared.orderer.Orderer.{Orderer}
use Rattle.reply_order.specs.Orders.{held_of, next_of, reply_at}
use Rattle.fan_model.specs.Places.{IsReplyAt}
use Rattle.reply_printer.specs.declared.printer.Printer.{Printer}
use Rattle.reply_printer.specs.declared.printer.Progress.{Progress}
use Rattle.reply_printer.specs.declared.printer.Progress.TheVariants as progress
use Rattle.reply_printer.specs.Passing.{Gains, GainsFront}

-- a reply at its place, with its number
abbrev pub Placed : Type 0
Placed = ℕ × (ℕ × Reply)

-- the replies of an input, each behind its place
abbrev pub placed_of : List Line → List Placed
placed_of lines = enumerate_from 0 (replies_of lines)

-- the text of the replies at the places before this one
abbrev pub text_before : List Line → ℕ → Bytes
text_before lines place = flat_map (λ r. reply_text r.0 r.1) (take place (replies_of lines))

-- the text of all replies
abbrev pub text_of : List Line → Bytes
text_of lines = flat_map (λ r. reply_text r.0 r.1) (replies_of lines)

-- What is written, by how far the printer is: the replies before the next place, or a front of all where a write failed or memory ran out.
abbrev pub HasWritten : List Line → ℕ → Shown → Shown → Progress → Type 0
HasWritten lines next start now progress.Writing = Gains start now (text_before lines next)
HasWritten lines next start now progress.WriteFault = GainsFront start now (text_of lines) × FaultsRose start.faults now.faults
HasWritten lines next start now progress.Memory = GainsFront start now (text_of lines)
HasWritten lines next start now progress.Repeated = GainsFront start now (text_of lines)

-- whether the printer still orders what it is given
abbrev pub GoesOn : Progress → Type 0
GoesOn p = (p ≡ progress.Writing) ⊎ (p ≡ progress.WriteFault)

-- Of the replies of an input the printer was given these, each at its place. It has written as far as it could, from what the sink showed at the
-- start, and holds the others: however replies are weighed, what it was given weighs as those before the next place and those that it holds.
pub record Prints (lines : List Line) (given : List Placed) (p : Printer) (start now : Shown) : Type 0 where
  pub wrote : HasWritten lines (next_of p.orderer) start now p.progress
  pub holds : (place number : ℕ) (reply : Reply) → reply_at p.orderer place ≡ Some (number, reply) → (next_of p.orderer ≤ place) × IsReplyAt lines place number reply
  pub account : GoesOn p.progress → (weight : Placed → ℕ)
      → sum_by weight given ≡ sum_by weight (take (next_of p.orderer) (placed_of lines)) + sum_by weight (held_of p.orderer)

-- the reply of this place went out, or it is held
abbrev pub HasHad : Orderer (ℕ × Reply) → ℕ → Type 0
HasHad o place = (place < next_of o) ⊎ IsSome (reply_at o place)

-- the reply whose turn it is hasn't come
abbrev pub Waits : Orderer (ℕ × Reply) → Type 0
Waits o = reply_at o (next_of o) ≡ None

-- nothing was given, and nothing is written
pub record IsNew (p : Printer) : Type 0 where
  pub progress : p.progress ≡ progress.Writing
  pub next : next_of p.orderer ≡ 0
  pub none : (place : ℕ) → reply_at p.orderer place ≡ None
  pub empty : held_of p.orderer ≡ []

-- What the printer does with a line, where all before it is written: it gained the line, or a front of it where a write failed, or nothing.
abbrev pub AfterLine : Bytes → Shown → Shown → Progress → Type 0
AfterLine line old new progress.Writing = Gains old new line
AfterLine line old new progress.WriteFault = GainsFront old new line × FaultsRose old.faults new.faults
AfterLine line old new progress.Memory = new ≡ old
AfterLine line old new progress.Repeated = ⊥

-- A line is written where all before it is; else nothing is.
pub record PrintsLine (was : Progress) (line : Bytes) (old new : Shown) (now : Progress) : Type 0 where
  pub writes : was ≡ progress.Writing → AfterLine line old new now
  pub leaves : was ≢ progress.Writing → (now ≡ was) × (new ≡ old)

-- each input for which the one printer prints, the other does too, with these replies given behind the others
pub record KeepsPrinting (more : List Placed) (old new : Printer) (before after : Shown) : Type 0 where
  pub keeps : (lines : List Line) (given : List Placed) (start : Shown)
      → All (λ (x : Placed). IsReplyAt lines x.0 x.1.0 x.1.1) more
      → Prints lines given old start before → Prints lines (given ++ more) new start after
