-- How a run ends, by how printing ended and by what was noted and compared.
use Rattle.std.proofs.Common.{◌≡◌, Bool, true, false, [], inl, inr, refl, sym, subst, ◌∙◌, append-nil}
use Rattle.std.specs.Prelude.{Option, Some, None, IfSome}
use Rattle.std.specs.Io.KnownBytes.{Appends}
use Rattle.fan_base.specs.Outside.{Shown}
use Rattle.query_model.specs.Pieces.{Bytes}
use Rattle.fan_model.specs.Report.{Asking}
use Rattle.reply_printer.specs.Passing.{Gains, GainsFront}
use Rattle.reply_printer.specs.Printing.{text_of}
use Rattle.run_printing.specs.declared.stage.PrintOutcome.{PrintOutcome}
use Rattle.run_printing.specs.declared.stage.PrintOutcome.TheVariants as print
use Rattle.run_printing.specs.Ends.{IsDone, Wrote}
use Rattle.run_ending.specs.declared.end.FanEnd.{FanEnd}
use Rattle.run_ending.specs.declared.end.FanOutcome.{FanOutcome}
use Rattle.run_ending.specs.declared.end.FanOutcome.TheVariants as outcome
use Rattle.run_ending.specs.Outcomes.{outcome_by}
use Rattle.run_notes.specs.declared.notes.PoolNote.{PoolNote}
use Rattle.run_ending.specs.Ends.{IsEndOf, IsReported, IsPoolTold, ReportsAs, TellsNoRun, WritesText}

-- all of a text is a front of it
gains_front : (start now : Shown) (text : Bytes) → Gains start now text → GainsFront start now text
gains_front start now text all = record { front = text; rest = []; whole = sym (append-nil text); gained = all.gained }

writes : (start now : Shown) (asked : Asking) (fine : Bool) (o : PrintOutcome) → Wrote asked.lines start now o → WritesText (text_of asked.lines) start now (outcome_by fine o)
writes start now asked false print.Done wrote = gains_front start now (text_of asked.lines) wrote
writes start now asked false print.Memory wrote = wrote
writes start now asked false print.WriteFault wrote = wrote.0
writes start now asked true print.Done wrote = wrote
writes start now asked true print.Memory wrote = wrote
writes start now asked true print.WriteFault wrote = wrote

reports : (asked : Asking) (end : FanEnd) (fine : Bool) (o : PrintOutcome) → (fine ≡ true → IsDone o → IsReported asked end) → ReportsAs asked end (outcome_by fine o)
reports asked end false o told = tt
reports asked end true print.Done told = told refl (inl refl)
reports asked end true print.Memory told = tt
reports asked end true print.WriteFault told = told refl (inr refl)

-- what was written is as printing says; and where all is fine, the report is whole
pub ended : (start now : Shown) (asked : Asking) (end : FanEnd) (note : PoolNote) (fine : Bool) (o : PrintOutcome) → end.outcome ≡ outcome_by fine o → Wrote asked.lines start now o
    → (fine ≡ true → IsDone o → IsReported asked end) → (end.pool ≡ None → TellsNoRun end) → end.pool ≡ Some note → IsPoolTold asked note → IsEndOf asked start now end
ended start now asked end note fine o is wrote told unmade has stopped = record {
  writes = subst (λ (x : FanOutcome). WritesText (text_of asked.lines) start now x) (sym is) (writes start now asked fine o wrote);
  reports = subst (λ (x : FanOutcome). ReportsAs asked end x) (sym is) (reports asked end fine o told);
  unmade = unmade;
  untouched = λ none. let q : None ≡ Some note = sym none ∙ has in cc;
  stopped = subst (λ (p : Option PoolNote). IfSome p (IsPoolTold asked)) (sym has) stopped;
}

-- nothing was written, and there was no pool
pub refused_end : (asked : Asking) (start : Shown) (end : FanEnd) → end.outcome ≡ outcome.Memory → end.pool ≡ None → TellsNoRun end → IsEndOf asked start start end
refused_end asked start end is none_made nothing = record {
  writes = subst (λ (x : FanOutcome). WritesText (text_of asked.lines) start start x) (sym is) (none start (text_of asked.lines));
  reports = subst (λ (x : FanOutcome). ReportsAs asked end x) (sym is) tt;
  unmade = λ none. nothing;
  untouched = λ none. refl;
  stopped = subst (λ (p : Option PoolNote). IfSome p (IsPoolTold asked)) (sym none_made) tt;
}
  where
    keeps : (known : Option Bytes) → Appends known known []
    keeps None = tt
    keeps (Some bytes) = sym (append-nil bytes)

    none : (start : Shown) (text : Bytes) → GainsFront start start text
    none start text = record { front = []; rest = text; whole = refl; gained = keeps start.bytes }
