-- What each status of a run says of its source and its sink, before and after, and of its report.
use Rattle.std.specs.Prelude.{ℕ, ◌≡◌, ◌≤◌, ◌<◌, ◌⊎◌, length}
use Rattle.fan_base.specs.Outside.{Shown, FaultsRose}
use Rattle.fan_model.specs.Report.{Asking}
use Rattle.query_model.specs.declared.line.Input.{Input}
use Rattle.query_model.specs.declared.fault.BadInput.{BadInput}
use Rattle.query_model.specs.Pieces.{Bytes}
use Rattle.query_model.specs.Reading.{Accepts, Refuses}
use Rattle.query_model.specs.Output.{output, error_text, IsTextOf}
use Rattle.query_model.specs.Generated.{generated_input, summary_line}
use Rattle.query_words.specs.declared.command.Generation.{Generation}
use Rattle.query_words.specs.declared.command.Settings.{Settings}
use Rattle.run_notes.specs.declared.notes.PoolNote.{PoolNote}
use Rattle.run_ending.specs.Ends.{IsPoolTold}
use Rattle.folly_query.specs.declared.report.Report.{Report}
use Rattle.folly_query.specs.declared.report.Status.{Status}
use Rattle.folly_query.specs.declared.report.Status.TheVariants as status
use Rattle.reply_printer.specs.Passing.{Gains, GainsFront}
use Rattle.input_reader.specs.Sources.{most_bytes, ReadsAll, ReadsTooMuch, FailsBehind}
use Rattle.folly_query.specs.Reports.{TellsAll, asked_by}

-- all was read, it is accepted, and what is told of a pool holds of the run over it
abbrev pub TellsPool : Settings → Shown → Shown → PoolNote → Type 0
TellsPool settings source source' note =
    (text : Bytes) × ReadsAll source source' text × (input : Input) × Accepts text settings.shards input × IsPoolTold (asked_by settings input.lines) note

-- the sink gained this text, or a front of it where its faults rose
abbrev pub IsWritten : Bytes → Shown → Shown → Type 0
IsWritten text sink sink' = Gains sink sink' text ⊎ (GainsFront sink sink' text × FaultsRose sink.faults sink'.faults)

-- of a run by these settings
abbrev pub EndsBy : Settings → Shown → Shown → Shown → Shown → Report → Status → Type 0
-- all was read, it is accepted, the sink gained the replies, and the report is that of a run over it
EndsBy settings source source' sink sink' report status.Done =
    (text : Bytes) × ReadsAll source source' text × (input : Input) × Accepts text settings.shards input
    × Gains sink sink' (output input) × TellsAll (asked_by settings input.lines) report
-- no read failed, and nothing was written; or all was read, and the sink gained a front of what is to be written for it
EndsBy settings source source' sink sink' report status.Memory =
    ((sink' ≡ sink) × (source'.faults ≡ source.faults)) ⊎ ((text : Bytes) × ReadsAll source source' text × (out : Bytes) × IsTextOf text settings.shards out × GainsFront sink sink' out)
EndsBy settings source source' sink sink' report status.Usage = ⊥
-- all was read, it is refused, and the error line was written as far as the sink took it
EndsBy settings source source' sink sink' report (status.BadInput bad) =
    (text : Bytes) × ReadsAll source source' text × Refuses text settings.shards bad × IsWritten (error_text bad) sink sink'
-- the source's faults rose behind at most 67,108,864 bytes, and nothing was written
EndsBy settings source source' sink sink' report status.ReadFault = (text : Bytes) × FailsBehind source source' text × (sink' ≡ sink)
-- all was read, it is accepted, the sink's faults rose, it gained a front of the replies, and the report is that of a run over what was read
EndsBy settings source source' sink sink' report status.WriteFault =
    (text : Bytes) × ReadsAll source source' text × (input : Input) × Accepts text settings.shards input
    × GainsFront sink sink' (output input) × FaultsRose sink.faults sink'.faults × TellsAll (asked_by settings input.lines) report
-- more than 67,108,864 bytes were read, but no further, and nothing was written
EndsBy settings source source' sink sink' report status.TooLarge = (text : Bytes) × ReadsTooMuch source source' text × (sink' ≡ sink)

abbrev pub EndsAs : Settings → Shown → Shown → Shown → Shown → Report → Type 0
EndsAs settings source source' sink sink' report = EndsBy settings source source' sink sink' report report.status

-- it is this status, or want of memory
abbrev pub IsOrMemory : Status → Status → Type 0
IsOrMemory found expected = (found ≡ expected) ⊎ (found ≡ status.Memory)

-- what a run comes to whose source had these bytes, unless memory runs out
pub record Comes (shards : ℕ) (bytes : Bytes) (source source' sink sink' : Shown) (found : Status) : Type 0 where
  -- an accepted input of at most 67,108,864 bytes is answered, where nothing fails
  pub done : (input : Input) → length bytes ≤ most_bytes → Accepts bytes shards input → ¬ FaultsRose source.faults source'.faults → ¬ FaultsRose sink.faults sink'.faults → IsOrMemory found status.Done
  -- a refused one is refused, where no read fails
  pub refused : (bad : BadInput) → length bytes ≤ most_bytes → Refuses bytes shards bad → ¬ FaultsRose source.faults source'.faults → IsOrMemory found (status.BadInput bad)
  -- a larger one is too large, where no read fails
  pub too_large : most_bytes < length bytes → ¬ FaultsRose source.faults source'.faults → IsOrMemory found status.TooLarge

-- the line that sums up the replies to the input that is made up by these numbers
abbrev pub summary_by : Generation → Bytes
summary_by generation = summary_line generation.seed generation.docs generation.queries

-- what the status of a refusal says: the error line was written; or nothing was, for want of memory
abbrev pub RefusesAs : BadInput → Shown → Shown → Status → Type 0
RefusesAs bad sink sink' (status.BadInput found) = (found ≡ bad) × IsWritten (error_text bad) sink sink'
RefusesAs bad sink sink' status.Memory = sink' ≡ sink
RefusesAs bad sink sink' _ = ⊥

-- what is said of a line that is written: it was, or a front of it where the sink's faults rose; or nothing for want of memory
abbrev pub WritesAs : Bytes → Shown → Shown → Status → Type 0
WritesAs line sink sink' status.Done = Gains sink sink' line
WritesAs line sink sink' status.Memory = sink' ≡ sink
WritesAs line sink sink' status.WriteFault = GainsFront sink sink' line × FaultsRose sink.faults sink'.faults
WritesAs line sink sink' _ = ⊥

-- no reply was written: nothing was; or, of an input that is refused, the error line as far as the sink took it
abbrev pub GainsNoReply : Shown → Shown → Status → Type 0
GainsNoReply sink sink' (status.BadInput bad) = IsWritten (error_text bad) sink sink'
GainsNoReply sink sink' _ = sink' ≡ sink

-- what is asked of a run over the input that is made up by these numbers
abbrev pub asked_of : Generation → Settings → Asking
asked_of generation settings = asked_by settings (generated_input generation.seed generation.docs generation.queries).lines

-- the endings over an input that is made up, which reads nothing
abbrev pub SumsUpBy : Generation → Settings → Shown → Shown → Report → Status → Type 0
-- the sink gained the summary line, and the report is that of a run over the input
SumsUpBy generation settings sink sink' report status.Done = Gains sink sink' (summary_by generation) × TellsAll (asked_of generation settings) report
-- nothing was written
SumsUpBy generation settings sink sink' report status.Memory = sink' ≡ sink
-- the sink's faults rose, it gained a front of the line, and the report is the same
SumsUpBy generation settings sink sink' report status.WriteFault =
    GainsFront sink sink' (summary_by generation) × FaultsRose sink.faults sink'.faults × TellsAll (asked_of generation settings) report
SumsUpBy generation settings sink sink' report _ = ⊥

abbrev pub SumsUpAs : Generation → Settings → Shown → Shown → Report → Type 0
SumsUpAs generation settings sink sink' report = SumsUpBy generation settings sink sink' report report.status
