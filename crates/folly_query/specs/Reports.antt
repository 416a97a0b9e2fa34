-- What a report tells of a run.
use Rattle.std.specs.Prelude.{◌≡◌, List, [], map, Some, None}
use Rattle.query_model.specs.declared.line.Line.{Line}
use Rattle.query_words.specs.declared.command.Settings.{Settings}
use Rattle.fan_model.specs.Report.{Asking, IsReport}
use Rattle.fan_model.specs.Totals.{no_cores}
use Rattle.run_notes.specs.declared.notes.PoolNote.{PoolNote}
use Rattle.run_notes.specs.Counting.{totals_of}
use Rattle.run_notes.specs.Told.{note_of, told_of}
use Rattle.run_ending.specs.declared.end.FanOutcome.{FanOutcome}
use Rattle.run_ending.specs.declared.end.FanOutcome.TheVariants as outcome
use Rattle.fanout.specs.declared.run.Knobs.{Knobs}
use Rattle.folly_query.specs.declared.report.Report.{Report}
use Rattle.folly_query.specs.declared.report.Status.{Status}
use Rattle.folly_query.specs.declared.report.Status.TheVariants as status

-- what a run over these lines is asked, by the settings
abbrev pub asked_by : Settings → List Line → Asking
asked_by settings lines = record {
  lines = lines;
  shards = settings.shards;
  workers = settings.workers;
  bases = settings.bases;
  stop_at = settings.stop_at;
}

abbrev pub knobs_of : Settings → Knobs
knobs_of settings = record { workers = settings.workers; bases = settings.bases; stop_at = settings.stop_at }

abbrev pub status_of : FanOutcome → Status
status_of outcome.Done = status.Done
status_of outcome.Memory = status.Memory
status_of outcome.WriteFault = status.WriteFault

-- the whole report of a run that wrote all replies, or of which a write failed
pub record TellsAll (asked : Asking) (report : Report) : Type 0 where
  pub note : PoolNote
  pub pool : report.pool ≡ Some note
  pub told : IsReport asked (told_of note) (map note_of report.queues) (totals_of report.tally)

-- no pool, no queues and no cores
pub record TellsNothing (report : Report) : Type 0 where
  pub pool : report.pool ≡ None
  pub queues : report.queues ≡ []
  pub cores : totals_of report.tally ≡ no_cores

-- the words or the input weren't accepted
abbrev pub IsRefusal : Status → Type 0
IsRefusal status.Done = ⊥
IsRefusal status.Memory = ⊥
IsRefusal status.Usage = Unit {0}
IsRefusal (status.BadInput _) = Unit {0}
IsRefusal status.ReadFault = Unit {0}
IsRefusal status.WriteFault = ⊥
IsRefusal status.TooLarge = Unit {0}
