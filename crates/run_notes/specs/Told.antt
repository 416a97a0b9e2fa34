-- What is told of a run, in the words of its report.
use Rattle.std.specs.Prelude.{◌≡◌, List, map}
use Rattle.fan_base.specs.declared.number.Mark.TheVariants as mark
use Rattle.event_base.specs.Seen.{NoteSeen}
use Rattle.pool_model.specs.Records.{Record}
use Rattle.pool_model.specs.Tasks.{Add}
use Rattle.prio_pool.specs.Running.{DirectSeen}
use Rattle.fan_model.specs.Notes.{Note}
use Rattle.fan_model.specs.Report.{PoolTold}
use Rattle.fan_model.specs.Tasks.{Run}
use Rattle.run_notes.specs.declared.notes.PoolNote.{PoolNote}

-- the run that a record tells
abbrev pub run_of : Record → Run
run_of r = record { queue = r.queue; exec = r.exec; id = r.job; mark = r.mark }

abbrev pub run_of_direct : DirectSeen → Run
run_of_direct r = record { queue = r.queue; exec = r.exec; id = r.job; mark = r.mark }

-- the same run but for its mark
abbrev pub unmarked : Run → Run
unmarked r = record r { mark = mark.Memory }

-- These records tell of these runs, one by one: of each its queue, executor and id. Of marks nothing is said.
abbrev pub TellOf : List DirectSeen → List Run → Type 0
TellOf direct runs = map (λ (r : DirectSeen). unmarked (run_of_direct r)) direct ≡ map unmarked runs

-- the run that an add asks for, where memory is found: its mark has the job's own number
abbrev pub run_of_add : Add → Run
run_of_add a = record { queue = a.queue; exec = a.head.exec; id = a.head.id; mark = mark.Done a.head.number }

abbrev pub note_of : NoteSeen → Note
note_of n = record { exec = n.exec; put = n.put; taken = n.taken; left = n.left }

abbrev pub told_of : PoolNote → PoolTold
told_of n = record {
  accepted = n.accepted;
  ran = map run_of n.ran.records;
  stopped = n.ran.stopped;
  returned = map run_of n.returned;
  direct = map run_of_direct n.direct;
}
