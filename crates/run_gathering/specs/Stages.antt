-- What the stage of a gathering base comes to.
use Rattle.std.specs.Prelude.{◌≡◌, ℕ, List, ◌++◌, Bool, false, length}
use Rattle.core_word.specs.Count.{Counts}
use Rattle.notify_queue.specs.Ends.{Sending}
use Rattle.event_base.specs.Seen.{BaseSeen}
use Rattle.fan_parts.specs.declared.jobs.PrintJob.{PrintJob}
use Rattle.fan_parts.specs.declared.jobs.GatherJob.{GatherJob}
use Rattle.notify_queue.specs.declared.stamp.Stamped.{Stamped}
use Rattle.std.specs.List.{All}
use Rattle.run_gathering.specs.Gathering.{HasAnswer, counted, fires_among, no_counts}

-- the same base: its executor, its queue, and the number of its posters
pub record IsSameBase {J : Type 0} (old new : BaseSeen J) : Type 0 where
  pub exec : new.agenda.exec ≡ old.agenda.exec
  pub queue : new.queue.queue ≡ old.queue.queue
  pub senders : new.queue.senders ≡ old.queue.senders

-- the same poster, with so many posts more
pub record HasPosted {M : Type 0} (old : Sending M) (posts : List M) (new : Sending M) : Type 0 where
  pub queue : new.queue ≡ old.queue
  pub number : new.number ≡ old.number
  pub sent : new.sent ≡ old.sent ++ posts

-- What a base came to that had no count before: it took these messages, some replies' cores were forwarded, and these replies were posted. Where no memory was
-- refused, each message is the fire of a task, the tally counts exactly this: one handed over for each message; and each of the replies has its answer.
pub record CameTo {N : Type 0} (old new : BaseSeen (GatherJob N)) (printer printer_end : Sending (PrintJob N)) (tally : Counts) (refused : Bool) : Type 0 where
  pub took : List (Stamped (GatherJob N))
  pub taken : new.queue.taken ≡ old.queue.taken ++ took
  pub forwards : ℕ
  pub posts : List (PrintJob N)
  pub posted : HasPosted printer posts printer_end
  pub fires : refused ≡ false → fires_among took ≡ length took
  pub counts : refused ≡ false → tally ≡ counted (length took) forwards (length posts) no_counts
  pub answers : refused ≡ false → All HasAnswer posts
