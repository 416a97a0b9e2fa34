-- What a run of a task does to its world, and what is left of a world at its end.
use Rattle.std.specs.Prelude.{◌≡◌, ℕ, ◌+◌, ◌<◌, List, [], ◌∷◌, false, length, map, get_or}
use Rattle.std.specs.List.{All}
use Rattle.fan_base.specs.declared.number.ExecId.{ExecId}
use Rattle.fan_base.specs.declared.number.JobId.{JobId}
use Rattle.fan_base.specs.declared.number.Mark.{Mark}
use Rattle.core_cells.specs.Seen.{SeenPass}
use Rattle.job_trait.specs.Marks.{IsDone}
use Rattle.notify_queue.specs.Ends.{QueueId, Sending}
use Rattle.fan_model.specs.Report.{Asking}
use Rattle.fan_parts.specs.declared.jobs.GatherJob.{GatherJob}
use Rattle.fan_parts.specs.Heads.{gather_head}
use Rattle.fan_parts.specs.Seen.{PosterSeen}
use Rattle.run_tasks.specs.Seen.{WorldSeen}
use Rattle.run_tasks.specs.Leaving.{CountsLeave, LeavesSome, MakesMore}
use Rattle.run_tasks.specs.Posting.{IsFireOfTask, PostsOneAtMost}

-- which poster it is: its queue, its number there, and the executor of its base
pub record PosterTold : Type 0 where
  pub queue : QueueId
  pub number : ℕ
  pub exec : ExecId

module _ {J : Type 0} where
  abbrev pub told_of : PosterSeen J → PosterTold
  told_of p = record { queue = p.sender.queue; number = p.sender.number; exec = p.exec }

  -- a poster for each gathering base: at place b that of the base with the executor b + 1
  pub record ArePostersOf (asked : Asking) (posters : List (PosterSeen J)) : Type 0 where
    pub as_many : length posters ≡ asked.bases
    pub each : (b : ℕ) (d : PosterSeen J) → b < asked.bases → (get_or posters b d).exec ≡ record { 0 = 1 + b }

-- the pass is of the same cells
pub record StaysPass (old new : SeenPass) : Type 0 where
  pub cells : new.cells ≡ old.cells
  pub homes : new.homes ≡ old.homes
  pub passes : new.passes ≡ old.passes

module _ {N : Type 0} where
  -- A world after another: its posters and its cells are the same, and a note that memory was refused stays; where none stands, its tally counts no core more as
  -- handed over.
  pub record Follows (old new : WorldSeen N) : Type 0 where
    pub posters : map told_of new.posters ≡ map told_of old.posters
    pub cells : new.cells ≡ old.cells
    pub pass : StaysPass old.pass new.pass
    pub refused : new.refused ≡ false → old.refused ≡ false
    pub handed : new.refused ≡ false → new.tally.handed ≡ old.tally.handed

  -- where the world notes no refusal, it has begun the cores of so many tasks
  pub record MadeFor (tasks : ℕ) (w : WorldSeen N) : Type 0 where
    pub made : w.refused ≡ false → MakesMore tasks w.tally

  -- What a run of the task with this id does: where the world doesn't note that memory was refused, the run was done, one core was left, and nothing
  -- was posted but the fire of the task's core, if that.
  pub record TaskRan (id : JobId) (old : WorldSeen N) (mark : Mark) (new : WorldSeen N) : Type 0 where
    pub follows : Follows old new
    pub done : new.refused ≡ false → IsDone mark
    pub tally : new.refused ≡ false → CountsLeave old.tally new.tally
    pub left : new.refused ≡ false → LeavesSome old.pass old.tally new.pass new.tally
    pub posted : new.refused ≡ false → PostsOneAtMost (IsFireOfTask id) old.posters new.posters

  -- at each place the end of that poster, all of whose messages have its base's executor
  abbrev pub AreEndsFor : List PosterTold → List (Sending (GatherJob N)) → Type 0
  AreEndsFor [] [] = Unit {0}
  AreEndsFor [] (e ∷ es) = ⊥
  AreEndsFor (p ∷ ps) [] = ⊥
  AreEndsFor (p ∷ ps) (e ∷ es) =
      (e.queue ≡ p.queue) × (e.number ≡ p.number) × All (λ job. (gather_head job).exec ≡ p.exec) e.sent × AreEndsFor ps es
