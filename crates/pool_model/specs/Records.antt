-- What contracts see of the record of a run.
use Rattle.std.specs.Prelude.{◌≡◌, ℕ, List, [], ◌∷◌, map}
use Rattle.fan_base.specs.declared.number.ExecId.{ExecId}
use Rattle.fan_base.specs.declared.number.JobId.{JobId}
use Rattle.fan_base.specs.declared.number.Mark.{Mark}
use Rattle.job_trait.specs.Marks.{IsMarkOf}
use Rattle.pool_model.specs.declared.task.Ticket.{Ticket}
use Rattle.pool_model.specs.Tasks.{Task}

-- the ticket and queue of the task, the executor and id of its job, and the mark of the run
pub record Record : Type 0 where
  pub ticket : Ticket
  pub queue : ℕ
  pub exec : ExecId
  pub job : JobId
  pub mark : Mark

-- the record is of a run of this task, and its mark is the job's own
pub record IsRunOf (task : Task) (r : Record) : Type 0 where
  pub ticket : r.ticket ≡ task.ticket
  pub queue : r.queue ≡ task.queue
  pub exec : r.exec ≡ task.head.exec
  pub job : r.job ≡ task.head.id
  pub mark : IsMarkOf task.head.number r.mark

-- the records are of runs of these tasks, in this order
abbrev pub AreRunsOf : List Task → List Record → Type 0
AreRunsOf [] [] = Unit {0}
AreRunsOf [] (r ∷ rs) = ⊥
AreRunsOf (t ∷ ts) [] = ⊥
AreRunsOf (t ∷ ts) (r ∷ rs) = IsRunOf t r × AreRunsOf ts rs

-- the jobs and marks of the records, in order
abbrev pub ran_of : List Record → List (JobId × Mark)
ran_of records = map (λ r. (r.job, r.mark)) records
