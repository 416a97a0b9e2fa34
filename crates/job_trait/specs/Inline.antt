-- What contracts see of an executor that runs each job as it comes.
use Rattle.std.specs.Prelude.{◌≡◌, ℕ, Option, Some}
use Rattle.fan_base.specs.declared.number.ExecId.{ExecId}
use Rattle.fan_base.specs.declared.number.JobId.{JobId}
use Rattle.fan_base.specs.declared.number.Mark.{Mark}
use Rattle.job_trait.specs.declared.job.Head.{Head}
use Rattle.job_trait.specs.declared.inline.InlineExecutor.{InlineExecutor}
use Rattle.job_trait.specs.Marks.{IsMarkOf}

module _ {W : Type 0} where
  abbrev pub exec_of : InlineExecutor W → ExecId
  exec_of e = e.exec

  -- the world as it is now
  abbrev pub world_of : InlineExecutor W → W
  world_of e = e.world.now

  -- which borrow of a world it is
  abbrev pub loan_of : InlineExecutor W → ℕ
  loan_of e = e.world.ghost_name

  -- the id and the mark of the job that ran last
  abbrev pub last_of : InlineExecutor W → Option (JobId × Mark)
  last_of e = e.last

  -- a job with this head ran once, on the executor's world
  pub record RunsOnce (runs : JobId → W → Mark → W → Type 0) (before : InlineExecutor W) (head : Head) (after : InlineExecutor W) : Type 0 where
    pub mark : Mark
    pub may : IsMarkOf head.number mark
    pub ran : runs head.id (world_of before) mark (world_of after)
    pub last : last_of after ≡ Some (head.id, mark)
    pub exec : exec_of after ≡ exec_of before
    pub loan : loan_of after ≡ loan_of before
