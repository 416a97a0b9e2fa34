-- A run of a job that never was in a pool.
use Rattle.std.specs.Prelude.{◌≡◌, ℕ}
use Rattle.fan_base.specs.declared.number.ExecId.{ExecId}
use Rattle.fan_base.specs.declared.number.JobId.{JobId}
use Rattle.fan_base.specs.declared.number.Mark.{Mark}
use Rattle.job_trait.specs.declared.job.Head.{Head}
use Rattle.job_trait.specs.Marks.{IsMarkOf}

-- what is seen of the record of a job that ran outside of a pool
pub record DirectSeen : Type 0 where
  pub queue : ℕ
  pub exec : ExecId
  pub job : JobId
  pub mark : Mark

-- a job with this head ran once, which led from the world w to the world v, and this is its record
pub record RanDirect {W : Type 0} (runs : JobId → W → Mark → W → Type 0) (head : Head) (given : ℕ) (w v : W) (r : DirectSeen) : Type 0 where
  pub queue_is : r.queue ≡ given
  pub exec_is : r.exec ≡ head.exec
  pub job_is : r.job ≡ head.id
  pub may : IsMarkOf head.number r.mark
  pub ran : runs r.job w r.mark v
