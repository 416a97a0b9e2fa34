-- What an executor that keeps its jobs is seen as.
use Rattle.std.specs.Prelude.{List}
use Rattle.fan_base.specs.declared.number.ExecId.{ExecId}

-- its number, and the jobs that it holds, the oldest first
pub record Held (J : Type 0) : Type 0 where
  pub exec : ExecId
  pub jobs : List J
