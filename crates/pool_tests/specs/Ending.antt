-- A pool that tasks are added to, and one whose end has begun.
use Rattle.std.specs.Prelude.{◌≡◌, ℕ, List, Option, MatchOption, Result, IfOk, IfErr, length}
use Rattle.fan_base.specs.declared.number.ExecId.{ExecId}
use Rattle.keep_alive.specs.Seen.{TokenSeen, OwnerSeen}
use Rattle.pool_model.specs.Passes.{AreAllPasses, AreAllEnds, adds_of}
use Rattle.pool_model.specs.Seen.{PoolSeen, PassSeen, EndSeen, EndingSeen}

-- The executor of a test's pool.
abbrev pub tests_exec : ExecId
tests_exec = record { 0 = 7 }

-- The pass of the pool's one helper, where it has one.
abbrev pub IsHelper : PoolSeen → Option EndSeen → Type 0
IsHelper pool helper = MatchOption helper (pool.helpers ≡ 0) (λ h. (h.pool ≡ pool.id) × (pool.helpers ≡ 1))

-- What adds to this pool, which has one adder and the executor 7, and helps there. So many tasks are added.
pub record IsAdding (pool : PoolSeen) (owner : OwnerSeen) (keep : TokenSeen) (pass : PassSeen) (helper : Option EndSeen) (tasks : ℕ) : Type 0 where
  pub exec : pool.exec.0 ≡ 7
  pub one : pool.adders ≡ 1
  pub owner_is : owner.count ≡ pool.count
  pub keep_is : keep.count ≡ pool.count
  pub pass_is : pass.pool ≡ pool.id
  pub added : length (adds_of pass) ≡ tasks
  pub helps : IsHelper pool helper

-- The pass of this pool's adder with this number, with which so many tasks are added.
pub record IsPassOf (pool : PoolSeen) (number tasks : ℕ) (pass : PassSeen) : Type 0 where
  pub of_pool : pass.pool ≡ pool.id
  pub number_is : pass.number ≡ number
  pub added : length (adds_of pass) ≡ tasks

-- The end of this pool has begun, with the passes of all its adders.
pub record IsEnding (pool : PoolSeen) (e : EndingSeen) : Type 0 where
  pub of_pool : e.pool ≡ pool.id
  pub passes : AreAllPasses pool.id pool.adders e.passes

-- It has begun, as a join or as a stop, and its helpers have ended.
pub record HasBegunToEnd (pool : PoolSeen) (ending : Result EndingSeen EndingSeen) (helped : List EndSeen) : Type 0 where
  pub joins : IfOk ending (IsEnding pool)
  pub stops : IfErr ending (IsEnding pool)
  pub helped_are : AreAllEnds pool.id pool.helpers helped
