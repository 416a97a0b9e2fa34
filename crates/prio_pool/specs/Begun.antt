-- A pool whose end has begun.
use Rattle.std.specs.Prelude.{◌≡◌, List, Some}
use Rattle.pool_model.specs.declared.task.Ending.{Ending}
use Rattle.pool_model.specs.Seen.{PoolSeen, PassSeen, EndingSeen}
use Rattle.task_queue.specs.Marks.{WatchSeen}

-- this end of the pool, with these passes of its adders, has begun
pub record HasBegun (ending : Ending) (pool : PoolSeen) (passes : List PassSeen) (e : EndingSeen) : Type 0 where
  pub pool_is : e.pool ≡ pool.id
  pub count_is : e.count ≡ pool.count
  pub ending_is : e.ending ≡ ending
  pub passes_are : e.passes ≡ passes

-- the seat has set the pool's mark to this end
pub record SetMark (pool : PoolSeen) (ending : Ending) (w : WatchSeen) : Type 0 where
  pub mark : w.mark ≡ pool.id.mark
  pub found : w.found ≡ Some ending
