-- The end of the pool.
use Rattle.std.specs.Prelude.{Bool, true, false}
use Rattle.pool_model.specs.declared.task.Ending.{Ending as PoolEnding}
use Rattle.pool_model.specs.declared.task.Ending.TheVariants.{Joins as PoolJoins, Stops as PoolStops}
use Rattle.pool_model.specs.Seen.{EndingSeen}
use Rattle.query_tasks.specs.declared.pool_end.Ending.{Ending}
use Rattle.query_tasks.specs.declared.pool_end.Ending.TheVariants.{Joins, Stops}

-- the end that is asked for
abbrev pub end_for : Bool → PoolEnding
end_for true = PoolStops
end_for false = PoolJoins

module _ {N : Type 0} where
  -- what is seen of a pool whose end has begun
  abbrev pub seen_of : Ending N → EndingSeen
  seen_of (Joins joining) = joining
  seen_of (Stops stopping) = stopping

  -- whether it is stopped
  abbrev pub is_stop : Ending N → Bool
  is_stop (Joins joining) = false
  is_stop (Stops stopping) = true
