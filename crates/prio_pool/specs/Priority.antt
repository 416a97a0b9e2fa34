-- Which queue a priority goes to.
use Rattle.std.specs.Prelude.{ℕ, ◌+◌, ◌-◌, ◌/◌, length, min, ℤ, pos, negsuc}
use Rattle.pool_model.specs.Seen.{PoolId}

-- With n queues, whose middle is n / 2 rounded down, a priority below 0 lies as far below the middle, and every other as far above it,
-- within the queues that there are.
abbrev pub queue_of : ℕ → ℤ → ℕ
queue_of n (pos p) = min (n - 1) (n / 2 + p)
queue_of n (negsuc p) = n / 2 - (p + 1)

-- the queue of this pool that a priority goes to
abbrev pub queue_in : PoolId → ℤ → ℕ
queue_in pool priority = queue_of (length pool.queues) priority
