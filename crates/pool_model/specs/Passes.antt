-- The adds of a pass, in order, and all passes of a pool.
use Rattle.std.specs.Prelude.{◌≡◌, ℕ, ◌<◌, List, [], ◌∷◌, ◌++◌, ◌==◌, length, map, filter, slice_get, slice_index_or, Some, All}
use Rattle.std.specs.List.{sum_by, count_by, range_with_len}
use Rattle.pool_model.specs.Orders.{IsSameInAnyOrder}
use Rattle.pool_model.specs.Tasks.{Task, Add, add_of, numbered, upwards}
use Rattle.pool_model.specs.Seen.{PoolId, PassSeen, EndSeen}

abbrev pub no_add : Add
no_add = record { queue = 0; head = record { id = record { 0 = 0 }; exec = record { 0 = 0 }; number = 0 } }

abbrev pub first_add : List Task → Add
first_add [] = no_add
first_add (t ∷ ts) = add_of t

-- the add whose ticket has this index
abbrev pub add_with : List Task → ℕ → Add
add_with tasks index = first_add (filter (λ t. t.ticket.index == index) tasks)

-- the tasks that the pass pushed, from the lowest queue to the highest
abbrev pub pushed_by : PassSeen → List Task
pushed_by p = upwards 0 p.pushed

-- the adds of the pass, in order: those with the indexes 0, 1, 2, .., as many as it pushed
abbrev pub adds_of : PassSeen → List Add
adds_of p = map (add_with (pushed_by p)) (range_with_len 0 (length (pushed_by p)))

-- The adds have no gap: numbered 0, 1, 2, .. they are, in any order, what the pass pushed. So none of them is made up.
pub record HasNoGap (p : PassSeen) : Type 0 where
  pub all : IsSameInAnyOrder (numbered p.number 0 (adds_of p)) (pushed_by p)

-- the tasks of all these passes
abbrev pub tasks_of : List PassSeen → List Task
tasks_of [] = []
tasks_of (p ∷ ps) = numbered p.number 0 (adds_of p) ++ tasks_of ps

-- how many tasks these passes added
abbrev pub adds_total : List PassSeen → ℕ
adds_total passes = sum_by (λ p. length (adds_of p)) passes

-- how many of the passes have this number
abbrev pub passes_with : ℕ → List PassSeen → ℕ
passes_with number passes = count_by (λ p. p.number == number) passes

-- all passes of this pool, which has so many adders: no two have one number
pub record AreAllPasses (pool : PoolId) (adders : ℕ) (passes : List PassSeen) : Type 0 where
  pub of_pool : All (λ p. p.pool ≡ pool) passes
  pub count : length passes ≡ adders
  pub once : (k : ℕ) (pass : PassSeen) → slice_get passes k ≡ Some pass → passes_with pass.number passes ≡ 1

-- as many passes of this pool as it has adders, with the numbers 0, 1, 2, and so on
pub record AreNumbered (pool : PoolId) (adders : ℕ) (passes : List PassSeen) : Type 0 where
  pub count : length passes ≡ adders
  pub each : (k : ℕ) (d : PassSeen) → k < length passes → ((slice_index_or passes k d).pool ≡ pool) × ((slice_index_or passes k d).number ≡ k)

-- all ends of so many workers or helpers of this pool
pub record AreAllEnds (pool : PoolId) (count : ℕ) (ends : List EndSeen) : Type 0 where
  pub of_pool : All (λ e. e.pool ≡ pool) ends
  pub count_is : length ends ≡ count
