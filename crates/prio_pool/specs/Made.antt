-- A pool as it is made.
use Rattle.std.specs.Prelude.{◌≡◌, ℕ, ◌+◌, ◌-◌, zero, suc, List, [], ◌∷◌, None, map, length, ◌<◌, ◌≤◌}
use Rattle.std.specs.declared.alloc.Global.{Global}
use Rattle.atomic_table.specs.Seated.{TableId}
use Rattle.crossbeam_queue.specs.SegTies.{SegId}
use Rattle.fan_base.specs.declared.number.ExecId.{ExecId}
use Rattle.keep_alive.specs.Seen.{TokenSeen, OwnerSeen}
use Rattle.pool_model.specs.declared.task.Entry.{Entry}
use Rattle.pool_model.specs.Seen.{PoolId, PoolSeen, PassSeen, WorkerSeen, EndSeen}
use Rattle.prio_pool.specs.declared.make.Counts.{Counts}
use Rattle.prio_pool.specs.declared.new.Size.{Size}
use Rattle.prio_pool.specs.Passes.{end_seen}
use Rattle.prio_pool.specs.Takers.{TakersSeen}
use Rattle.task_queue.specs.Marks.{MarkSeen, OpenSeen}
use Rattle.task_queue.specs.Seen.{MakerSeen, AdderSeen, TakerSeen}

abbrev Queues : Type 0
Queues = List (SegId Global)

-- the maker of a queue's passes
abbrev pub maker : Counts → SegId Global → MakerSeen
maker c queue = record { queue = queue; passes = c.passes; left = c.left; adders = c.adders; takers = c.takers }

abbrev pub makers_of : Counts → Queues → List MakerSeen
makers_of c queues = map (maker c) queues

-- after one adder or taker more
abbrev pub one_adder : Counts → Counts
one_adder c = record { passes = c.passes; left = c.left - 1; adders = c.adders + 1; takers = c.takers }

abbrev pub one_taker : Counts → Counts
one_taker c = record { passes = c.passes; left = c.left - 1; adders = c.adders; takers = c.takers + 1 }

-- after so many takers more
abbrev pub with_takers : Counts → ℕ → Counts
with_takers c count = record { passes = c.passes; left = c.left - count; adders = c.adders; takers = c.takers + count }

-- the pool over these queues with so many passes and this mark
abbrev pub id_over : Queues → ℕ → TableId → PoolId
id_over queues passes mark = record { queues = queues; passes = passes; mark = mark }

-- the next adder's and taker's pass of a queue, which have done nothing
abbrev pub new_adder : Counts → SegId Global → AdderSeen
new_adder c queue = record { queue = queue; passes = c.passes; number = c.adders; pushed = [] }

abbrev pub new_adders : Counts → Queues → List AdderSeen
new_adders c queues = map (new_adder c) queues

abbrev pub new_taker : Counts → SegId Global → TakerSeen
new_taker c queue = record { queue = queue; passes = c.passes; number = c.takers; popped = [] }

abbrev pub new_takers : Counts → Queues → List TakerSeen
new_takers c queues = map (new_taker c) queues

-- the first k are mapped by f, the others by g
abbrev pub mixed : {X Y : Type 0} → (X → Y) → (X → Y) → ℕ → List X → List Y
mixed f g zero xs = map g xs
mixed f g (suc k) [] = []
mixed f g (suc k) (x ∷ xs) = f x ∷ mixed f g k xs

-- nothing on each queue
abbrev pub nothing_on : Queues → List (List Entry)
nothing_on queues = map (λ _. []) queues

abbrev pub new_pass : PoolId → ℕ → PassSeen
new_pass pool number = record { pool = pool; number = number; pushed = nothing_on pool.queues }

abbrev pub new_takers_seen : PoolId → ℕ → TakersSeen
new_takers_seen pool number = record { pool = pool; number = number; popped = nothing_on pool.queues; looked_so_often = 0; found = None; looks = [] }

abbrev pub new_end : PoolId → ℕ → EndSeen
new_end pool number = record { pool = pool; number = number; records = []; popped = nothing_on pool.queues; looks = []; found = None }

-- so many passes of this pool, numbered from the first on
abbrev pub new_passes : PoolId → ℕ → ℕ → List PassSeen
new_passes pool first zero = []
new_passes pool first (suc n) = new_pass pool first ∷ new_passes pool (first + 1) n

abbrev pub new_workers : PoolId → ℕ → ℕ → List WorkerSeen
new_workers pool first zero = []
new_workers pool first (suc n) = record { pool = pool; number = first } ∷ new_workers pool (first + 1) n

abbrev pub new_ends : PoolId → ℕ → ℕ → List EndSeen
new_ends pool first zero = []
new_ends pool first (suc n) = new_end pool first ∷ new_ends pool (first + 1) n

-- so many passes in all, of which so many adders were made
abbrev pub counted : ℕ → ℕ → Counts
counted passes adders = record { passes = passes; left = passes - adders; adders = adders; takers = 0 }

abbrev pub new_takers_from : PoolId → ℕ → ℕ → List TakersSeen
new_takers_from pool first zero = []
new_takers_from pool first (suc n) = new_takers_seen pool first ∷ new_takers_from pool (first + 1) n

-- each in a list of its own
abbrev pub in_places : List PassSeen → List (List PassSeen)
in_places passes = map (λ p. p ∷ []) passes

-- the one pass of a pool with this mark
pub record IsPlace (mark : TableId) (place : List PassSeen) : Type 0 where
  pub pass : PassSeen
  pub one : place ≡ pass ∷ []
  pub of_mark : pass.pool.mark ≡ mark

abbrev pub worker_seen : TakersSeen → WorkerSeen
worker_seen t = record { pool = t.pool; number = t.number }

abbrev pub helper_seen : TakersSeen → EndSeen
helper_seen t = end_seen t []

-- queues, an end mark with all parts, and all passes over them
module _ (adders workers helpers : ℕ) (queues : Queues) (mark : MarkSeen) where
  abbrev pub pool_of : PoolId
  pool_of = record { queues = queues; passes = adders + workers + helpers; mark = mark.mark }

  pub record HasAll (seat : OpenSeen) (places : List (List PassSeen)) (works helps : List TakersSeen) : Type 0 where
    pub mark_is : mark.adders ≡ adders
    pub seat_is : seat ≡ record { mark = mark.mark; parts = adders }
    pub places_are : places ≡ in_places (new_passes pool_of 0 adders)
    pub works_are : works ≡ new_takers_from pool_of 0 workers
    pub helps_are : helps ≡ new_takers_from pool_of workers helpers

-- a pool with this executor and so many queues and passes, the owner of its keep-alives, the first of these with so much room, and all passes
pub record IsNewPool (exec : ExecId) (priorities adders workers helpers room : ℕ) (pool : PoolSeen) (owner : OwnerSeen) (keep : TokenSeen) (passes : List PassSeen) (works : List WorkerSeen) (helps : List EndSeen) : Type 0 where
  pub exec_is : pool.exec ≡ exec
  pub queues : length pool.id.queues ≡ priorities
  pub adders_are : pool.adders ≡ adders
  pub workers_are : pool.workers ≡ workers
  pub helpers_are : pool.helpers ≡ helpers
  pub owner_is : owner.count ≡ pool.count
  pub keep_is : keep ≡ record { count = pool.count; room = room; first_room = room }
  pub passes_are : passes ≡ new_passes pool.id 0 adders
  pub works_are : works ≡ new_workers pool.id 0 workers
  pub helps_are : helps ≡ new_ends pool.id workers helpers

-- as many queues, adders, workers and helpers as a pool may have
pub record IsSize (s : Size) : Type 0 where
  pub some_queues : 0 < s.priorities
  pub few_queues : s.priorities ≤ 256
  pub some_adders : 0 < s.adders
  pub few_adders : s.adders ≤ 64
  pub some_workers : 0 < s.workers
  pub few_workers : s.workers ≤ 64
  pub few_helpers : s.helpers ≤ 64
