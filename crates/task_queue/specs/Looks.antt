-- The looks of one worker or helper at queues and at the mark, oldest first.
use Rattle.std.specs.Prelude.{ℕ, List, [], ◌∷◌, Option, Some, None}
use Rattle.std.specs.declared.alloc.Global.{Global}
use Rattle.atomic_table.specs.Seated.{TableId}
use Rattle.crossbeam_queue.specs.SegTies.{SegId}
use Rattle.job_trait.specs.declared.job.Head.{Head}
use Rattle.pool_model.specs.declared.task.Ending.{Ending}
use Rattle.pool_model.specs.declared.task.Entry.{Entry}
use Rattle.pool_model.specs.Steps.{of_queue, of_mark, LookSeen, looked, found_empty, took}
use Rattle.queue_looks.specs.declared.pops.Noted.{Noted}
use Rattle.queue_looks.specs.declared.pops.Noted.TheVariants.{Took, FoundEmpty, Looked}
use Rattle.task_queue.specs.declared.rule.Queued.{Queued}
use Rattle.task_queue.specs.Marks.{WatchSeen}
use Rattle.task_queue.specs.Passes.{Pass}
use Rattle.task_queue.specs.Views.{entry_of}

-- what was popped last
abbrev pub last_or : Entry → List Entry → Entry
last_or d [] = d
last_or d (e ∷ es) = last_or e es

abbrev pub no_entry : Entry
no_entry = record { ticket = record { adder = 0; index = 0 }; head = record { id = record { 0 = 0 }; exec = record { 0 = 0 }; number = 0 } }

abbrev pub queue_of : {J : Type 0} → Pass J → SegId Global
queue_of p = record { web = p.web; heap = p.heap }

-- what is noted: a pop, with what its pass had popped by then, or a look at the mark
abbrev pub look_of : {J : Type 0} → Noted (Pass J) WatchSeen → LookSeen
look_of (Took place pass) = record { place = of_queue (queue_of pass.value); step = took place (last_or no_entry pass.value.me.view.client.popped) }
look_of (FoundEmpty place pass) = record { place = of_queue (queue_of pass.value); step = found_empty place }
look_of (Looked watch) = record { place = of_mark watch.value.mark; step = looked watch.value.found }

-- a pop of this queue, which gave this task or found it empty
abbrev pub pop_seen : {J : Type 0} → (J → Head) → SegId Global → ℕ → Option (Queued J) → LookSeen
pop_seen head queue place (Some task) = record { place = of_queue queue; step = took place (entry_of head task) }
pop_seen head queue place None = record { place = of_queue queue; step = found_empty place }

-- a look at this mark, which found this end begun, or none
abbrev pub mark_seen : TableId → Option Ending → LookSeen
mark_seen mark found = record { place = of_mark mark; step = looked found }
