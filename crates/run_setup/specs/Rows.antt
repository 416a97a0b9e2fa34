-- The posters of one thread to the gathering bases, and the jobs of the printer's base.
use Rattle.std.specs.Prelude.{ℕ, suc, List, [], ◌∷◌}
use Rattle.job_trait.specs.declared.job.Head.{Head}
use Rattle.notify_queue.specs.Ends.{QueueId}
use Rattle.fan_model.specs.Report.{Asking}
use Rattle.fan_model.specs.Tasks.{printer_exec}
use Rattle.fan_parts.specs.declared.jobs.PrintJob.{PrintJob}
use Rattle.fan_parts.specs.Heads.{print_id}
use Rattle.run_tasks.specs.Worlds.{PosterTold}

-- the posters with this number to the bases of these queues, which have the executors from the first on
abbrev pub row_from : ℕ → ℕ → List QueueId → List PosterTold
row_from first number [] = []
row_from first number (q ∷ qs) = record { queue = q; number = number; exec = record { 0 = first } } ∷ row_from (suc first) number qs

-- the posters with this number to the gathering bases of these queues
abbrev pub row_of : ℕ → List QueueId → List PosterTold
row_of number queues = row_from 1 number queues

abbrev pub print_head : {N : Type 0} → Asking → PrintJob N → Head
print_head asked job = record { id = record { 0 = print_id job }; exec = printer_exec asked.bases; number = 0 }
