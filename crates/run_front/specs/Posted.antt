-- The replies of cancelled queries, as the front posts them to the printer's base.
use Rattle.std.specs.Prelude.{◌≡◌, ◌+◌, ◌++◌, ℕ, List, [], ◌∷◌, take}
use Rattle.fan_model.specs.Comings.{Coming, comings_of}
use Rattle.fan_model.specs.Report.{Asking}
use Rattle.fan_model.specs.Tasks.{printer_exec}
use Rattle.fan_parts.specs.declared.jobs.PrintJob.{PrintJob}
use Rattle.fan_parts.specs.declared.jobs.PrintJob.TheVariants as print_job
use Rattle.fan_parts.specs.Seen.{PosterSeen}

module _ {N : Type 0} where
  -- the reply of the query with this number, which is cancelled at this place
  abbrev pub cancelled_job : Asking → ℕ → ℕ → PrintJob N
  cancelled_job asked place number = print_job.Cancelled (record { place = place; number = number; exec = printer_exec asked.bases })

  -- the replies of those that are cancelled among these, the first of which comes at this place
  abbrev pub cancelled_from : Asking → ℕ → List Coming → List (PrintJob N)
  cancelled_from asked place [] = []
  cancelled_from asked place (Coming.begins query ∷ comings) = cancelled_from asked (place + 1) comings
  cancelled_from asked place (Coming.cancels query ∷ comings) = cancelled_job asked place query.number ∷ cancelled_from asked (place + 1) comings

  -- Behind these first jobs the poster has put the replies of all queries that are cancelled before this place, in their order, and nothing else.
  pub record HasPosted (asked : Asking) (place : ℕ) (first : List (PrintJob N)) (poster : PosterSeen (PrintJob N)) : Type 0 where
    pub are : poster.sender.sent ≡ first ++ cancelled_from asked 0 (take place (comings_of asked.lines))
