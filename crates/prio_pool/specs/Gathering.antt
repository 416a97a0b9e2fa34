-- The passes of all queues, put together queue by queue.
use Rattle.std.specs.Prelude.{◌≡◌, ℕ, zero, suc, ◌+◌, List, [], ◌∷◌, ◌++◌, Option, Some, None, ◌≢◌, length, map, reverse, slice_get, slice_set}
use Rattle.std.specs.declared.alloc.Global.{Global}
use Rattle.atomic_table.specs.Seated.{TableId}
use Rattle.crossbeam_queue.specs.SegTies.{SegId}
use Rattle.pool_model.specs.declared.task.Ending.{Ending}
use Rattle.job_trait.specs.declared.job.Head.{Head}
use Rattle.pool_model.specs.Seen.{PassSeen, EndSeen, at_queue}
use Rattle.pool_runs.specs.declared.placed.Placed.{Placed}
use Rattle.prio_pool.specs.Adders.{entry_of}
use Rattle.task_queue.specs.declared.rule.Queued.{Queued}
use Rattle.task_queue.specs.Settled.{Settled}
use Rattle.task_queue.specs.Seen.{AdderSeen, TakerSeen, GatheredSeen, and_adder, and_taker}
use Rattle.task_queue.specs.Views.{share}

-- what one queue's gathered pass is, after these adders and takers were put together, of so many passes in all
abbrev pub gathered_at : ℕ → List PassSeen → List EndSeen → ℕ → SegId Global → GatheredSeen
gathered_at whole passes ends k queue = record {
  queue = queue;
  passes = whole;
  here = length passes + length ends;
  added = map (λ p. share p.number (at_queue p.pushed k)) passes;
  taken = map (λ e. share e.number (at_queue e.popped k)) ends;
}

-- those of these queues, whose numbers begin with k
abbrev pub gathered_from : ℕ → List PassSeen → List EndSeen → ℕ → List (SegId Global) → List GatheredSeen
gathered_from whole passes ends k [] = []
gathered_from whole passes ends k (q ∷ qs) = gathered_at whole passes ends k q ∷ gathered_from whole passes ends (k + 1) qs

-- one of these to each of those, as far as both go
abbrev pub each_with : {G X : Type 0} → (G → X → G) → List G → List X → List G
each_with f [] xs = []
each_with f (g ∷ gs) [] = g ∷ gs
each_with f (g ∷ gs) (x ∷ xs) = f g x ∷ each_with f gs xs

abbrev pub and_adders : List GatheredSeen → List AdderSeen → List GatheredSeen
and_adders gs adders = each_with and_adder gs adders

abbrev pub and_takers : List GatheredSeen → List TakerSeen → List GatheredSeen
and_takers gs takers = each_with and_taker gs takers

-- the same but for the first k
abbrev pub behind_with : {G X : Type 0} → (G → X → G) → ℕ → List G → List X → List G
behind_with f zero gs xs = each_with f gs xs
behind_with f (suc k) [] xs = []
behind_with f (suc k) (g ∷ gs) xs = g ∷ behind_with f k gs xs

-- the gathered pass with this number is of this queue
pub record HasGathered (gathered : List GatheredSeen) (number : ℕ) (queue : SegId Global) : Type 0 where
  pub one : GatheredSeen
  pub at : slice_get gathered number ≡ Some one
  pub of_queue : one.queue ≡ queue

-- it has become this of what it was
pub record ChangedAt (f : GatheredSeen → GatheredSeen) (old : List GatheredSeen) (number : ℕ) (new : List GatheredSeen) : Type 0 where
  pub one : GatheredSeen
  pub at : slice_get old number ≡ Some one
  pub new_is : new ≡ slice_set old number (f one)

-- the first of all passes of a queue
abbrev pub only_adder : AdderSeen → GatheredSeen
only_adder a = record { queue = a.queue; passes = a.passes; here = 1; added = share a.number a.pushed ∷ []; taken = [] }

-- these passes were put together, and then one adder's, or one worker's or helper's, more
abbrev pub OneAdderMore : ℕ → List (SegId Global) → List GatheredSeen → PassSeen → List GatheredSeen → Type 0
OneAdderMore whole queues old p new = (passes : List PassSeen) (ends : List EndSeen) → old ≡ gathered_from whole passes ends 0 queues → new ≡ gathered_from whole (passes ++ p ∷ []) ends 0 queues

abbrev pub OneEndMore : ℕ → List (SegId Global) → List GatheredSeen → EndSeen → List GatheredSeen → Type 0
OneEndMore whole queues old e new = (passes : List PassSeen) (ends : List EndSeen) → old ≡ gathered_from whole passes ends 0 queues → new ≡ gathered_from whole passes (ends ++ e ∷ []) 0 queues

-- some passes of so many were put together
pub record AreTogether (whole : ℕ) (queues : List (SegId Global)) (gathered : List GatheredSeen) : Type 0 where
  pub passes : List PassSeen
  pub ends : List EndSeen
  pub is : gathered ≡ gathered_from whole passes ends 0 queues

-- these adders' passes more
abbrev pub AddersMore : ℕ → List (SegId Global) → List GatheredSeen → List PassSeen → List GatheredSeen → Type 0
AddersMore whole queues old more new = (passes : List PassSeen) (ends : List EndSeen) → old ≡ gathered_from whole passes ends 0 queues → new ≡ gathered_from whole (passes ++ more) ends 0 queues

-- these ends more
abbrev pub EndsMore : ℕ → List (SegId Global) → List GatheredSeen → List EndSeen → List GatheredSeen → Type 0
EndsMore whole queues old more new = (passes : List PassSeen) (ends : List EndSeen) → old ≡ gathered_from whole passes ends 0 queues → new ≡ gathered_from whole passes (ends ++ more) 0 queues

-- the ends that are left of two lists which were turned round, in the order in which they come
abbrev pub ends_left : List EndSeen → List EndSeen → List EndSeen
ends_left ends helped = reverse ends ++ reverse helped

-- the end is of this pool
pub record IsOf (whole : ℕ) (queues : List (SegId Global)) (mark : TableId) (e : EndSeen) : Type 0 where
  pub queues_are : e.pool.queues ≡ queues
  pub passes_are : e.pool.passes ≡ whole
  pub mark_is : e.pool.mark ≡ mark

-- where it found an end begun, it is this one
pub record FoundAs (found : Option Ending) (e : EndSeen) : Type 0 where
  pub same : e.found ≢ None → e.found ≡ found

-- each queue was settled, and this is what was left of it
abbrev pub AllSettled : {J : Type 0} → (J → Head) → List GatheredSeen → List (List (Queued (Placed J))) → Type 0
AllSettled head [] [] = Unit {0}
AllSettled head [] (r ∷ rests) = ⊥
AllSettled head (g ∷ gs) [] = ⊥
AllSettled head (g ∷ gs) (r ∷ rests) = Settled g (map (entry_of head) r) × AllSettled head gs rests

-- all passes of each queue are here
abbrev pub IsWhole : GatheredSeen → Type 0
IsWhole g = g.here ≡ g.passes
