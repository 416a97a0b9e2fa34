-- What is noted of a pop.
use Rattle.std.proofs.Common.{◌≡◌, ℕ, List, [], ◌∷◌, ◌++◌, map, Option, Some, None, refl, ap, ◌∙◌}
use Rattle.std.specs.Prelude.{MatchOption}
use Rattle.std.specs.declared.alloc.Global.{Global}
use Rattle.std.proofs.lemmas.List.{map-append}
use Rattle.crossbeam_queue.specs.SegTies.{SegId, IsSegPassOf}
use Rattle.job_trait.specs.declared.job.Head.{Head}
use Rattle.pool_model.specs.declared.task.Entry.{Entry}
use Rattle.pool_model.specs.Steps.{LookSeen, of_queue, found_empty, took}
use Rattle.queue_looks.specs.declared.pops.Noted.{Noted}
use Rattle.queue_looks.specs.Looks.{pop_noted}
use Rattle.task_queue.specs.declared.rule.Queued.{Queued}
use Rattle.task_queue.specs.declared.view.View.{View}
use Rattle.task_queue.specs.Looks.{last_or, no_entry, queue_of, look_of, pop_seen}
use Rattle.task_queue.specs.Marks.{WatchSeen}
use Rattle.task_queue.specs.Passes.{Pass}
use Rattle.task_queue.specs.Steps.{Took, and_popped}
use Rattle.task_queue.specs.Views.{entry_of}

last_is : (d : Entry) (xs : List Entry) (e : Entry) → last_or d (xs ++ e ∷ []) ≡ e
last_is d [] e = refl
last_is d (x ∷ xs) e = last_is x xs e

abbrev pub seen_of : {J : Type 0} → ℕ → Pass J → LookSeen
seen_of place p = record { place = of_queue (queue_of p); step = took place (last_or no_entry p.me.view.client.popped) }

pub took_seen : {J : Type 0} (head : J → Head) (queue : SegId Global) (place : ℕ) (p : Pass J) (v : View) (x : Queued J) → queue_of p ≡ queue → p.me.view.client ≡ and_popped v (entry_of head x)
    → seen_of place p ≡ record { place = of_queue queue; step = took place (entry_of head x) }
took_seen head queue place p v x same view =
    let last : last_or no_entry p.me.view.client.popped ≡ entry_of head x = ap (λ (u : View). last_or no_entry u.popped) view ∙ last_is no_entry v.popped (entry_of head x) in
    (λ i. record { place = of_queue (same i); step = took place (last i) })

look_is : {J : Type 0} (head : J → Head) (queue : SegId Global) (place : ℕ) (p : Pass J) (v : View) (A : Type 0) (popped : Option (Queued J)) → IsSegPassOf queue p
    → MatchOption popped ((p.me.view.client ≡ v) × A) (λ x. Took head v x p.me.view.client) → look_of (pop_noted place p popped) ≡ pop_seen head queue place popped
look_is head queue place p v A (Some x) of told = took_seen head queue place p v x (λ i. record { web = of.0.0 i; heap = of.0.1 i }) told.view
look_is head queue place p v A None of told = (λ i. record { place = of_queue (record { web = of.0.0 i; heap = of.0.1 i }); step = found_empty place })

-- a pop that is noted behind the others is a look behind the others
pub looks_are : {J : Type 0} (head : J → Head) (queue : SegId Global) (place : ℕ) (p : Pass J) (v : View) (A : Type 0) (popped : Option (Queued J)) (old new : List (Noted (Pass J) WatchSeen)) (looks : List LookSeen)
    → IsSegPassOf queue p → MatchOption popped ((p.me.view.client ≡ v) × A) (λ x. Took head v x p.me.view.client) → new ≡ old ++ pop_noted place p popped ∷ [] → map look_of old ≡ looks
    → map look_of new ≡ looks ++ pop_seen head queue place popped ∷ []
looks_are head queue place p v A popped old new looks of told noted before =
    ap (map look_of) noted ∙ (map-append look_of old (pop_noted place p popped ∷ [])
    ∙ (λ i. before i ++ look_is head queue place p v A popped of told i ∷ []))
