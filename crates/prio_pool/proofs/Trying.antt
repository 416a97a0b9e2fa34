-- A try at one queue, which took a task or found none.
use Rattle.std.proofs.Common.{◌≡◌, ℕ, ◌≤◌, ◌^◌, List, [], ◌∷◌, ◌++◌, length, map, Option, Some, None, refl, sym, subst, arith}
use Rattle.std.specs.Prelude.{slice_get}
use Rattle.std.specs.List.{All}
use Rattle.std.specs.declared.alloc.Global.{Global}
use Rattle.std.proofs.lemmas.List.{length-map}
use Rattle.atomic_table.specs.Seated.{TableId}
use Rattle.crossbeam_queue.specs.SegTies.{SegId}
use Rattle.job_trait.specs.declared.job.Head.{Head}
use Rattle.pool_model.specs.declared.task.Ending.{Ending}
use Rattle.pool_model.specs.declared.task.Entry.{Entry}
use Rattle.pool_model.specs.Steps.{LookSeen, of_queue, found_empty}
use Rattle.pool_model.specs.Tickets.{Ascend, tickets_of}
use Rattle.task_queue.specs.declared.rule.Queued.{Queued}
use Rattle.task_queue.specs.Looks.{pop_seen}
use Rattle.task_queue.specs.Seen.{TakerSeen}
use Rattle.pool_runs.specs.declared.placed.Placed.{Placed}
use Rattle.prio_pool.specs.Adders.{entry_of}
use Rattle.prio_pool.specs.Takers.{TakersSeen, HasTaken, TookAt}
use Rattle.prio_pool.proofs.Recording.{taken_same, taken_more, get_map}
use Rattle.prio_pool.proofs.Taking.{now_is}

module _ {J : Type 0} (head : J → Head) (passes number : ℕ) (mark : TableId) (count : ℕ) (found : Option Ending) (items new : List TakerSeen) (looks later : List LookSeen) (k : ℕ) (at : SegId Global) where
  abbrev seen : List TakerSeen → List LookSeen → TakersSeen
  seen ts ls = record {
    pool = record { queues = map (λ (p : TakerSeen). p.queue) ts; passes = passes; mark = mark };
    number = number;
    popped = map (λ (p : TakerSeen). p.popped) ts;
    looked_so_often = count;
    found = found;
    looks = ls;
  }

  pub record Kept : Type 0 where
    pub each : All (λ (p : TakerSeen). (p.passes ≡ passes) × (p.number ≡ number)) new
    pub taken : HasTaken (seen new later)

  pub kept : (task : Option (Queued (Placed J))) → TookAt head items k new task → later ≡ looks ++ pop_seen (λ p. head p.job) at k task ∷ []
      → All (λ (p : TakerSeen). (p.passes ≡ passes) × (p.number ≡ number)) items → HasTaken (seen items looks) → slice_get (map (λ (p : TakerSeen). p.queue) items) k ≡ Some at → Kept
  kept (Some task) did noted each has here =
      let e : Entry = entry_of head task in
      let n = now_is passes number k e items new each has.ascend has.short did in
      let more = taken_more (seen items looks) k at e (omega (arith, n.within, length-map items (λ (x : TakerSeen). x.popped))) here
      (subst (All (λ entries. Ascend (tickets_of entries))) n.popped n.ascend) (subst (All (λ (entries : List Entry). length entries ≤ 2 ^ 38)) n.popped n.short) has in
      record {
        each = n.each;
        taken = subst HasTaken
            (λ i. record {
              pool = record { queues = sym n.queues i; passes = passes; mark = mark };
              number = number;
              popped = sym n.popped i;
              looked_so_often = count;
              found = found;
              looks = sym noted i;
            })
            more;
      }
  kept None did noted each has here =
      let look : LookSeen = record { place = of_queue at; step = found_empty k } in
      let same = taken_same (seen items looks) count found look (get_map of_queue (map (λ (p : TakerSeen). p.queue) items) k at here) refl has in
      record {
        each = subst (All (λ (x : TakerSeen). (x.passes ≡ passes) × (x.number ≡ number))) (sym did) each;
        taken = subst HasTaken
            (λ i. record {
              pool = record { queues = map (λ (x : TakerSeen). x.queue) (sym did i); passes = passes; mark = mark };
              number = number;
              popped = map (λ (x : TakerSeen). x.popped) (sym did i);
              looked_so_often = count;
              found = found;
              looks = sym noted i;
            })
            same;
      }
