-- One take more.
use Rattle.std.proofs.Common.{◌≡◌, ℕ, zero, suc, ◌<◌, ◌≤◌, ◌^◌, List, [], ◌∷◌, ◌++◌, length, map, set, Option, Some, None, refl, sym, ap, ◌∙◌, subst, arith}
use Rattle.std.specs.Prelude.{slice_get, unwrap_or}
use Rattle.std.specs.List.{All}
use Rattle.std.specs.declared.alloc.Global.{Global}
use Rattle.std.proofs.lemmas.List.{length-set}
use Rattle.std.proofs.lemmas.Option.{slice_get_within}
use Rattle.std.proofs.lemmas.List.Elements.{All-cons, All-head, All-set, All-tail}
use Rattle.crossbeam_queue.specs.SegTies.{SegId}
use Rattle.job_trait.specs.declared.job.Head.{Head}
use Rattle.pool_model.specs.declared.task.Entry.{Entry}
use Rattle.pool_model.specs.Seen.{at_queue}
use Rattle.pool_model.specs.Tickets.{Ascend, tickets_of}
use Rattle.pool_runs.proofs.Lists.{set_same}
use Rattle.task_queue.specs.declared.rule.Queued.{Queued}
use Rattle.task_queue.specs.Seen.{TakerSeen}
use Rattle.task_queue.specs.Settled.{TakeTold}
use Rattle.pool_runs.specs.declared.placed.Placed.{Placed}
use Rattle.prio_pool.specs.Takers.{HasTaker, PoppedAt, TookAt}
use Rattle.prio_pool.proofs.Lists.{all_get, entry_more, map_same}

some_is : {X : Type 0} (x y : X) → Some x ≡ Some y → x ≡ y
some_is x y e = ap (λ (o : Option _). unwrap_or o x) e

pub took : {J : Type 0} (head : J → Head) (old : List TakerSeen) (k : ℕ) (t u : TakerSeen) (task : Option (Queued (Placed J))) → slice_get old k ≡ Some t → TakeTold (λ p. head p.job) t u task
    → Ascend (tickets_of u.popped) → length u.popped ≤ 2 ^ 38 → TookAt head old k (set old k u) task
took head old k t u (Some task) at told up short = record {
  taker = t;
  at = at;
  new_is = ap (set old k) told;
  ascend = subst (λ (x : TakerSeen). Ascend (tickets_of x.popped)) told up;
  short = subst (λ (x : TakerSeen). length x.popped ≤ 2 ^ 38) told short;
}
took head old k t u None at told up short = ap (set old k) told ∙ set_same old k t at

taker_at : (items : List TakerSeen) (k : ℕ) (queue : SegId Global) → slice_get (map (λ (p : TakerSeen). p.queue) items) k ≡ Some queue → (t : TakerSeen) × (slice_get items k ≡ Some t) × (t.queue ≡ queue)
taker_at [] k queue at = cc
taker_at (x ∷ xs) zero queue at = (x, refl, some_is x.queue queue at)
taker_at (x ∷ xs) (suc k) queue at = taker_at xs k queue at

pub has_taker : (items : List TakerSeen) (k : ℕ) (queue : SegId Global) → length items ≤ 256 → slice_get (map (λ (p : TakerSeen). p.queue) items) k ≡ Some queue → HasTaker items k queue
has_taker items k queue few at = let h = taker_at items k queue at in let within = slice_get_within items k h.0 h.1 in record { taker = h.0; at = h.1; of_queue = h.2; few = omega (arith, few, within) }

map_all : (P : List Entry → Type 0) (xs : List TakerSeen) (k : ℕ) (b : TakerSeen) → All P (map (λ (p : TakerSeen). p.popped) xs) → P b.popped → All P (map (λ (p : TakerSeen). p.popped) (set xs k b))
map_all P [] k b all p = all
map_all P (x ∷ xs) zero b all p = All-cons P b.popped (map (λ (q : TakerSeen). q.popped) xs) p (All-tail P x.popped (map (λ (q : TakerSeen). q.popped) xs) all)
map_all P (x ∷ xs) (suc k) b all p = All-cons P x.popped (map (λ (q : TakerSeen). q.popped) (set xs k b)) (All-head P x.popped (map (λ (q : TakerSeen). q.popped) xs) all) (map_all P xs k b (All-tail P x.popped (map (λ (q : TakerSeen). q.popped) xs) all) p)

-- the passes of each queue, where one popped
pub record Now (passes number k : ℕ) (e : Entry) (items new : List TakerSeen) : Type 0 where
  pub queues : map (λ (a : TakerSeen). a.queue) new ≡ map (λ (a : TakerSeen). a.queue) items
  pub popped : map (λ (a : TakerSeen). a.popped) new ≡ set (map (λ (a : TakerSeen). a.popped) items) k (at_queue (map (λ (a : TakerSeen). a.popped) items) k ++ e ∷ [])
  pub each : All (λ (a : TakerSeen). (a.passes ≡ passes) × (a.number ≡ number)) new
  pub as_many : length new ≡ length items
  pub within : k < length items
  pub ascend : All (λ entries. Ascend (tickets_of entries)) (map (λ (p : TakerSeen). p.popped) new)
  pub short : All (λ (entries : List Entry). length entries ≤ 2 ^ 38) (map (λ (p : TakerSeen). p.popped) new)

pub now_is : (passes number k : ℕ) (e : Entry) (items new : List TakerSeen) → All (λ a. (a.passes ≡ passes) × (a.number ≡ number)) items
    → All (λ entries. Ascend (tickets_of entries)) (map (λ (p : TakerSeen). p.popped) items) → All (λ (entries : List Entry). length entries ≤ 2 ^ 38) (map (λ (p : TakerSeen). p.popped) items)
    → PoppedAt items k e new → Now passes number k e items new
now_is passes number k e items new each up short did =
    let a = did.taker in
    let b : TakerSeen = record a { popped = a.popped ++ e ∷ [] } in
    let own = all_get (λ (x : TakerSeen). (x.passes ≡ passes) × (x.number ≡ number)) items k a each did.at in
    record {
      queues = ap (map (λ (x : TakerSeen). x.queue)) did.new_is ∙ map_same (λ (x : TakerSeen). x.queue) items k a b did.at refl;
      popped = ap (map (λ (x : TakerSeen). x.popped)) did.new_is ∙ entry_more (λ (x : TakerSeen). x.popped) items k a b e did.at refl;
      each = subst (All (λ (x : TakerSeen). (x.passes ≡ passes) × (x.number ≡ number))) (sym did.new_is) (All-set (λ (x : TakerSeen). (x.passes ≡ passes) × (x.number ≡ number)) items k b own each);
      as_many = ap length did.new_is ∙ length-set items k b;
      within = slice_get_within items k a did.at;
      ascend = subst (λ (l : List TakerSeen). All (λ entries. Ascend (tickets_of entries)) (map (λ (p : TakerSeen). p.popped) l)) (sym did.new_is) (map_all (λ entries. Ascend (tickets_of entries)) items k b up did.ascend);
      short = subst (λ (l : List TakerSeen). All (λ (entries : List Entry). length entries ≤ 2 ^ 38) (map (λ (p : TakerSeen). p.popped) l)) (sym did.new_is) (map_all (λ (entries : List Entry). length entries ≤ 2 ^ 38) items k b short did.short);
    }
