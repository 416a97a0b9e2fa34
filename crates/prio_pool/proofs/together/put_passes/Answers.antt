use Rattle.std.proofs.Common.{◌≡◌, ℕ, List, [], ◌∷◌, ◌++◌, map, refl, ap, sym, subst, ◌∙◌, append_assoc, append-nil, length, arith}
use Rattle.std.specs.List.{All}
use Rattle.std.specs.declared.alloc.Global.{Global}
use Rattle.crossbeam_queue.specs.SegTies.{SegId}
use Rattle.std.proofs.lemmas.List.Sums.{sum_by_push}
use Rattle.std.proofs.lemmas.List.Elements.{All-head, All-tail, All-nil, All-push}
use Rattle.pool_model.specs.Passes.{HasNoGap, adds_of}
use Rattle.pool_model.specs.Seen.{PassSeen}
use Rattle.task_queue.specs.Seen.{GatheredSeen}
use Rattle.prio_pool.specs.Gathering.{gathered_from, OneAdderMore}
use Rattle.pool_model.proofs.Lists.{one_over}
use Rattle.prio_pool.proofs.Merging.{queues_of}
use Rattle.prio_pool.proofs.together.put_passes.Goals as goal

pub put_to-requires-clause-gathered : goal.put_to-requires-clause-gathered
put_to-requires-clause-gathered g c =
    let t = c.loop-adders.invariant.together in
    ap (map (λ (x : GatheredSeen). x.queue)) t.is ∙ queues_of c.args.passes t.passes t.ends 0 c.args.queues.now.items

pub loop-adders-preserved : goal.loop-adders-preserved
loop-adders-preserved g c =
    let i = c.loop-adders.invariant in
    let whole = c.args.passes in
    let qs : List (SegId Global) = c.args.queues.now.items in
    let a : PassSeen = c.in-Some.adders in
    let more : List PassSeen = c.pop_front.new.self in
    let items : c.loop-adders.others ≡ a ∷ more = c.in-Some.ensures.items in
    let of_pool = subst (All (λ (p : PassSeen). (p.pool.queues ≡ qs) × (p.pool.passes ≡ whole))) items i.of_pool in
    let own = All-head (λ (p : PassSeen). (p.pool.queues ≡ qs) × (p.pool.passes ≡ whole)) a more of_pool in
    let put = subst (λ (n : ℕ). OneAdderMore n qs c.loop-adders.gathered.items a c.put_to.new.gathered.items) own.1 c.put_to.ensures in
    record {
      done = i.done ++ a ∷ [];
      all = one_over i.done c.loop-adders.others more c.args.others a i.all items;
      of_pool = All-tail (λ (p : PassSeen). (p.pool.queues ≡ qs) × (p.pool.passes ≡ whole)) a more of_pool;
      more = λ passes ends is. put (passes ++ i.done) ends (i.more passes ends is) ∙ ap (λ (l : List PassSeen). gathered_from whole l ends 0 qs) (append_assoc passes i.done (a ∷ []));
      total = omega (arith, i.total, c.count-total.ensures, sum_by_push (λ (p : PassSeen). length (adds_of p)) i.done a);
      gaps = All-push HasNoGap i.done a i.gaps c.told.ensures.gap;
      pushed = All-push (λ (p : PassSeen). length p.pushed ≡ length qs) i.done a i.pushed (c.told.ensures.as_many ∙ ap length own.0);
      few = omega (arith, i.few, ap length items, c.count-total.ensures, c.told.ensures.few);
      together = record { passes = i.together.passes ++ a ∷ []; ends = i.together.ends; is = put i.together.passes i.together.ends i.together.is };
    }

pub loop-adders-init : goal.loop-adders-init
loop-adders-init g c =
    let whole = c.args.passes in
    let qs : List (SegId Global) = c.args.queues.now.items in
    record {
      done = [];
      all = refl;
      of_pool = c.requires.of;
      more = λ passes ends is. is ∙ ap (λ (l : List PassSeen). gathered_from whole l ends 0 qs) (sym (append-nil passes));
      total = refl;
      gaps = All-nil HasNoGap;
      pushed = All-nil (λ (p : PassSeen). length p.pushed ≡ length qs);
      few = omega (arith, c.requires.few);
      together = c.requires.together;
    }
