use Rattle.std.proofs.Common.{◌≡◌, List, [], length, map, ap, sym, refl, subst, ◌∙◌, arith}
use Rattle.std.specs.List.{All}
use Rattle.std.specs.declared.alloc.Global.{Global}
use Rattle.std.proofs.lemmas.List.{length-map}
use Rattle.crossbeam_queue.specs.SegTies.{SegId}
use Rattle.pool_model.specs.declared.task.Entry.{Entry}
use Rattle.task_queue.specs.Seen.{TakerSeen}
use Rattle.prio_pool.specs.Takers.{TakersSeen}
use Rattle.prio_pool.proofs.Making.{taker_queues, taker_popped, taker_each, taker_count, nothing_all}
use Rattle.prio_pool.proofs.Recording.{nothing_taken}
use Rattle.prio_pool.proofs.made.new_takers.Goals as goal

pub invariant_of-result : goal.invariant_of-result
invariant_of-result g c =
    let qs : List (SegId Global) = c.args.queues.now.items in
    let n = c.args.counts in
    let is = c.in_ok-takers.ensures.takers in
    let items = c.in_ok-takers.takers.items in
    let popped = ap (map (λ (a : TakerSeen). a.popped)) is ∙ taker_popped n qs in
    let t : TakersSeen = record {
      pool = record { queues = map (λ (a : TakerSeen). a.queue) items; passes = n.passes; mark = c.args.watch.mark };
      number = n.takers;
      popped = map (λ (a : TakerSeen). a.popped) items;
      looked_so_often = c.args.watch.looks;
      found = c.args.watch.found;
      looks = c.new.result;
    } in
    record {
      each = subst (All (λ (a : TakerSeen). (a.passes ≡ n.passes) × (a.number ≡ n.takers))) (sym is) (taker_each n qs);
      taken = nothing_taken t
          record {
            none = subst (All (λ (e : List Entry). e ≡ [])) (sym popped) (nothing_all (λ (e : List Entry). e ≡ []) qs refl);
            looks = c.new.ensures;
            found = c.requires.watch.1;
          }
          (omega (arith, ap length is, taker_count n qs, c.requires.queues, length-map items (λ (a : TakerSeen). a.popped)))
          (omega (arith, length-map items (λ (a : TakerSeen). a.popped), length-map items (λ (a : TakerSeen). a.queue)));
    }

pub returns-clause-takers : goal.returns-clause-takers
returns-clause-takers g c =
    let qs : List (SegId Global) = c.args.queues.now.items in
    let n = c.args.counts in
    let is = c.in_ok-takers.ensures.takers in
    let queues = ap (map (λ (a : TakerSeen). a.queue)) is ∙ taker_queues n qs in
    let popped = ap (map (λ (a : TakerSeen). a.popped)) is ∙ taker_popped n qs in
    (λ i. record { pool = record { queues = queues i; passes = n.passes; mark = c.args.watch.mark }; number = n.takers; popped = popped i; looked_so_often = c.requires.watch.0 i; found = c.requires.watch.1 i; looks = c.new.ensures i })
