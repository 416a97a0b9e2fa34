use Rattle.std.proofs.Common.{◌≡◌, List, [], ◌∷◌, length, map, ap, sym, subst, ◌∙◌, arith}
use Rattle.std.specs.List.{All}
use Rattle.std.specs.declared.alloc.Global.{Global}
use Rattle.crossbeam_queue.specs.SegTies.{SegId}
use Rattle.task_queue.specs.Marks.{MarkSeen}
use Rattle.task_queue.specs.Seen.{AdderSeen}
use Rattle.prio_pool.proofs.Making.{adder_queues, adder_pushed, adder_each, adder_count, no_adds}
use Rattle.prio_pool.proofs.made.new_place.Goals as goal

pub invariant_of-one : goal.invariant_of-one
invariant_of-one g c =
    let qs : List (SegId Global) = c.args.queues.now.items in
    let n = c.args.counts in
    let is = c.in_ok-adders.ensures.adders in
    record {
      each = subst (All (λ (a : AdderSeen). (a.passes ≡ n.passes) × (a.number ≡ n.adders))) (sym is) (adder_each n qs);
      adds = no_adds _ qs (ap (map (λ (a : AdderSeen). a.pushed)) is ∙ adder_pushed n qs);
      few = omega arith;
      no_gathered = c.in_ok-gathered.ensures.items;
      no_rests = c.in_ok-rests.ensures.items;
      gathered_room = omega (arith, ap length is, adder_count n qs, c.in_ok-gathered.ensures.capacity, c.len.ensures);
      rests_room = omega (arith, ap length is, adder_count n qs, c.in_ok-rests.ensures.capacity, c.len-2.ensures);
    }

pub returns-clause-adders : goal.returns-clause-adders
returns-clause-adders g c =
    let qs : List (SegId Global) = c.args.queues.now.items in
    let n = c.args.counts in
    let is = c.in_ok-adders.ensures.adders in
    let queues = ap (map (λ (a : AdderSeen). a.queue)) is ∙ adder_queues n qs in
    let pushed = ap (map (λ (a : AdderSeen). a.pushed)) is ∙ adder_pushed n qs in
    let mark = ap (λ (m : MarkSeen). m.mark) c.of.ensures in
    c.in_ok-list.ensures ∙ (λ i. record { pool = record { queues = queues i; passes = n.passes; mark = mark i }; number = n.adders; pushed = pushed i } ∷ [])
