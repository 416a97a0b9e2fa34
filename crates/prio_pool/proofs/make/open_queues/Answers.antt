use Rattle.std.proofs.Common.{rules, List, [], ◌∷◌, ◌++◌, length, ap, sym, ◌∙◌, arith}
use Rattle.std.specs.declared.alloc.Global.{Global}
use Rattle.std.proofs.lemmas.List.{map-append, length-map}
use Rattle.crossbeam_queue.specs.SegTies.{SegId}
use Rattle.prio_pool.specs.declared.make.Counts.{Counts}
use Rattle.prio_pool.specs.Made.{maker, makers_of}
use Rattle.prio_pool.proofs.make.open_queues.Goals as goal

pub loop-init : goal.loop-init
loop-init g c =
    let start : Counts = record { passes = c.args.passes; left = c.args.passes; adders = 0; takers = 0 } in
    let queues = c.in_ok-queues.ensures.items in
    record {
      count = ap length queues;
      makers = c.in_ok-makers.ensures.items ∙ sym (ap (makers_of start) queues);
      queues_room = omega (arith, c.in_ok-queues.ensures.capacity);
      makers_room = omega (arith, c.in_ok-makers.ensures.capacity);
    }

pub push_reserved-requires : goal.push_reserved-requires
push_reserved-requires g c = omega (arith, c.loop.invariant.count, c.loop.invariant.queues_room, c.loop-test.true)

pub push_reserved-requires-in-loop : goal.push_reserved-requires-in-loop
push_reserved-requires-in-loop g c =
    let i = c.loop.invariant in
    let start : Counts = record { passes = c.args.passes; left = c.args.passes; adders = 0; takers = 0 } in
    omega (arith, i.count, i.makers_room, c.loop-test.true, ap length i.makers, length-map c.loop.queues.items (maker start))

pub loop-preserved : goal.loop-preserved
loop-preserved g c =
    let i = c.loop.invariant in
    let start : Counts = record { passes = c.args.passes; left = c.args.passes; adders = 0; takers = 0 } in
    let qs : List (SegId Global) = c.loop.queues.items in
    let q : SegId Global = c.in_ok-queue.queue in
    let queues = c.push_reserved.ensures.items in
    record {
      count = omega (arith, i.count, c.push_reserved.ensures.len);
      makers = c.push_reserved-in-loop.ensures.items
          ∙ ((λ j. i.makers j ++ c.in_ok-queue.ensures j ∷ [])
          ∙ (sym (map-append (maker start) qs (q ∷ [])) ∙ ap (makers_of start) (sym queues)));
      queues_room = omega (arith, i.queues_room, c.push_reserved.ensures.capacity);
      makers_room = omega (arith, i.makers_room, c.push_reserved-in-loop.ensures.capacity);
    }

pub returns-clause-count : goal.returns-clause-count
returns-clause-count g c = search rules

pub returns-clause-makers : goal.returns-clause-makers
returns-clause-makers g c = c.loop.invariant.makers
