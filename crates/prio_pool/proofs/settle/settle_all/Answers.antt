use Rattle.std.proofs.Common.{◌≡◌, List, Some, [], ◌∷◌, ◌++◌, length, length-append, map, reverse, ap, sym, subst, ◌∙◌, append_assoc, arith}
use Rattle.std.specs.List.{All}
use Rattle.std.specs.declared.alloc.Global.{Global}
use Rattle.std.proofs.lemmas.List.{map-append, reverse-append, append-nil, length-map}
use Rattle.crossbeam_queue.specs.SegTies.{SegId}
use Rattle.task_queue.specs.Seen.{GatheredSeen}
use Rattle.prio_pool.specs.Gathering.{AllSettled, IsWhole}
use Rattle.std.proofs.lemmas.List.{same_from_push}
use Rattle.std.proofs.lemmas.List.Elements.{All-pop}
use Rattle.pool_model.proofs.Lists.{All-front}
use Rattle.prio_pool.proofs.settle.settle_all.Goals as goal

pub loop-queue-init : goal.loop-queue-init
loop-queue-init g c = record {
  done = [];
  all = append-nil c.args.gathered.items;
  queues = c.requires.queues;
  whole = c.requires.whole;
  settled = subst (λ (l : List _). AllSettled g.J.Headed.head [] (reverse l)) (sym c.requires.room.0) tt;
  room = omega (arith, ap length c.requires.room.0, c.requires.room.1);
}

pub unreachable-requires : goal.unreachable-requires
unreachable-requires g c =
    let i = c.loop-queue.invariant in
    let q : SegId Global = c.in-Some.queue in
    let qs = c.pop.new.self.items in
    omega (arith, ap length i.queues, length-map c.loop-queue.gathered.items (λ (x : GatheredSeen). x.queue), ap length c.in-Some.ensures.items, length-append qs (q ∷ []), c.in_default-pop.ensures.cases)

pub settle-requires-clause-queue : goal.settle-requires-clause-queue
settle-requires-clause-queue g c =
    let i = c.loop-queue.invariant in
    let q : SegId Global = c.in-Some.queue in
    let one : GatheredSeen = c.in-Some-pop.passes in
    let qs = c.pop.new.self.items in
    let gs = c.pop-in-Some.new.self.items in
    let items : c.loop-queue.gathered.items ≡ gs ++ one ∷ [] = c.in-Some-pop.ensures.items in
    let seen = sym (map-append (λ (x : GatheredSeen). x.queue) gs (one ∷ [])) ∙ (ap (map (λ (x : GatheredSeen). x.queue)) (sym items) ∙ (i.queues ∙ c.in-Some.ensures.items)) in
    (same_from_push (map (λ (x : GatheredSeen). x.queue) gs) qs one.queue q seen).1

pub settle-requires-clause-all : goal.settle-requires-clause-all
settle-requires-clause-all g c =
    let one : GatheredSeen = c.in-Some-pop.passes in
    let gs = c.pop-in-Some.new.self.items in
    let items : c.loop-queue.gathered.items ≡ gs ++ one ∷ [] = c.in-Some-pop.ensures.items in
    (All-pop IsWhole c.loop-queue.gathered.items gs (Some one) items c.loop-queue.invariant.whole).1

pub push_reserved-requires : goal.push_reserved-requires
push_reserved-requires g c =
    let q : SegId Global = c.in-Some.queue in
    let qs = c.pop.new.self.items in
    omega (arith, c.loop-queue.invariant.room, ap length c.in-Some.ensures.items, length-append qs (q ∷ []))

pub loop-queue-smaller : goal.loop-queue-smaller
loop-queue-smaller g c =
    let q : SegId Global = c.in-Some.queue in
    let qs = c.pop.new.self.items in
    omega (arith, ap length c.in-Some.ensures.items, length-append qs (q ∷ []))

pub loop-queue-preserved : goal.loop-queue-preserved
loop-queue-preserved g c =
    let i = c.loop-queue.invariant in
    let q : SegId Global = c.in-Some.queue in
    let one : GatheredSeen = c.in-Some-pop.passes in
    let qs = c.pop.new.self.items in
    let gs = c.pop-in-Some.new.self.items in
    let old = c.loop-queue.rests.items in
    let queue_items : c.loop-queue.queues.items ≡ qs ++ q ∷ [] = c.in-Some.ensures.items in
    let items : c.loop-queue.gathered.items ≡ gs ++ one ∷ [] = c.in-Some-pop.ensures.items in
    let seen = sym (map-append (λ (x : GatheredSeen). x.queue) gs (one ∷ [])) ∙ (ap (map (λ (x : GatheredSeen). x.queue)) (sym items) ∙ (i.queues ∙ queue_items)) in
    let parts = same_from_push (map (λ (x : GatheredSeen). x.queue) gs) qs one.queue q seen in
    let turned = ap reverse c.push_reserved.ensures.items ∙ reverse-append old (c.settle.result ∷ []) in
    record {
      done = one ∷ i.done;
      all = sym (append_assoc gs (one ∷ []) i.done) ∙ (ap (λ (l : List GatheredSeen). l ++ i.done) (sym items) ∙ i.all);
      queues = parts.0;
      whole = All-front IsWhole gs (one ∷ []) (subst (All IsWhole) items i.whole);
      settled = subst (AllSettled g.J.Headed.head (one ∷ i.done)) (sym turned) (c.settle.ensures, i.settled);
      room = omega (arith, i.room, ap length queue_items, length-append qs (q ∷ []), ap length c.push_reserved.ensures.items, length-append old (c.settle.result ∷ []), c.push_reserved.ensures.capacity);
    }
