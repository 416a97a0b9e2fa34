use Rattle.std.proofs.Common.{◌≡◌, map, Some, sym, ap, subst, ◌∙◌, arith}
use Rattle.std.specs.Prelude.{slice_get}
use Rattle.std.proofs.lemmas.List.{length-map}
use Rattle.pool_model.specs.declared.task.Entry.{Entry}
use Rattle.task_queue.specs.Seen.{TakerSeen}
use Rattle.prio_pool.specs.Adders.{entry_of}
use Rattle.prio_pool.specs.Takers.{TakersSeen, takers_seen, and_popped}
use Rattle.prio_pool.proofs.Taking.{has_taker, now_is}
use Rattle.prio_pool.proofs.Trying.{kept}
use Rattle.prio_pool.proofs.takers.Takers.try_queue.Goals as goal

pub take_at-requires : goal.take_at-requires
take_at-requires g c =
    let items = c.self.inside.takers.items in has_taker items c.args.number c.args.queue.now (omega (arith, c.self.invariant.taken.few, length-map items (λ (x : TakerSeen). x.popped)))
    (subst (λ (t : TakersSeen). slice_get t.pool.queues c.args.number ≡ Some c.args.queue.now) (sym c.self.view_is) c.requires.queue)

pub invariant_of-self : goal.invariant_of-self
invariant_of-self g c =
    let t = c.self.inside in
    let here = subst (λ (x : TakersSeen). slice_get x.pool.queues c.args.number ≡ Some c.args.queue.now) (sym c.self.view_is) c.requires.queue in
    let k = kept g.J.Headed.head t.passes t.number t.watch.mark t.watch.looks t.watch.found t.takers.items c.take_at.new.takers.items t.looks c.take_at.new.looks c.args.number c.args.queue.now
    c.take_at.result c.take_at.ensures.took c.take_at.ensures.noted c.self.invariant.each c.self.invariant.taken here in
    record { each = k.each; taken = k.taken }

pub invariant_of-self-2 : goal.invariant_of-self-2
invariant_of-self-2 g c =
    let t = c.self.inside in
    let here = subst (λ (x : TakersSeen). slice_get x.pool.queues c.args.number ≡ Some c.args.queue.now) (sym c.self.view_is) c.requires.queue in
    let k = kept g.J.Headed.head t.passes t.number t.watch.mark t.watch.looks t.watch.found t.takers.items c.take_at.new.takers.items t.looks c.take_at.new.looks c.args.number c.args.queue.now
    c.take_at.result c.take_at.ensures.took c.take_at.ensures.noted c.self.invariant.each c.self.invariant.taken here in
    record { each = k.each; taken = k.taken }

pub returns-clause-found : goal.returns-clause-found
returns-clause-found g c =
    let t = c.self.inside in
    let k = c.args.number in
    let e : Entry = entry_of g.J.Headed.head c.in-Some.task in
    let n = now_is t.passes t.number k e t.takers.items c.take_at.new.takers.items c.self.invariant.each c.self.invariant.taken.ascend c.self.invariant.taken.short c.in-Some.ensures.took in
    let noted = c.in-Some.ensures.noted in
    let same : record { pool = record { queues = map (λ (x : TakerSeen). x.queue) c.take_at.new.takers.items; passes = t.passes; mark = t.watch.mark }; number = t.number; popped = map (λ (x : TakerSeen). x.popped) c.take_at.new.takers.items; looked_so_often = t.watch.looks; found = t.watch.found; looks = c.take_at.new.looks } ≡ and_popped (takers_seen t) k c.args.queue.now e =
    (λ i. record { pool = record { queues = n.queues i; passes = t.passes; mark = t.watch.mark }; number = t.number; popped = n.popped i; looked_so_often = t.watch.looks; found = t.watch.found; looks = noted i }) in
    same ∙ ap (λ (x : TakersSeen). and_popped x k c.args.queue.now e) c.self.view_is
