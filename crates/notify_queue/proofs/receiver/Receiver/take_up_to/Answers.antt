use Rattle.std.proofs.Common.{length, ap, sym, subst, length-append, arith}
use Rattle.notify_queue.specs.Ends.{Receiving}
use Rattle.notify_queue.proofs.Takings.{TakesOn, takes_on, looks_too, found_after, ends_dry}
use Rattle.notify_queue.proofs.receiver.Receiver.take_up_to.Goals as goal

pub returns-then-finds_no_more-clause-fewer : goal.returns-then-finds_no_more-clause-fewer
returns-then-finds_no_more-clause-fewer g c = λ fewer.
    let empty = c.if-not-take_batch.ensures.empty in
    let found = c.finds_no_more.ensures in
    (found_after c.args.self.now c.loop.self c.take_batch.new.self c.finds_no_more.new.self c.loop.got.items c.loop.invariant.takes empty.1 empty.2 found.same found.looks c.if-finds_no_more.ensures.yes).1

pub returns-then-finds_no_more-clause-last : goal.returns-then-finds_no_more-clause-last
returns-then-finds_no_more-clause-last g c = λ fewer ended.
    let empty = c.if-not-take_batch.ensures.empty in
    let found = c.finds_no_more.ensures in
    let f = found_after c.args.self.now c.loop.self c.take_batch.new.self c.finds_no_more.new.self c.loop.got.items c.loop.invariant.takes empty.1 empty.2 found.same found.looks c.if-finds_no_more.ensures.yes in
    ends_dry c.args.self.now c.finds_no_more.new.self c.loop.got.items f.0 f.1.drained ended

pub loop-preserved-else-finds_no_more : goal.loop-preserved-else-finds_no_more
loop-preserved-else-finds_no_more g c =
    let before = c.loop.invariant in
    let empty = c.if-not-take_batch.ensures.empty in
    let found = c.finds_no_more.ensures in
    let taken = ap (λ (m : Receiving g.row.M.Denot). m.taken) found.same in
    let was = ap (λ (m : Receiving g.row.M.Denot). m.taken) empty.1 in
    let takes = looks_too c.args.self.now c.take_batch.new.self c.finds_no_more.new.self c.loop.got.items (subst (TakesOn c.args.self.now c.loop.got.items) (sym empty.1) before.takes) found.same found.looks in
    record {
      takes = rw empty.0 takes;
      in_order = rw (taken, was) before.in_order;
      few = omega (arith, before.few, ap length empty.0);
      room = omega (arith, before.room, c.take_batch.ensures.room);
    }

pub loop-preserved : goal.loop-preserved
loop-preserved g c =
    let before = c.loop.invariant in
    let took = c.if-not-take_batch.ensures.taken in
    record {
      takes = rw took.1 (takes_on c.args.self.now c.loop.self c.take_batch.new.self c.loop.got.items took.0 before.takes took.3);
      in_order = took.3.in_order;
      few = omega (arith, before.few, ap length took.1, length-append c.loop.got.items took.0, took.2, c.len.ensures, c.if-wanted-eq0.false);
      room = omega (arith, before.room, c.take_batch.ensures.room);
    }
