use Rattle.std.proofs.Common.{◌≡◌, ◌<◌, length, get_or, sym, subst, arith}
use Rattle.notify_queue.specs.declared.stamp.Stamped.{Stamped}
use Rattle.notify_queue.proofs.Counts.{counted_on, counted_small}
use Rattle.notify_queue.proofs.receiver.counts.count_all.Goals as goal

pub count_one-requires-clause-room : goal.count_one-requires-clause-room
count_one-requires-clause-room g c =
    let k = c.loop-place.place in
    let x = get_or c.args.messages.now k c.index-messages-place.result in
    let inside : k < length c.args.messages.now = c.loop-place-test.true in
    let from : x.stamp.sender < length c.args.counts.now.items = c.requires.senders k _ inside in
    counted_small c.args.counts.now.items c.loop-place.counts.items c.args.messages.now k x.stamp.sender _ c.loop-place.invariant (omega (arith, inside)) from (c.requires.room x.stamp.sender from)

pub loop-place-preserved : goal.loop-place-preserved
loop-place-preserved g c =
    let k = c.loop-place.place in
    let x : Stamped g.row.M.Denot = c.index-messages-place.result in
    let at : get_or c.args.messages.now k x ≡ x = sym c.index-messages-place.is in
    let inside : k < length c.args.messages.now = c.loop-place-test.true in
    let from : x.stamp.sender < length c.args.counts.now.items = subst (λ (y : Stamped g.row.M.Denot). y.stamp.sender < length c.args.counts.now.items) at (c.requires.senders k x inside) in
    rw c.count_one.ensures (rw at (counted_on c.args.counts.now.items c.loop-place.counts.items c.args.messages.now k x c.loop-place.invariant inside at from))
