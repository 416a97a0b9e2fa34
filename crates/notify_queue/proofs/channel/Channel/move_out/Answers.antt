use Rattle.std.proofs.Common.{◌≡◌, ◌∙◌, ◌++◌, ◌∷◌, [], ap, arith}
use Rattle.notify_queue.specs.declared.stamp.Stamped.{Stamped}
use Rattle.notify_queue.proofs.Batches.{next_held, one_moved}
use Rattle.notify_queue.proofs.Deliveries.{admits}
use Rattle.notify_queue.proofs.channel.Channel.move_out.Goals as goal

pub next_of-packet-requires : goal.next_of-packet-requires
next_of-packet-requires g c =
    let held = c.requires.batch in
    let m = c.loop.invariant.moved held.0 held.1 in
    (c.loop.invariant.pass_of.0, admits, next_held c.args.self.now.line c.loop.pass c.loop.batch _ _ held.0 c.loop.counter m (omega (arith, c.loop-test.true, c.len-count.ensures, held.1.8)))

pub loop-preserved : goal.loop-preserved
loop-preserved g c =
    let before = c.loop.invariant in
    let next = c.next_of-packet.ensures.queue in
    let pushed : c.push_reserved.new.self.items ≡ c.loop.got.items ++ c.next_of-packet.result ∷ [] = c.push_reserved.ensures.items ∙ ap (λ (x : Stamped g.row.M.Denot). c.loop.got.items ++ x ∷ []) c.open-stamped.ensures.item in
    record {
      pass_of = (next.0, next.1 ∙ before.pass_of.1);
      same = next.2 ∙ before.same;
      capacity = omega (arith, before.capacity, c.push_reserved.ensures.capacity);
      room = before.room;
      moved = λ xs h. rw pushed (one_moved c.args.self.now.line c.loop.pass c.next_of-packet.new.pass c.loop.batch c.next_of-packet.new.batch _ _ xs c.loop.counter c.next_of-packet.result (before.moved xs h)
          (omega (arith, c.loop-test.true, c.len-count.ensures, h.8)) c.next_of-packet.ensures.item);
    }
