use Rattle.std.proofs.Common.{◌+◌, ◌∷◌, [], refl, arith}
use Rattle.notify_queue.proofs.Receivings.{same_keeps, takes_keeps, takes_seen, counts_one, count_small, from_sender, other_blocks}
use Rattle.notify_queue.proofs.receiver.Receiver.take_one.Goals as goal

pub invariant_of-self : goal.invariant_of-self
invariant_of-self g c = same_keeps c.self.inside c.take.new.pass c.self.invariant (rw c.deref.ensures at c.in_err-take.ensures.pass) c.in_err-take.ensures.taken.0

pub count_one-requires-clause-room : goal.count_one-requires-clause-room
count_one-requires-clause-room g c =
    let r = c.self.inside in
    let x = c.in_ok-take.field-0 in
    let from = from_sender r c.take.new.pass x c.self.invariant c.in_ok-take.ensures.taken in
    rw c.open-stamped.ensures.item (omega (arith, count_small r.senders r.counts.items _ x.stamp.sender c.self.invariant.counts from, c.self.invariant.few))

pub invariant_of-self-2 : goal.invariant_of-self-2
invariant_of-self-2 g c =
    let r = c.self.inside in
    let x = c.in_ok-take.field-0 in
    let took = c.in_ok-take.ensures.taken in
    let from = from_sender r c.take.new.pass x c.self.invariant took in
    other_blocks _ c.keep_block.new.blocks (takes_keeps r c.take.new.pass c.count_one.new.counts (r.taken + 1) (x ∷ []) c.self.invariant (rw c.deref.ensures at c.in_ok-take.ensures.pass) took
    (rw (c.count_one.ensures, c.open-stamped.ensures.item) (counts_one r.senders r.counts.items _ x c.self.invariant.counts from)) refl)

pub returns-clause-taken : goal.returns-clause-taken
returns-clause-taken g c =
    let r = c.self.inside in
    rw c.open-stamped.ensures.item (takes_seen r c.take.new.pass c.count_one.new.counts (r.taken + 1) (c.in_ok-take.field-0 ∷ []) c.args.self.now c.self.invariant c.in_ok-take.ensures.taken c.self.view_is)
