use Rattle.std.proofs.Common.{◌<◌, ◌+◌, ◌-◌, ◌∙◌, List, length, get_or, ap, sym, subst, arith}
use Rattle.std.specs.List.{All}
use Rattle.std.proofs.lemmas.List.{length-append}
use Rattle.notify_queue.specs.declared.stamp.Stamped.{Stamped}
use Rattle.notify_queue.specs.Stamps.{messages_of}
use Rattle.notify_queue.proofs.Lists.{behind}
use Rattle.notify_queue.proofs.Receivings.{same_keeps, takes_keeps, takes_seen, counts_more, count_room, from_counted, other_blocks}
use Rattle.notify_queue.proofs.receiver.Receiver.take_batch.Goals as goal

pub invariant_of-self : goal.invariant_of-self
invariant_of-self g c =
    let empty = c.if-not-take_batch.ensures in
    other_blocks _ c.take_batch.new.blocks (same_keeps c.self.inside c.take_batch.new.pass c.self.invariant (rw c.deref.ensures at empty.pass) empty.empty.1.0)

pub count_all-requires-clause-senders : goal.count_all-requires-clause-senders
count_all-requires-clause-senders g c =
    let took = c.if-not-take_batch.ensures.taken in
    let P : Stamped g.row.M.Denot → Type 0 = λ x. x.stamp.sender < length c.self.inside.counts.items in
    let part = behind c.as_slice.result.now c.args.got.now.items took.0 c.len-before.result (c.as_slice.ensures.value ∙ took.1) (omega (arith, c.len-before.ensures)) in
    subst (All P) (sym part) (from_counted c.self.inside c.take_batch.new.pass took.0 c.self.invariant took.3)

pub count_all-requires-clause-room : goal.count_all-requires-clause-room
count_all-requires-clause-room g c =
    let took = c.if-not-take_batch.ensures.taken in
    let part = behind c.as_slice.result.now c.args.got.now.items took.0 c.len-before.result (c.as_slice.ensures.value ∙ took.1) (omega (arith, c.len-before.ensures)) in
    λ s lt. rw part (count_room c.self.inside c.take_batch.new.pass took.0 c.self.invariant took.3 s lt)

pub invariant_of-self-2 : goal.invariant_of-self-2
invariant_of-self-2 g c =
    let took = c.if-not-take_batch.ensures.taken in
    let r = c.self.inside in
    let part = behind c.as_slice.result.now c.args.got.now.items took.0 c.len-before.result (c.as_slice.ensures.value ∙ took.1) (omega (arith, c.len-before.ensures)) in
    let counts = counts_more r.senders r.counts.items c.count_all.new.counts.items _ took.0 c.self.invariant.counts c.count_all.ensures.length
    (λ s lt. c.count_all.ensures.counts s lt ∙ ap (λ (l : List (Stamped g.row.M.Denot)). get_or r.counts.items s 0 + length (messages_of s l)) part) in
    other_blocks _ c.give_blocks.new.blocks (takes_keeps r c.take_batch.new.pass c.count_all.new.counts (r.taken + (c.len.result - c.len-before.result)) took.0 c.self.invariant (rw c.deref.ensures at c.if-not-take_batch.ensures.pass) took.3 counts
    (omega (arith, c.len.ensures, c.len-before.ensures, ap length took.1, length-append c.args.got.now.items took.0)))

pub returns-clause-taken : goal.returns-clause-taken
returns-clause-taken g c =
    let took = c.if-not-take_batch.ensures.taken in
    (took.0, took.1, took.2, takes_seen c.self.inside c.take_batch.new.pass c.count_all.new.counts (c.self.inside.taken + (c.len.result - c.len-before.result)) took.0 c.args.self.now c.self.invariant took.3 c.self.view_is)
