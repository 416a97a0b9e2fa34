use Rattle.std.proofs.Common.{◌<◌, ◌≤◌, ℕ, List, length, ap, sym, subst, get_or, arith}
use Rattle.std.proofs.lemmas.List.{get_or_default}
use Rattle.notify_queue.specs.declared.receiver.Receiver.TheInside.{Inside}
use Rattle.notify_queue.specs.Receivers.{IsReceiver}
use Rattle.notify_queue.proofs.Receivings.{looked_keeps, looks_on, looks_before, looks_all}
use Rattle.notify_queue.proofs.receiver.Receiver.finds_no_more.Goals as goal

pub invariant_of-self-then-shown-index : goal.invariant_of-self-then-shown-index
invariant_of-self-then-shown-index g c =
    let before = c.loop-sender.invariant in
    let new = c.look_at-shown.new.seat in
    let same = ap (λ (r : Inside g.row.M.Denot). record r { seat = new }) before.only in
    let looked = c.look_at-shown.ensures.looked in
    subst (λ (r : Inside g.row.M.Denot). IsReceiver r) (sym same)
    (looked_keeps (record c.self.inside { seat = c.loop-sender.self-inside.seat }) new c.loop-sender.sender looked.0 before.looks.knows c.look_at-shown.ensures.seat.0 c.look_at-shown.ensures.seat.1 looked.1)

pub returns-then-shown-index-clause-looks : goal.returns-then-shown-index-clause-looks
returns-then-shown-index-clause-looks g c =
    let looked = c.look_at-shown.ensures.looked in
    looks_before c.self.inside c.args.self.now c.loop-sender.self-inside.seat c.look_at-shown.new.seat c.loop-sender.sender c.loop-sender.sender looked.0 c.loop-sender.invariant.looks looked.1 c.self.view_is

pub loop-sender-preserved : goal.loop-sender-preserved
loop-sender-preserved g c =
    let before = c.loop-sender.invariant in
    let new = c.look_at-shown.new.seat in
    let looked = c.look_at-shown.ensures.looked in
    let items = c.loop-sender.self-inside.counts.items in
    let counts = ap (λ (r : Inside g.row.M.Denot). r.counts.items) before.only in
    let inside : c.loop-sender.sender < length items = omega (arith, c.loop-sender-test.true, ap length counts, c.self.invariant.counts.as_many) in
    let read = get_or_default items c.loop-sender.sender c.index.result.now 0 inside in
    let few : looked.0.puts ≤ get_or c.self.inside.counts.items c.loop-sender.sender 0 = omega (arith, looked.2, c.if-shown-index.false, read, ap (λ (l : List ℕ). get_or l c.loop-sender.sender 0) counts) in
    record {
      only = ap (λ (r : Inside g.row.M.Denot). record r { seat = new }) before.only;
      looks = looks_on c.self.inside c.loop-sender.self-inside.seat new c.loop-sender.sender looked.0 before.looks c.loop-sender-test.true c.look_at-shown.ensures.seat.0 c.look_at-shown.ensures.seat.1 looked.1 few;
    }

pub returns-clause-yes : goal.returns-clause-yes
returns-clause-yes g c =
    let before = c.loop-sender.invariant in
    looks_all c.self.inside c.loop-sender.self-inside c.args.self.now c.loop-sender.sender before.only before.looks (omega (arith, c.loop-sender-test.false)) c.self.view_is
