use Rattle.std.proofs.Common.{◌∙◌, sym, ap, length, IsTrue, arith}
use Rattle.std.proofs.lemmas.List.{length-append}
use Rattle.notify_queue.specs.Ends.{Leaving}
use Rattle.notify_queue.proofs.Closings.{few, whole, total, account, dry, each_message}
use Rattle.notify_queue.proofs.Histories.{messages_of-append}
use Rattle.notify_queue.proofs.Receivings.{closes_of, counted}
use Rattle.notify_queue.proofs.receiver.Receiver.close.Goals as goal

pub overflow_add-result : goal.overflow_add-result
overflow_add-result g c =
    let rest = c.settle-packets.result.0 in
    let closes = closes_of c.self.inside c.args.self c.args.ends.items rest c.self.invariant c.self.view_is c.settle-packets.ensures.empty in
    omega (arith, few c.args.self c.args.ends.items rest closes, length-append c.args.self.taken rest, counted c.self.inside c.args.self c.self.invariant c.self.view_is)

pub returns-clause-put : goal.returns-clause-put
returns-clause-put g c =
    let rest = c.settle-packets.result.0 in
    let closes = closes_of c.self.inside c.args.self c.args.ends.items rest c.self.invariant c.self.view_is c.settle-packets.ensures.empty in
    let all = total c.args.self c.args.ends.items rest c.requires closes in
    (omega (arith, ap (λ (l : Leaving g.row.M.Denot). length l.left) c.new.ensures), omega (arith, sym all ∙ length-append c.args.self.taken rest, counted c.self.inside c.args.self c.self.invariant c.self.view_is))

pub returns-clause-whole : goal.returns-clause-whole
returns-clause-whole g c = λ k d lt.
    let rest = c.settle-packets.result.0 in
    let closes = closes_of c.self.inside c.args.self c.args.ends.items rest c.self.invariant c.self.view_is c.settle-packets.ensures.empty in
    rw c.new.ensures (sym (messages_of-append _ c.args.self.taken rest) ∙ whole c.args.self c.args.ends.items rest closes k d lt)

pub returns-clause-each : goal.returns-clause-each
returns-clause-each g c = λ test sent.
    let rest = c.settle-packets.result.0 in
    let closes = closes_of c.self.inside c.args.self c.args.ends.items rest c.self.invariant c.self.view_is c.settle-packets.ensures.empty in
    rw c.new.ensures (each_message c.args.self c.args.ends.items rest c.requires closes (λ m. IsTrue (test m)) sent)

pub returns-clause-account : goal.returns-clause-account
returns-clause-account g c = λ weight.
    let rest = c.settle-packets.result.0 in
    let closes = closes_of c.self.inside c.args.self c.args.ends.items rest c.self.invariant c.self.view_is c.settle-packets.ensures.empty in
    rw c.new.ensures (account c.args.self c.args.ends.items rest c.requires closes weight)

pub returns-clause-dry : goal.returns-clause-dry
returns-clause-dry g c =
    let rest = c.settle-packets.result.0 in
    let closes = closes_of c.self.inside c.args.self c.args.ends.items rest c.self.invariant c.self.view_is c.settle-packets.ensures.empty in
    λ is_dry. ap (λ (l : Leaving g.row.M.Denot). l.left) c.new.ensures ∙ dry c.args.self c.args.ends.items rest closes is_dry
