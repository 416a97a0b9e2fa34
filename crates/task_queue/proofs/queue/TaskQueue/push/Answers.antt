use Rattle.std.proofs.Common.{◌≡◌, ◌<◌, ap, sym, subst, length, ◌∙◌}
use Rattle.std.specs.List.{All}
use Rattle.task_queue.specs.Seen.{AdderSeen}
use Rattle.task_queue.specs.declared.rule.Queued.{Queued}
use Rattle.task_queue.proofs.Calls as calls
use Rattle.task_queue.proofs.queue.TaskQueue.push.Goals as goal

pub push_as-requires-clause-rule : goal.push_as-requires-clause-rule
push_as-requires-clause-rule g c =
    let packet = c.new-packet.result in
    let same : packet ≡ c.args.task = c.new-packet.ensures in
    let from = ap (λ (x : Queued _). x.ticket.adder) same ∙ (c.requires.number ∙ sym (ap (λ (a : AdderSeen). a.number) c.adder.view_is)) in
    let below = subst (λ (a : AdderSeen). All (λ e. e.ticket.index < packet.ticket.index) a.pushed) (sym c.adder.view_is)
    (subst (λ (x : Queued _). All (λ e. e.ticket.index < x.ticket.index) c.args.adder.now.pushed) (sym same) c.requires.ascends) in
    let room = subst (λ (a : AdderSeen). length a.pushed < 4294967296) (sym c.adder.view_is) c.requires.room in
    λ n. calls.push g.J.Headed.head n _ _ packet c.adder.invariant.knows from below room
