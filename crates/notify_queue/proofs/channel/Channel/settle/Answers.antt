use Rattle.std.proofs.Common.{◌∙◌, ◌++◌, ap}
use Rattle.notify_queue.proofs.Receivings.{shows_as}
use Rattle.notify_queue.proofs.channel.Channel.settle.Goals as goal

pub returns-clause-empty : goal.returns-clause-empty
returns-clause-empty g c =
    let joined = c.join_ends.ensures in
    let drained = c.drain-packets.ensures in
    shows_as c.drain-packets.new.pass.me.view.client _ _ _ (drained.same.0 ∙ joined.same.0) (drained.same.1 ∙ joined.ended)
    (drained.taken ∙ ap (λ l. l ++ c.drain-packets.result.0) joined.same.1) drained.empty
