use Rattle.notify_queue.proofs.sender.Sender.end.Goals as goal

pub set_mark-requires-clause-puts : goal.set_mark-requires-clause-puts
set_mark-requires-clause-puts g c =
    let sender = c.self.invariant in
    rw (c.deref-2.ensures, sender.count) (sender.few, sender.shown)
