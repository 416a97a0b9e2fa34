use Rattle.notify_queue.proofs.Takings.{takes_not, never_dry, none_found}
use Rattle.notify_queue.proofs.receiver.Receiver.take.Goals as goal

pub loop-init : goal.loop-init
loop-init g c = takes_not c.args.self.now

pub returns-in-Some-take_one-clause-dry : goal.returns-in-Some-take_one-clause-dry
returns-in-Some-take_one-clause-dry g c = never_dry c.args.self.now c.loop.self c.take_one.new.self c.in-Some-take_one.stamped c.loop.invariant c.in-Some-take_one.ensures.taken

pub returns-then-finds_no_more-clause-none : goal.returns-then-finds_no_more-clause-none
returns-then-finds_no_more-clause-none g c =
    let none = c.in_default.ensures.taken in
    let found = c.finds_no_more.ensures in
    none_found c.args.self.now c.loop.self c.take_one.new.self c.finds_no_more.new.self c.loop.invariant none.0 none.1 found.same found.looks c.if-finds_no_more.ensures.yes
