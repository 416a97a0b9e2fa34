use Rattle.std.proofs.Common.{ap}
use Rattle.query_timers.specs.Seen.{id_of}
use Rattle.query_timers.proofs.Linked.{none_found, one_found}
use Rattle.query_timers.proofs.timers.QueryTimers.give_up.Goals as goal

pub invariant_of-self : goal.invariant_of-self
invariant_of-self c =
    none_found c.self.inside.base c.self.inside.waiters c.take.new.self c.self.inside.ends.items c.args.number c.self.invariant c.in_err-waiter.ensures.those c.in_err-waiter.ensures.rest

pub invariant_of-self-2 : goal.invariant_of-self-2
invariant_of-self-2 c =
    one_found c.self.inside.base c.unschedule.new.base c.self.inside.waiters c.take.new.self c.self.inside.ends.items c.args.number c.in_ok-waiter.waiter (id_of c.end-query.result)
    c.self.invariant (ap id_of c.end-query.ensures) c.in_ok-waiter.ensures.those c.unschedule.ensures c.in_ok-waiter.ensures.rest
