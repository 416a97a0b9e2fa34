use Rattle.std.proofs.Common.{◌≡◌, ◌+◌, ap, arith}
use Rattle.query_timers.specs.declared.query.DelayedQuery.{DelayedQuery}
use Rattle.query_timers.proofs.Linked.{IsLinked, by_result, delayed_back, delayed_more, next_is_free}
use Rattle.query_timers.proofs.timers.QueryTimers.delay.Goals as goal

pub overflow_add-number : goal.overflow_add-number
overflow_add-number c = let small = c.asked-number.ensures.small in omega arith

pub schedule-requires-clause-free : goal.schedule-requires-clause-free
schedule-requires-clause-free c =
    let free = next_is_free c.self.inside.base.agenda c.self.inside.waiters c.self.invariant.0 in
    rw c.asked-number.ensures.value free

pub invariant_of-self : goal.invariant_of-self
invariant_of-self c =
    let base = c.self.inside.base in
    let w = c.self.inside.waiters in
    let ends = c.self.inside.ends.items in
    let query : DelayedQuery = record { number = c.asked-number.result + 1; line = c.args.line; documents = c.args.documents; due = c.in-Ok.due } in
    let number : query.number ≡ w.asked + 1 = ap (λ n. n + 1) c.asked-number.ensures.value in
    by_result _ _ (IsLinked c.push.new.base c.push.new.waiters ends) c.push.result c.push.ensures.ok c.push.ensures.refused
    (λ more. delayed_more base c.schedule.new.base c.push.new.base w c.push.new.waiters ends query c.args.delay c.self.invariant number c.in-Ok.ensures.due c.requires.some c.in-Ok.ensures.timer more)
    (λ back. delayed_back base c.schedule.new.base c.push.new.base w c.push.new.waiters ends query c.args.delay c.self.invariant number c.in-Ok.ensures.timer back)
