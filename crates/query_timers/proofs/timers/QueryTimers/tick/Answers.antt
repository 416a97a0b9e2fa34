use Rattle.std.proofs.Common.{length}
use Rattle.query_timers.proofs.Linked.{memory_leaves, still_silent, ticked_seen, whole_leaves}
use Rattle.query_timers.proofs.Rounds.{whole_round}
use Rattle.query_timers.proofs.timers.QueryTimers.tick.Goals as goal

pub invariant_of-self : goal.invariant_of-self
invariant_of-self g c =
    let base = c.self.inside.base in
    let left = memory_leaves c.from-ticks.result c.self.inside.waiters c.loop_once.new.world base c.loop_once.new.self c.in_default.field-0 c.self.invariant.0 c.in_default.ensures.memory in
    (left.are, still_silent base c.loop_once.new.self c.self.inside.ends.items c.self.invariant.1 left.queue left.senders)

pub invariant_of-self-2 : goal.invariant_of-self-2
invariant_of-self-2 g c =
    let base = c.self.inside.base in
    let left = whole_leaves c.from-ticks.result c.self.inside.waiters c.loop_once.new.world base c.loop_once.new.self c.in-Ok._round c.self.invariant.0 c.in-Ok.ensures.ok in
    (left.are, still_silent base c.loop_once.new.self c.self.inside.ends.items c.self.invariant.1 left.queue left.senders)

pub returns : goal.returns
returns g c =
    let base = c.self.inside.base in
    let made = c.in-Ok.ensures.ok in
    let ticked = whole_round c.from-ticks.result c.self.inside.waiters c.loop_once.new.world base c.loop_once.new.self c.in-Ok._round made.0 c.self.invariant.0 made.1 in
    ticked_seen c.from-ticks.result c.args.ticks (length c.self.inside.pairs.items) c.self.inside.waiters c.loop_once.new.world base.agenda c.loop_once.new.self.agenda
    c.args.self.now c.from-ticks.ensures c.self.view_is ticked
