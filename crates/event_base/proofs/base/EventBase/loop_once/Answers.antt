use Rattle.std.proofs.Common.{[], refl, sym, ap, arith, inr}
use Rattle.event_base.specs.Seen.{BaseSeen}
use Rattle.event_base.specs.Rounds.{Phases}
use Rattle.event_base.proofs.Rounding.{same_tick, up_to_ticks, same_counts}
use Rattle.event_base.proofs.base.EventBase.loop_once.Goals as goal

pub run_ticks-timers-requires : goal.run_ticks-timers-requires
run_ticks-timers-requires g c =
    let same = same_tick g.J.Headed.head g.J.LoopJob.runs _ _ c.self.inside.agenda _ _ _ _ _ c.end_phase.ensures c.run_before.ensures.2 c.run_messages.ensures.1 in
    let was = ap (λ (b : BaseSeen g.row.J.Denot). b.agenda.wheel.tick) c.self.view_is in
    omega (arith, same, was, c.requires)

pub returns-then-left_ticks-gt0-clause-memory : goal.returns-then-left_ticks-gt0-clause-memory
returns-then-left_ticks-gt0-clause-memory g c =
    let before = c.run_before.ensures in
    let messages = c.run_messages.ensures in
    let ticks = c.run_ticks-timers.ensures in
    let took = c.in-Ok.ensures in
    let did : Phases g.row.J.Denot = record { took = c.in-Ok.messages.items; before = before.0; messages = messages.0; ticks = ticks.0; loops = [] } in
    rw (sym c.self.view_is) (inr (
      did,
      record {
        took = record { same = took.same; taken = took.taken.0; from_senders = took.senders; looks = took.looks; in_order = took.in_order; at_most = took.taken.1; fewer = took.fewer; last = took.last };
        up_to_ticks = up_to_ticks g.J.Headed.head g.J.LoopJob.runs _ c.self.inside.agenda _ _ _ _ did c.end_phase.ensures before.2 messages.1 ticks.3;
        no_loops = refl;
        each_tick = ticks.1;
        some_left = c.if-left_ticks-gt0.true;
        next = c.saturating_add-self-inside.ensures;
        counts = same_counts _ _ _ _ _ did before.1 (omega (arith, c.len.ensures)) ticks.2 refl;
      },
    ))

pub returns-clause-ok : goal.returns-clause-ok
returns-clause-ok g c =
    let before = c.run_before.ensures in
    let messages = c.run_messages.ensures in
    let ticks = c.run_ticks-timers.ensures in
    let loops = c.run_loop.ensures in
    let took = c.in-Ok.ensures in
    let did : Phases g.row.J.Denot = record { took = c.in-Ok.messages.items; before = before.0; messages = messages.0; ticks = ticks.0; loops = loops.0 } in
    rw (sym c.self.view_is) (
      did,
      record {
        after_ticks = (c.run_ticks-timers.new.world, c.run_ticks-timers.new.agenda);
        took = record { same = took.same; taken = took.taken.0; from_senders = took.senders; looks = took.looks; in_order = took.in_order; at_most = took.taken.1; fewer = took.fewer; last = took.last };
        up_to_ticks = up_to_ticks g.J.Headed.head g.J.LoopJob.runs _ c.self.inside.agenda _ _ _ _ did c.end_phase.ensures before.2 messages.1 ticks.3;
        loops = loops.2;
        each_tick = omega (arith, ticks.1, c.if-left_ticks-gt0.false);
        next = c.saturating_add-self-inside.ensures;
        counts = same_counts _ _ _ _ _ did before.1 (omega (arith, c.len.ensures)) ticks.2 loops.1;
      },
    )
