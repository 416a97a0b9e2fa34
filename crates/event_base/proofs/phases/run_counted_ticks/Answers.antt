use Rattle.std.proofs.Common.{ℕ, ◌+◌, sym, subst}
use Rattle.event_base.proofs.SoFar.{TicksSoFar, ticks_step}
use Rattle.event_base.proofs.phases.run_counted_ticks.Goals as goal

pub loop-made-preserved : goal.loop-made-preserved
loop-made-preserved g c =
    let one = c.in-Some.ensures.some in
    let head = g.J.Headed.head in
    let runs = g.J.LoopJob.runs in
    let more = ticks_step head runs _ _ _ _ one.0 c.in-Some.count _ c.loop-made.invariant one.1 one.2 in
    subst (λ (n : ℕ). TicksSoFar head runs (c.args.world.now, c.args.agenda.now) (c.loop-made.made + 1) n (c.run_tick.new.world, c.run_tick.new.agenda)) (sym c.saturating_add-timers.ensures) more
