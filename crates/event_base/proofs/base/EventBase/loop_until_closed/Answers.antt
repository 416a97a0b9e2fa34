use Rattle.std.proofs.Common.{ℕ, ◌<◌, ◌⊎◌, inl, inr, sym, subst, ap, ◌∙◌}
use Rattle.std.proofs.lemmas.Bool.{OnFalse_at}
use Rattle.event_base.specs.Seen.{BaseSeen}
use Rattle.event_base.specs.Looping.{MayHaveMore, count_of_callbacks}
use Rattle.event_base.proofs.Looped.{RoundsSoFar, rounds_start, rounds_step, mark_off, still_held}
use Rattle.event_base.proofs.base.EventBase.loop_until_closed.Goals as goal
use Rattle.event_base.proofs.base.EventBase.loop_until_closed.Goals.{else-dry-via-then-dry+else-idle, else-dry-via-else-dry}

pub loop-init : goal.loop-init
loop-init g c = rounds_start g.J.Headed.head g.J.LoopJob.runs _ _

pub loop-preserved : goal.loop-preserved
loop-preserved g c =
    let head = g.J.Headed.head in
    let runs = g.J.LoopJob.runs in
    let ran = c.in-Ok.ensures.ok in
    let stood = ap (λ (b : BaseSeen g.row.J.Denot). b.agenda.terminating) (sym c.self.view_is) ∙ sym c.take_mark.ensures.mark ∙ c.if-take_mark.false in
    let held = still_held _ c.look_and_round.new.self c.take_mark.new.self c.self.view_is c.take_mark.ensures.off in
    let reason : MayHaveMore c.loop.self ran.1.looked ran.0 ⊎ (0 < count_of_callbacks c.look_and_round.new.self.agenda) =
    elim c.else-dry.branch [
      | else-dry-via-then-dry+else-idle w ↦ inr (held (OnFalse_at w.if-idle.false c.is_idle-idle.ensures.some))
      | else-dry-via-else-dry w ↦ inl (OnFalse_at w.if-dry.false ran.2)
    ] in
    let off = mark_off _ c.look_and_round.new.self c.sleep_where.new.self c.take_mark.new.self c.self.view_is c.take_mark.ensures.off c.sleep_where.ensures in
    let more = rounds_step head runs c.args.world.now c.loop.world c.look_and_round.new.world c.args.self.now c.loop.self c.look_and_round.new.self c.sleep_where.new.self c.loop.rounds ran.0 c.loop.invariant ran.1 (record { off = stood; reason = reason }) off in
    subst (λ (n : ℕ). RoundsSoFar head runs c.args.world.now c.args.self.now n c.look_and_round.new.world c.sleep_where.new.self) (sym c.saturating_add-rounds.ensures) more
