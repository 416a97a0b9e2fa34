-- What rounds and loops keep of a base, and the ticks that they count.
use Rattle.std.proofs.Common.{◌≡◌, ℕ, ◌+◌, ◌-◌, List, [], ◌∷◌, length, refl, sym, ap, ◌∙◌, arith}
use Rattle.fan_base.specs.declared.number.JobId.{JobId}
use Rattle.fan_base.specs.declared.number.Mark.{Mark}
use Rattle.job_trait.specs.declared.job.Head.{Head}
use Rattle.event_base.specs.declared.round.Round.{Round}
use Rattle.event_base.specs.declared.round.RoundMemory.{RoundMemory}
use Rattle.event_base.specs.declared.round.Why.{Why}
use Rattle.event_base.specs.declared.round.Why.TheVariants.{Closed, Terminated}
use Rattle.event_base.specs.Seen.{AgendaSeen, BaseSeen}
use Rattle.event_base.specs.Turns.{Turn, Place}
use Rattle.event_base.specs.Rounds.{Phases, ticked, TicksThrough, RunsUpToTicks, IsWholeRound, IsCutRound, HasNotBegun}
use Rattle.event_base.specs.Looping.{Looks, IsRoundBehindLook, RoundsThrough, EndsFor, IsLoop, IsCutLoop}
use Rattle.event_base.specs.Laws.{KeepsBase}
use Rattle.event_base.proofs.Turning.{turns_keep_tick, before_keeps_tick, loop_keeps_tick, turns_keep_exec, before_keeps_exec, loop_keeps_exec}

module _ {J : Type 0} where
  keeps_same : (base : BaseSeen J) → KeepsBase 0 base base
  keeps_same base = record { exec = refl; queue = refl; senders = refl; tick = omega arith }

  keeps_equal : (old new : BaseSeen J) → new ≡ old → KeepsBase 0 old new
  keeps_equal old new e = record {
    exec = ap (λ (b : BaseSeen J). b.agenda.exec) e;
    queue = ap (λ (b : BaseSeen J). b.queue.queue) e;
    senders = ap (λ (b : BaseSeen J). b.queue.senders) e;
    tick = omega (arith, ap (λ (b : BaseSeen J). b.agenda.wheel.tick) e);
  }

  keeps_joined : (old between new : BaseSeen J) → KeepsBase 0 old between → KeepsBase 0 between new → KeepsBase 0 old new
  keeps_joined old between new first second = record {
    exec = second.exec ∙ first.exec;
    queue = second.queue ∙ first.queue;
    senders = second.senders ∙ first.senders;
    tick = omega (arith, first.tick, second.tick);
  }

  keeps_look : (old new : BaseSeen J) → Looks old new → KeepsBase 0 old new
  keeps_look old new look = record {
    exec = ap (λ (a : AgendaSeen J). a.exec) look.agenda;
    queue = look.same.0;
    senders = look.same.1;
    tick = omega (arith, ap (λ (a : AgendaSeen J). a.wheel.tick) look.agenda);
  }

  pub not_begun_keeps : {W : Type 0} (ticks : ℕ) (w : W) (old : BaseSeen J) (fault : RoundMemory) (v : W) (new : BaseSeen J) → HasNotBegun ticks w old fault v new → KeepsBase 0 old new
  not_begun_keeps ticks w old fault v new h = keeps_equal old new h.base

module _ {W J : Type 0} (head : J → Head) (runs : JobId → Place W J → Mark → Place W J → Type 0) where
  ticks_keep : (p q : Place W J) (ticks : List (List (Turn J))) → TicksThrough head runs p ticks q → (q.1.exec ≡ p.1.exec) × (q.1.wheel.tick ≡ p.1.wheel.tick + length ticks)
  ticks_keep p q [] all = (ap (λ (u : Place W J). u.1.exec) (sym all), omega (arith, ap (λ (u : Place W J). u.1.wheel.tick) all))
  ticks_keep p q (turns ∷ more) all =
      let rest = ticks_keep all.0 q more all.2 in
      let tick = turns_keep_tick head runs (p.0, ticked p.1) all.0 turns all.1.ran in (
        rest.0 ∙ turns_keep_exec head runs (p.0, ticked p.1) all.0 turns all.1.ran,
        omega (arith, rest.1, tick),
      )

  up_to_ticks_keep : (p q : Place W J) (did : Phases J) → RunsUpToTicks head runs p did q → (q.1.exec ≡ p.1.exec) × (q.1.wheel.tick ≡ p.1.wheel.tick + length did.ticks)
  up_to_ticks_keep p q did all =
      let ticks = ticks_keep all.after_messages q did.ticks all.ticks.through in
      let m = turns_keep_tick head runs all.after_before all.after_messages did.messages all.messages.ran in
      let b = before_keeps_tick head runs _ all.after_before did.before all.before.ran in (
        ticks.0 ∙ turns_keep_exec head runs all.after_before all.after_messages did.messages all.messages.ran ∙ before_keeps_exec head runs _ all.after_before did.before all.before.ran,
        omega (arith, ticks.1, m, b),
      )

  pub round_keeps : (ticks : ℕ) (w : W) (old : BaseSeen J) (round : Round) (did : Phases J) (v : W) (new : BaseSeen J) → IsWholeRound head runs ticks w old round did v new → KeepsBase ticks old new
  round_keeps ticks w old round did v new whole =
      let up = up_to_ticks_keep (w, old.agenda) whole.after_ticks did whole.up_to_ticks in
      let loops = whole.loops in
      let t = loop_keeps_tick head runs _ (v, loops.end) did.loops loops.ran in
      let e = loop_keeps_exec head runs _ (v, loops.end) did.loops loops.ran in
      record {
        exec = ap (λ (a : AgendaSeen J). a.exec) loops.ended ∙ e ∙ up.0;
        queue = whole.took.same.0;
        senders = whole.took.same.1;
        tick = omega (arith, ap (λ (a : AgendaSeen J). a.wheel.tick) loops.ended, t, up.1, whole.each_tick);
      }

  pub cut_round_keeps : (ticks : ℕ) (w : W) (old : BaseSeen J) (fault : RoundMemory) (did : Phases J) (v : W) (new : BaseSeen J) → IsCutRound head runs ticks w old fault did v new → KeepsBase (ticks - fault.left_ticks) old new
  cut_round_keeps ticks w old fault did v new cut =
      let up = up_to_ticks_keep (w, old.agenda) (v, new.agenda) did cut.up_to_ticks in
      record { exec = up.0; queue = cut.took.same.0; senders = cut.took.same.1; tick = omega (arith, up.1, cut.each_tick) }

  behind_look_keeps : (w : W) (old : BaseSeen J) (did : Phases J) (v : W) (new : BaseSeen J) → IsRoundBehindLook head runs w old did v new → KeepsBase 0 old new
  behind_look_keeps w old did v new one = keeps_joined old one.looked new (keeps_look old one.looked one.looks) (round_keeps 0 w one.looked one.round did v new one.whole)

  rounds_keep : (w : W) (old : BaseSeen J) (list : List (Phases J)) (v : W) (new : BaseSeen J) → RoundsThrough head runs w old list v new → KeepsBase 0 old new
  rounds_keep w old [] v new all = keeps_equal old new all.1
  rounds_keep w old (did ∷ more) v new all = keeps_joined old all.1 new (behind_look_keeps w old did all.0 all.1 all.2) (rounds_keep all.0 all.1 more v new all.4)

  ends_keep : (why : Why) (last new : BaseSeen J) → EndsFor why last new → KeepsBase 0 last new
  ends_keep Terminated last new ends = record {
    exec = ap (λ (b : BaseSeen J). b.agenda.exec) ends.1;
    queue = ap (λ (b : BaseSeen J). b.queue.queue) ends.1;
    senders = ap (λ (b : BaseSeen J). b.queue.senders) ends.1;
    tick = omega (arith, ap (λ (b : BaseSeen J). b.agenda.wheel.tick) ends.1);
  }
  ends_keep Closed last new ends = keeps_equal last new ends.1

  pub loop_keeps : (rounds : ℕ) (why : Why) (w : W) (old : BaseSeen J) (v : W) (new : BaseSeen J) → IsLoop head runs rounds why w old v new → KeepsBase 0 old new
  loop_keeps rounds why w old v new all =
      keeps_joined old all.before_last new (rounds_keep w old all.earlier all.m all.before_last all.ran.through)
      (keeps_joined all.before_last all.last new (behind_look_keeps all.m all.before_last all.did v all.last all.last_round) (ends_keep why all.last new all.ends))

  pub cut_loop_keeps : (fault : RoundMemory) (w : W) (old : BaseSeen J) (v : W) (new : BaseSeen J) → IsCutLoop head runs fault w old v new → KeepsBase 0 old new
  cut_loop_keeps fault w old v new all =
      keeps_joined old all.before_last new (rounds_keep w old all.earlier v all.before_last all.ran.through)
      (keeps_joined all.before_last all.looked new (keeps_look all.before_last all.looked all.looks) (keeps_equal all.looked new all.not_begun.base))
