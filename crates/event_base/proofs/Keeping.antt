-- What each run keeps, rounds and loops keep.
use Rattle.std.proofs.Common.{ℕ, List, [], ◌∷◌, subst, sym}
use Rattle.fan_base.specs.declared.number.JobId.{JobId}
use Rattle.fan_base.specs.declared.number.Mark.{Mark}
use Rattle.job_trait.specs.declared.job.Head.{Head}
use Rattle.event_base.specs.declared.round.Round.{Round}
use Rattle.event_base.specs.declared.round.RoundMemory.{RoundMemory}
use Rattle.event_base.specs.declared.round.Why.{Why}
use Rattle.event_base.specs.Seen.{AgendaSeen, BaseSeen}
use Rattle.event_base.specs.Turns.{Turn, Place, LeavesAgenda, TakesBefore, TakesLoop, TurnsThrough}
use Rattle.event_base.specs.Rounds.{Phases, TicksThrough, RunsUpToTicks, IsWholeRound, IsCutRound}
use Rattle.event_base.specs.Looping.{RoundsThrough, IsRoundBehindLook, IsLoop, IsCutLoop}
use Rattle.event_base.specs.Laws.{IsKeptByRuns}

module _ {W J : Type 0} (step : J → AgendaSeen J → AgendaSeen J → Type 0) (head : J → Head) (runs : JobId → Place W J → Mark → Place W J → Type 0) (relates : W → W → Type 0) where
  through_related : IsKeptByRuns runs relates → (p q : Place W J) (turns : List (Turn J)) → TurnsThrough step head runs p turns q → relates p.0 q.0
  through_related kept p q [] all = subst (λ (u : Place W J). relates p.0 u.0) all (kept.same p.0)
  through_related kept p q (turn ∷ turns) all =
      kept.joined p.0 all.0.0 q.0 (kept.each (head turn.job).id (p.0, all.1.between) turn.mark all.0 all.1.ran) (through_related kept all.0 q turns all.2)

module _ {W J : Type 0} (head : J → Head) (runs : JobId → Place W J → Mark → Place W J → Type 0) (relates : W → W → Type 0) where
  ticks_related : IsKeptByRuns runs relates → (p q : Place W J) (ticks : List (List (Turn J))) → TicksThrough head runs p ticks q → relates p.0 q.0
  ticks_related kept p q [] all = subst (λ (u : Place W J). relates p.0 u.0) all (kept.same p.0)
  ticks_related kept p q (turns ∷ more) all =
      kept.joined p.0 all.0.0 q.0 (through_related LeavesAgenda head runs relates kept _ all.0 turns all.1.ran.through) (ticks_related kept all.0 q more all.2)

  up_to_ticks_related : IsKeptByRuns runs relates → (p q : Place W J) (did : Phases J) → RunsUpToTicks head runs p did q → relates p.0 q.0
  up_to_ticks_related kept p q did all =
      let first = through_related TakesBefore head runs relates kept _ all.after_before did.before all.before.ran.through in
      let second = through_related LeavesAgenda head runs relates kept all.after_before all.after_messages did.messages all.messages.ran.through in
      let third = ticks_related kept all.after_messages q did.ticks all.ticks.through in
      kept.joined p.0 all.after_messages.0 q.0 (kept.joined p.0 all.after_before.0 all.after_messages.0 first second) third

  pub round_related : IsKeptByRuns runs relates → (ticks : ℕ) (w : W) (old : BaseSeen J) (round : Round) (did : Phases J) (v : W) (new : BaseSeen J) → IsWholeRound head runs ticks w old round did v new → relates w v
  round_related kept ticks w old round did v new whole =
      kept.joined w whole.after_ticks.0 v (up_to_ticks_related kept (w, old.agenda) whole.after_ticks did whole.up_to_ticks)
      (through_related TakesLoop head runs relates kept _ _ did.loops whole.loops.ran.through)

  pub cut_round_related : IsKeptByRuns runs relates → (ticks : ℕ) (w : W) (old : BaseSeen J) (fault : RoundMemory) (did : Phases J) (v : W) (new : BaseSeen J) → IsCutRound head runs ticks w old fault did v new → relates w v
  cut_round_related kept ticks w old fault did v new cut = up_to_ticks_related kept (w, old.agenda) (v, new.agenda) did cut.up_to_ticks

  behind_look_related : IsKeptByRuns runs relates → (w : W) (old : BaseSeen J) (did : Phases J) (v : W) (new : BaseSeen J) → IsRoundBehindLook head runs w old did v new → relates w v
  behind_look_related kept w old did v new one = round_related kept 0 w one.looked one.round did v new one.whole

  rounds_related : IsKeptByRuns runs relates → (w : W) (old : BaseSeen J) (list : List (Phases J)) (v : W) (new : BaseSeen J) → RoundsThrough head runs w old list v new → relates w v
  rounds_related kept w old [] v new all = subst (λ (u : W). relates w u) (sym all.0) (kept.same w)
  rounds_related kept w old (did ∷ more) v new all = kept.joined w all.0 v (behind_look_related kept w old did all.0 all.1 all.2) (rounds_related kept all.0 all.1 more v new all.4)

  pub loop_related : IsKeptByRuns runs relates → (rounds : ℕ) (why : Why) (w : W) (old : BaseSeen J) (v : W) (new : BaseSeen J) → IsLoop head runs rounds why w old v new → relates w v
  loop_related kept rounds why w old v new all =
      kept.joined w all.m v (rounds_related kept w old all.earlier all.m all.before_last all.ran.through) (behind_look_related kept all.m all.before_last all.did v all.last all.last_round)

  pub cut_loop_related : IsKeptByRuns runs relates → (fault : RoundMemory) (w : W) (old : BaseSeen J) (v : W) (new : BaseSeen J) → IsCutLoop head runs fault w old v new → relates w v
  cut_loop_related kept fault w old v new all = rounds_related kept w old all.earlier v all.before_last all.ran.through
