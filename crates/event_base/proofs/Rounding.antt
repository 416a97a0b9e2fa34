-- A round is put together from its phases.
use Rattle.std.proofs.Common.{◌≡◌, ℕ, min, List, map, length, subst, ap, ◌∙◌}
use Rattle.std.specs.List.{sum_by}
use Rattle.fan_base.specs.declared.number.JobId.{JobId}
use Rattle.fan_base.specs.declared.number.Mark.{Mark}
use Rattle.job_trait.specs.declared.job.Head.{Head}
use Rattle.notify_queue.specs.declared.stamp.Stamped.{Stamped}
use Rattle.event_base.specs.Seen.{AgendaSeen, settled}
use Rattle.event_base.specs.Turns.{Turn, Place}
use Rattle.event_base.specs.Rounds.{Phases, counts_of, IsBeforePhase, AllRun, AreTicks, RunsUpToTicks}
use Rattle.event_base.proofs.Turning.{turns_keep_tick, before_keeps_tick}

module _ {W J : Type 0} (head : J → Head) (runs : JobId → Place W J → Mark → Place W J → Type 0) where
  -- the ticks are those of the beginning until the first tick
  pub same_tick : (jobs : List J) (w : W) (a b : AgendaSeen J) (p q : Place W J) (xs ys : List (Turn J)) → b ≡ settled a → IsBeforePhase head runs (w, b) xs p → AllRun head runs jobs p ys q → q.1.wheel.tick ≡ a.wheel.tick
  same_tick jobs w a b p q xs ys e before messages =
      turns_keep_tick head runs p q ys messages.ran ∙ before_keeps_tick head runs (w, b) p xs before.ran ∙ ap (λ (x : AgendaSeen J). x.wheel.tick) e

  pub up_to_ticks : (w : W) (a b : AgendaSeen J) (p q u : Place W J) (did : Phases J) → b ≡ settled a → IsBeforePhase head runs (w, b) did.before p
      → AllRun head runs (map (λ (x : Stamped J). x.message) did.took) p did.messages q → AreTicks head runs q did.ticks u → RunsUpToTicks head runs (w, a) did u
  up_to_ticks w a b p q u did e before messages ticks = record {
    after_before = p;
    after_messages = q;
    before = subst (λ (x : AgendaSeen J). IsBeforePhase head runs (w, x) did.before p) e before;
    messages = messages;
    ticks = ticks;
  }

module _ {J : Type 0} where
  -- the counts, each by its own equation
  pub same_counts : (number before messages timers loops : ℕ) (did : Phases J) → before ≡ length did.before → messages ≡ length did.took → timers ≡ min (sum_by length did.ticks) 18446744073709551615 → loops ≡ length did.loops
      → record { number = number; before = before; messages = messages; timers = timers; loops = loops } ≡ counts_of number did
  same_counts number before messages timers loops did b m t l = cc
