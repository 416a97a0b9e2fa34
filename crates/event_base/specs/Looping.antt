-- Rounds one after another, until a base is closed or told to end.
use Rattle.std.specs.Prelude.{◌≡◌, ℕ, ◌+◌, ◌<◌, ◌⊎◌, min, false, true, List, [], ◌∷◌, length}
use mathlib.Core.List.{IsPrefix}
use Rattle.fan_base.specs.declared.number.JobId.{JobId}
use Rattle.fan_base.specs.declared.number.Mark.{Mark}
use Rattle.job_trait.specs.declared.job.Head.{Head}
use Rattle.notify_queue.specs.Ends.{IsDry, FoundLive}
use Rattle.event_base.specs.declared.round.Round.{Round}
use Rattle.event_base.specs.declared.round.RoundMemory.{RoundMemory}
use Rattle.event_base.specs.declared.round.Why.{Why}
use Rattle.event_base.specs.declared.round.Why.TheVariants.{Closed, Terminated}
use Rattle.event_base.specs.Seen.{AgendaSeen, BaseSeen, unmarked}
use Rattle.event_base.specs.Turns.{Place}
use Rattle.event_base.specs.Rounds.{Phases, IsWholeRound, HasNotBegun}

module _ {J : Type 0} where
  -- the receiver has looked whether its senders have ended, and all else is as before
  pub record Looks (old new : BaseSeen J) : Type 0 where
    pub agenda : new.agenda ≡ old.agenda
    pub number : new.number ≡ old.number
    pub same : (new.queue.queue ≡ old.queue.queue) × (new.queue.senders ≡ old.queue.senders) × (new.queue.taken ≡ old.queue.taken)
    pub more : IsPrefix old.queue.ended new.queue.ended
    pub looks : IsPrefix old.queue.looks new.queue.looks

  -- no callback is held
  abbrev pub HoldsNoCallback : AgendaSeen J → Type 0
  HoldsNoCallback a = (a.before ≡ []) × (a.loops ≡ []) × (a.later ≡ [])

  -- how many callbacks are held
  abbrev pub count_of_callbacks : AgendaSeen J → ℕ
  count_of_callbacks a = length a.before + (length a.loops + length a.later)

  -- the look before a round found a poster that had not ended, or the round took all that it may take
  abbrev pub MayHaveMore : BaseSeen J → BaseSeen J → Phases J → Type 0
  MayHaveMore old looked did = FoundLive old.queue looked.queue ⊎ (length did.took ≡ 10)

  -- Why another round comes after one: the mark to end is off, and there may be messages, or a callback is held. So a loop ends at the first round
  -- behind which it may.
  pub record GoesOn (old looked : BaseSeen J) (did : Phases J) (new : BaseSeen J) : Type 0 where
    pub off : new.agenda.terminating ≡ false
    pub reason : MayHaveMore old looked did ⊎ (0 < count_of_callbacks new.agenda)

  -- why the loop ends after its last round: the mark stands and is taken off; or it is off, nothing is held and nothing can come
  abbrev pub EndsFor : Why → BaseSeen J → BaseSeen J → Type 0
  EndsFor Terminated last new = (last.agenda.terminating ≡ true) × (new ≡ record last { agenda = unmarked last.agenda })
  EndsFor Closed last new = (last.agenda.terminating ≡ false) × (new ≡ last) × HoldsNoCallback new.agenda × IsDry new.queue

module _ {W J : Type 0} (head : J → Head) (runs : JobId → Place W J → Mark → Place W J → Type 0) where
  -- a look, and then a whole round without ticks
  pub record IsRoundBehindLook (w : W) (old : BaseSeen J) (did : Phases J) (v : W) (new : BaseSeen J) : Type 0 where
    pub looked : BaseSeen J
    pub round : Round
    pub looks : Looks old looked
    pub whole : IsWholeRound head runs 0 w looked round did v new

  abbrev pub RoundsThrough : W → BaseSeen J → List (Phases J) → W → BaseSeen J → Type 0
  RoundsThrough w old [] v new = (v ≡ w) × (new ≡ old)
  RoundsThrough w old (did ∷ more) v new =
      (m : W) × (between : BaseSeen J) × (one : IsRoundBehindLook w old did m between)
      × GoesOn old one.looked did between × RoundsThrough m between more v new

  -- rounds one after another, after each of which there was a reason to go on
  pub record AreRounds (w : W) (old : BaseSeen J) (rounds : List (Phases J)) (v : W) (new : BaseSeen J) : Type 0 where
    pub through : RoundsThrough w old rounds v new

  -- the whole loop: rounds, and a last one
  pub record IsLoop (rounds : ℕ) (why : Why) (w : W) (old : BaseSeen J) (v : W) (new : BaseSeen J) : Type 0 where
    pub earlier : List (Phases J)
    pub did : Phases J
    pub m : W
    pub before_last : BaseSeen J
    pub last : BaseSeen J
    pub ran : AreRounds w old earlier m before_last
    pub last_round : IsRoundBehindLook m before_last did v last
    pub count : rounds ≡ min (length earlier + 1) 18446744073709551615
    pub ends : EndsFor why last new

  -- rounds, and then one that did not begin
  pub record IsCutLoop (fault : RoundMemory) (w : W) (old : BaseSeen J) (v : W) (new : BaseSeen J) : Type 0 where
    pub earlier : List (Phases J)
    pub before_last : BaseSeen J
    pub looked : BaseSeen J
    pub ran : AreRounds w old earlier v before_last
    pub looks : Looks before_last looked
    pub not_begun : HasNotBegun 0 v looked fault v new
