-- Rounds one after another, as far as they have come.
use Rattle.std.proofs.Common.{◌≡◌, ℕ, ◌+◌, ◌<◌, min, false, true, List, [], ◌∷◌, ◌++◌, length, refl, sym, subst, ap, ◌∙◌, arith}
use Rattle.std.proofs.lemmas.List.{length_push}
use Rattle.fan_base.specs.declared.number.JobId.{JobId}
use Rattle.fan_base.specs.declared.number.Mark.{Mark}
use Rattle.job_trait.specs.declared.job.Head.{Head}
use Rattle.notify_queue.specs.Ends.{IsDry}
use Rattle.event_base.specs.declared.round.RoundMemory.{RoundMemory}
use Rattle.event_base.specs.declared.round.Why.TheVariants.{Closed, Terminated}
use Rattle.event_base.specs.Seen.{AgendaSeen, BaseSeen, unmarked}
use Rattle.event_base.specs.Turns.{Place}
use Rattle.event_base.specs.Rounds.{Phases, HasNotBegun}
use Rattle.event_base.specs.Looping.{Looks, HoldsNoCallback, count_of_callbacks, GoesOn, IsRoundBehindLook, RoundsThrough, AreRounds, IsLoop, IsCutLoop}

module _ {W J : Type 0} (head : J → Head) (runs : JobId → Place W J → Mark → Place W J → Type 0) where
  pub record RoundsSoFar (w : W) (old : BaseSeen J) (rounds : ℕ) (v : W) (new : BaseSeen J) : Type 0 where
    pub list : List (Phases J)
    pub ran : AreRounds head runs w old list v new
    pub count : rounds ≡ min (length list) 18446744073709551615

  pub rounds_start : (w : W) (old : BaseSeen J) → RoundsSoFar w old 0 w old
  rounds_start w old = record { list = []; ran = record { through = (refl, refl) }; count = refl }

  -- a round behind a look, with the reason why another one comes after it
  pub record Continued (w : W) (old : BaseSeen J) (did : Phases J) (v : W) (new : BaseSeen J) : Type 0 where
    pub one : IsRoundBehindLook head runs w old did v new
    pub goes : GoesOn old one.looked did new

  through_more : (w m v : W) (old between new : BaseSeen J) (list : List (Phases J)) (did : Phases J) → RoundsThrough head runs w old list m between → Continued m between did v new
      → RoundsThrough head runs w old (list ++ did ∷ []) v new
  through_more w m v old between new [] did all last =
      let one = subst (λ (b : BaseSeen J). Continued w b did v new) all.1 (subst (λ (u : W). Continued u between did v new) all.0 last) in
      (v, new, one.one, one.goes, (refl, refl))
  through_more w m v old between new (d ∷ ds) did all last = (all.0, all.1, all.2, all.3, through_more all.0 m v all.1 between new ds did all.4 last)

  off_is : (b : BaseSeen J) → b.agenda.terminating ≡ false → record b { agenda = unmarked b.agenda } ≡ b
  off_is b off = ap (λ t. record b { agenda = record b.agenda { terminating = t } }) (sym off)

  pub rounds_step : (w m v : W) (old between last new : BaseSeen J) (rounds : ℕ) (did : Phases J) → RoundsSoFar w old rounds m between
      → (one : IsRoundBehindLook head runs m between did v last) → GoesOn between one.looked did last → new ≡ record last { agenda = unmarked last.agenda } → RoundsSoFar w old (min (rounds + 1) 18446744073709551615) v new
  rounds_step w m v old between last new rounds did sofar one goes e =
      let same = e ∙ off_is last goes.off in
      let more = subst (λ (b : BaseSeen J). AreRounds head runs w old (sofar.list ++ did ∷ []) v b) (sym same) (record { through = through_more w m v old between last sofar.list did sofar.ran.through (record { one = one; goes = goes }) }) in
      record { list = sofar.list ++ did ∷ []; ran = more; count = omega (arith, sofar.count, length_push sofar.list did) }

  pub loop_terminated : (w m v : W) (old between last new : BaseSeen J) (rounds : ℕ) (did : Phases J) → RoundsSoFar w old rounds m between → IsRoundBehindLook head runs m between did v last
      → last.agenda.terminating ≡ true → new ≡ record last { agenda = unmarked last.agenda } → IsLoop head runs (min (rounds + 1) 18446744073709551615) Terminated w old v new
  loop_terminated w m v old between last new rounds did sofar one on e = record {
    earlier = sofar.list;
    did = did;
    m = m;
    before_last = between;
    last = last;
    ran = sofar.ran;
    last_round = one;
    count = omega (arith, sofar.count);
    ends = (on, e);
  }

  pub loop_closed : (w m v : W) (old between last new : BaseSeen J) (rounds : ℕ) (did : Phases J) → RoundsSoFar w old rounds m between → IsRoundBehindLook head runs m between did v last
      → last.agenda.terminating ≡ false → new ≡ record last { agenda = unmarked last.agenda } → HoldsNoCallback new.agenda → IsDry last.queue → IsLoop head runs (min (rounds + 1) 18446744073709551615) Closed w old v new
  loop_closed w m v old between last new rounds did sofar one off e idle dry = record {
    earlier = sofar.list;
    did = did;
    m = m;
    before_last = between;
    last = last;
    ran = sofar.ran;
    last_round = one;
    count = omega (arith, sofar.count);
    ends = (off, e ∙ off_is last off, idle, subst (λ (b : BaseSeen J). IsDry b.queue) (sym e) dry);
  }

  pub loop_cut : (w v : W) (old between looked new : BaseSeen J) (m : W) (rounds : ℕ) (fault : RoundMemory) → RoundsSoFar w old rounds m between → Looks between looked → HasNotBegun 0 m looked fault v new
      → IsCutLoop head runs fault w old v new
  loop_cut w v old between looked new m rounds fault sofar looks not_begun = record {
    earlier = sofar.list;
    before_last = between;
    looked = looked;
    ran = subst (λ (u : W). AreRounds head runs w old sofar.list u between) (sym not_begun.world) sofar.ran;
    looks = looks;
    not_begun = subst (λ (u : W). HasNotBegun 0 u looked fault v new) (sym not_begun.world) not_begun;
  }

module _ {J : Type 0} where
  -- the base whose mark was taken off
  pub mark_off : (inside last new : BaseSeen J) (a : AgendaSeen J) → inside ≡ last → a ≡ unmarked inside.agenda → new ≡ record inside { agenda = a } → new ≡ record last { agenda = unmarked last.agenda }
  mark_off inside last new a same off e =
      e ∙ ap (λ (x : AgendaSeen J). record inside { agenda = x }) off ∙ ap (λ (b : BaseSeen J). record b { agenda = unmarked b.agenda }) same

  -- the callbacks that are held with the mark taken off are those that were held
  pub still_held : (inside last : BaseSeen J) (a : AgendaSeen J) → inside ≡ last → a ≡ unmarked inside.agenda → 0 < count_of_callbacks a → 0 < count_of_callbacks last.agenda
  still_held inside last a same off some =
      subst (λ (b : BaseSeen J). 0 < count_of_callbacks b.agenda) same (subst (λ (x : AgendaSeen J). 0 < count_of_callbacks x) off some)
