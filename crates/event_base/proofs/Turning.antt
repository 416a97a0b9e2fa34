-- One turn more, and what turns keep.
use Rattle.std.proofs.Common.{◌≡◌, List, [], ◌∷◌, ◌++◌, refl, sym, subst, ap, ◌∙◌}
use Rattle.fan_base.specs.declared.number.JobId.{JobId}
use Rattle.fan_base.specs.declared.number.Mark.{Mark}
use Rattle.job_trait.specs.declared.job.Head.{Head}
use Rattle.event_base.specs.Seen.{AgendaSeen}
use Rattle.event_base.specs.Calls.{Call, Makes}
use Rattle.event_base.specs.Turns.{Turn, Place, LeavesAgenda, TakesBefore, TakesLoop, IsTurn, TurnsThrough, AreTurns}
use Rattle.event_base.proofs.Calling.{makes_keep}

module _ {W J : Type 0} (step : J → AgendaSeen J → AgendaSeen J → Type 0) (head : J → Head) (runs : JobId → Place W J → Mark → Place W J → Type 0) where
  pub turns_none : (p : Place W J) → AreTurns step head runs p [] p
  turns_none p = record { through = refl }

  through-append : (p m q : Place W J) (xs ys : List (Turn J)) → TurnsThrough step head runs p xs m → TurnsThrough step head runs m ys q → TurnsThrough step head runs p (xs ++ ys) q
  through-append p m q [] ys first second = subst (λ (u : Place W J). TurnsThrough step head runs u ys q) (sym first) second
  through-append p m q (x ∷ xs) ys first second = (first.0, first.1, through-append first.0 m q xs ys first.2 second)

  pub turns_more : (p m q : Place W J) (turns : List (Turn J)) (turn : Turn J) → AreTurns step head runs p turns m → IsTurn step head runs m turn q → AreTurns step head runs p (turns ++ turn ∷ []) q
  turns_more p m q turns turn first last = record { through = through-append p m q turns (turn ∷ []) first.through (q, last, refl) }

module _ {W J : Type 0} (step : J → AgendaSeen J → AgendaSeen J → Type 0) (head : J → Head) (runs : JobId → Place W J → Mark → Place W J → Type 0) where
  -- what the calls keep and the base's own step keeps, the turns keep
  through_keeps : {A : Type 0} (part : AgendaSeen J → A) → ((a : AgendaSeen J) (calls : List (Call J)) (b : AgendaSeen J) → Makes head a calls b → part b ≡ part a)
      → ((job : J) (a b : AgendaSeen J) → step job a b → part b ≡ part a) → (p q : Place W J) (turns : List (Turn J)) → TurnsThrough step head runs p turns q → part q.1 ≡ part p.1
  through_keeps part called stepped p q [] all = ap (λ (u : Place W J). part u.1) (sym all)
  through_keeps part called stepped p q (turn ∷ turns) all =
      let one = all.1 in
      through_keeps part called stepped all.0 q turns all.2 ∙ called one.between turn.calls all.0.1 one.called ∙ stepped turn.job p.1 one.between one.stepped

module _ {W J : Type 0} (head : J → Head) (runs : JobId → Place W J → Mark → Place W J → Type 0) where
  pub turns_keep_tick : (p q : Place W J) (turns : List (Turn J)) → AreTurns LeavesAgenda head runs p turns q → q.1.wheel.tick ≡ p.1.wheel.tick
  turns_keep_tick p q turns all =
      through_keeps LeavesAgenda head runs (λ (x : AgendaSeen J). x.wheel.tick) (λ a calls b makes. (makes_keep head a calls b makes).1) (λ job a b e. ap (λ (x : AgendaSeen J). x.wheel.tick) e) p q turns all.through

  pub before_keeps_tick : (p q : Place W J) (turns : List (Turn J)) → AreTurns TakesBefore head runs p turns q → q.1.wheel.tick ≡ p.1.wheel.tick
  before_keeps_tick p q turns all =
      through_keeps TakesBefore head runs (λ (x : AgendaSeen J). x.wheel.tick) (λ a calls b makes. (makes_keep head a calls b makes).1) (λ job a b e. sym (ap (λ (x : AgendaSeen J). x.wheel.tick) e)) p q turns all.through

  pub loop_keeps_tick : (p q : Place W J) (turns : List (Turn J)) → AreTurns TakesLoop head runs p turns q → q.1.wheel.tick ≡ p.1.wheel.tick
  loop_keeps_tick p q turns all =
      through_keeps TakesLoop head runs (λ (x : AgendaSeen J). x.wheel.tick) (λ a calls b makes. (makes_keep head a calls b makes).1) (λ job a b e. sym (ap (λ (x : AgendaSeen J). x.wheel.tick) e)) p q turns all.through

  pub turns_keep_exec : (p q : Place W J) (turns : List (Turn J)) → AreTurns LeavesAgenda head runs p turns q → q.1.exec ≡ p.1.exec
  turns_keep_exec p q turns all =
      through_keeps LeavesAgenda head runs (λ (x : AgendaSeen J). x.exec) (λ a calls b makes. (makes_keep head a calls b makes).0) (λ job a b e. ap (λ (x : AgendaSeen J). x.exec) e) p q turns all.through

  pub before_keeps_exec : (p q : Place W J) (turns : List (Turn J)) → AreTurns TakesBefore head runs p turns q → q.1.exec ≡ p.1.exec
  before_keeps_exec p q turns all =
      through_keeps TakesBefore head runs (λ (x : AgendaSeen J). x.exec) (λ a calls b makes. (makes_keep head a calls b makes).0) (λ job a b e. sym (ap (λ (x : AgendaSeen J). x.exec) e)) p q turns all.through

  pub loop_keeps_exec : (p q : Place W J) (turns : List (Turn J)) → AreTurns TakesLoop head runs p turns q → q.1.exec ≡ p.1.exec
  loop_keeps_exec p q turns all =
      through_keeps TakesLoop head runs (λ (x : AgendaSeen J). x.exec) (λ a calls b makes. (makes_keep head a calls b makes).0) (λ job a b e. sym (ap (λ (x : AgendaSeen J). x.exec) e)) p q turns all.through
