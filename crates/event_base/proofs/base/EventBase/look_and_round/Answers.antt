use Rattle.std.proofs.Common.{inl}
use Rattle.std.proofs.lemmas.Bool.{OnFalse_at, OnFalse_from}
use Rattle.event_base.proofs.base.EventBase.look_and_round.Goals as goal

pub returns-then-not-ended-clause-ok : goal.returns-then-not-ended-clause-ok
returns-then-not-ended-clause-ok g c =
    let ran = c.in-Ok.ensures.ok in (
      ran.0,
      record { looked = c.look-ended.new.self; round = c.in-Ok.round; looks = c.look-ended.ensures.looks; whole = ran.1 },
      OnFalse_from _ _ (λ _. inl (OnFalse_at c.if-not-ended.true c.look-ended.ensures.live)),
    )
