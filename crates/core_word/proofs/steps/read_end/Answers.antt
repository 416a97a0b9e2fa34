use Rattle.std.proofs.Common.{arith, ap, ◌∙◌, None}
use Rattle.core_word.proofs.Owing.{head_rest, third}
use Rattle.core_word.proofs.Reading.{last_reads}
use Rattle.core_word.proofs.steps.read_end.Goals as goal

pub load-requires : goal.load-requires
load-requires g c =
    let home = c.requires.home in (
      c.requires.last.0,
      omega (arith, home.words),
      last_reads _ _ _ c.requires.last.1 c.requires.last.2,
    )

pub exchange-proxy-requires : goal.exchange-proxy-requires
exchange-proxy-requires g c =
    let taken = ap (λ m. m.1) c.load.ensures.2.4 in
    (c.load.ensures.0 ∙ c.requires.last.0, (_, head_rest _ _ _ taken))

pub exchange-outcome-requires : goal.exchange-outcome-requires
exchange-outcome-requires g c =
    let taken = ap (λ m. m.1) c.load.ensures.2.4 in (
      c.turn-2.ensures.0 ∙ (c.exchange-callback.ensures.0 ∙ (c.turn.ensures.0 ∙ (c.exchange-proxy.ensures.0 ∙ (c.load.ensures.0 ∙ c.requires.last.0)))),
      (_, third None _ _ _ _ _ _ _ taken (ap (λ m. m.1) c.exchange-proxy.ensures.3) (ap (λ m. m.1) c.turn.ensures.2) (ap (λ m. m.1) c.exchange-callback.ensures.3) (ap (λ m. m.1) c.turn-2.ensures.2)),
    )
