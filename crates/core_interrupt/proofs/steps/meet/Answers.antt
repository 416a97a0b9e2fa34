use Rattle.std.proofs.Common.{ap, arith}
use Rattle.core_interrupt.specs.Steps.{Standing}
use Rattle.core_interrupt.proofs.Slots.{both_emptied}
use Rattle.core_interrupt.proofs.HearerSteps.{meets_allowed, gives_called_allowed}
use Rattle.core_interrupt.proofs.steps.meet.Goals as goal

pub compare_exchange-requires : goal.compare_exchange-requires
compare_exchange-requires g c =
    let home = c.requires.home in
    let aware = c.requires.aware in (
      aware.1.of_home,
      omega (arith, home.words),
      meets_allowed aware.0 _ _ _ _ _ c.code-has_object.ensures c.code-called.ensures aware.1.stands,
    )

pub load-requires : goal.load-requires
load-requires g c =
    let home = c.requires.home in
    let aware = c.requires.aware in
    let got = c.compare_exchange.ensures.2 aware.0 (ap (λ (m : Standing _ _). m.1) aware.1.stands) in (
      c.take_handler-handler.ensures.sits.of_home,
      omega (arith, home.words),
      gives_called_allowed _ _ aware.0 got.0 _ (both_emptied _ _ _ _ _ _ _ got.1 c.take_object-object.ensures.sits.stands c.turn.ensures.2 c.take_handler-handler.ensures.sits.stands),
    )
