use Rattle.std.proofs.Common.{arith}
use Rattle.core_interrupt.proofs.Slots.{filled}
use Rattle.core_interrupt.proofs.RaiserSteps.{gives_allowed}
use Rattle.core_interrupt.proofs.steps.take_called.Goals as goal

pub load-requires : goal.load-requires
load-requires g c =
    let home = c.requires.home in (
      c.take_handler-handler.ensures.sits.of_home,
      omega (arith, home.words),
      gives_allowed _ _ _ _ (filled _ _ _ _ _ _ c.take_handler-handler.ensures.sits.stands c.requires.calling.1.stands),
    )
