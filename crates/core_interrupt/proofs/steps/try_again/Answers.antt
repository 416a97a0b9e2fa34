use Rattle.std.proofs.Common.{arith}
use Rattle.core_interrupt.proofs.RaiserSteps.{again_allowed, again_called}
use Rattle.core_interrupt.proofs.steps.try_again.Goals as goal

pub compare_exchange_with-found-requires : goal.compare_exchange_with-found-requires
compare_exchange_with-found-requires g c =
    let home = c.requires.home in (
      c.requires.aware.of_home,
      omega (arith, home.words),
      again_allowed c.requires.item.0 _ _ _ _ _ _ _ c.code-has_handler.ensures c.code-called.ensures c.requires.item.1 c.requires.aware.stands,
    )

pub returns-clause-called : goal.returns-clause-called
returns-clause-called g c = again_called _ _ _ _ _ _ c.code-has_handler.ensures c.requires.aware.stands c.compare_exchange_with-found.ensures.2
