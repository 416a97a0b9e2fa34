use Rattle.std.proofs.Common.{arith}
use Rattle.core_interrupt.proofs.RaiserSteps.{tries_allowed}
use Rattle.core_interrupt.proofs.steps.try_call.Goals as goal

pub compare_exchange_with-found-requires : goal.compare_exchange_with-found-requires
compare_exchange_with-found-requires g c =
    let home = c.requires.home in (
      c.requires.resting.of_home,
      omega (arith, home.words),
      tries_allowed c.requires.item.0 _ _ _ _ _ _ _ c.code-has_handler.ensures c.code-called.ensures c.requires.item.1 c.requires.resting.stands,
    )
