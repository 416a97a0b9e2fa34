use Rattle.std.proofs.Common.{arith}
use Rattle.core_interrupt.proofs.Slots.{filled}
use Rattle.core_interrupt.proofs.HearerSteps.{sets_allowed}
use Rattle.core_interrupt.proofs.steps.set_first.Goals as goal

pub compare_exchange-found-requires : goal.compare_exchange-found-requires
compare_exchange-found-requires g c =
    let home = c.requires.home in (
      c.put.ensures.of_home,
      omega (arith, home.words),
      sets_allowed c.args.handler _ _ _ _ _ c.code-empty.ensures c.code-has_handler.ensures (filled _ _ _ _ _ _ c.put.ensures.stands c.requires.holding.stands),
    )
