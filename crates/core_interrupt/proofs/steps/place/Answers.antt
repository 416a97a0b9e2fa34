use Rattle.std.proofs.Common.{◌∙◌, arith}
use Rattle.core_interrupt.proofs.Slots.{filled}
use Rattle.core_interrupt.proofs.RaiserSteps.{places_allowed, place_aware}
use Rattle.core_interrupt.proofs.steps.place.Goals as goal

pub compare_exchange-found-requires : goal.compare_exchange-found-requires
compare_exchange-found-requires g c =
    let home = c.requires.home in (
      c.put.ensures.of_home,
      omega (arith, home.words),
      places_allowed c.args.object _ _ _ _ _ _ c.code-empty.ensures c.code-has_object.ensures (filled _ _ _ _ _ _ c.put.ensures.stands c.requires.holding.stands),
    )

pub returns-clause-aware : goal.returns-clause-aware
returns-clause-aware g c =
    place_aware _ _ _ _ _ c.args.object _ c.code-empty.ensures (c.compare_exchange-found.ensures.0 ∙ c.put.ensures.of_home) (filled _ _ _ _ _ _ c.put.ensures.stands c.requires.holding.stands) c.compare_exchange-found.ensures.2
