use Rattle.std.proofs.Common.{arith, refl}
use Rattle.semi_defer.proofs.Slots.{filled}
use Rattle.semi_defer.proofs.Acting.{adds_allowed}
use Rattle.semi_defer.proofs.steps.add_first.Goals as goal

pub compare_exchange-found-requires : goal.compare_exchange-found-requires
compare_exchange-found-requires g c =
    let home = c.requires.home in (
      c.put.ensures.of_home,
      omega (arith, home.words),
      adds_allowed c.args.job _ _ _ _ _ refl refl (filled _ _ _ _ _ _ c.put.ensures.stands c.requires.holding.stands),
    )
