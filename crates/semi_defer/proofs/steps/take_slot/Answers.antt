use Rattle.std.proofs.Common.{arith}
use Rattle.semi_defer.proofs.Acting.{takes_allowed}
use Rattle.semi_defer.proofs.steps.take_slot.Goals as goal

pub load-requires : goal.load-requires
load-requires g c =
    let home = c.requires.home in (
      c.requires.ready.of_home,
      omega (arith, home.words),
      takes_allowed _ _ _ c.requires.ready.stands,
    )
