use Rattle.std.proofs.Common.{arith}
use Rattle.semi_defer.proofs.Slots.{filled}
use Rattle.semi_defer.proofs.Acting.{returns_allowed}
use Rattle.semi_defer.proofs.steps.take_back.Goals as goal

pub load-requires : goal.load-requires
load-requires g c =
    let home = c.requires.home in
    let late = c.requires.late in (
      c.take_out-job.ensures.sits.of_home,
      omega (arith, home.words),
      returns_allowed late.0 _ _ late.1 _ (filled _ _ _ _ _ _ c.take_out-job.ensures.sits.stands late.2.stands),
    )
