use Rattle.std.proofs.Common.{arith}
use Rattle.core_word.proofs.Setting.{looks_at_count}
use Rattle.core_word.proofs.steps.look_for_leave.Goals as goal

pub load-requires : goal.load-requires
load-requires g c =
    let home = c.requires.home in (
      c.requires.ready.of_home,
      omega (arith, home.words),
      looks_at_count _ _ _ _ _ c.requires.ready.stands c.requires.set,
    )
