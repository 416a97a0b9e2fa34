use Rattle.std.proofs.Common.{arith}
use Rattle.core_word.proofs.Setting.{takes_result_slot}
use Rattle.core_word.proofs.steps.take_result_slot.Goals as goal

pub load-requires : goal.load-requires
load-requires g c =
    let home = c.requires.home in (
      c.requires.ready.of_home,
      omega (arith, home.words),
      takes_result_slot _ _ _ _ _ c.requires.ready.stands,
    )
