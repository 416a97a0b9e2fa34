use Rattle.std.proofs.Common.{arith}
use Rattle.core_word.proofs.Demanding.{takes_the_callback_slot}
use Rattle.core_word.proofs.steps.take_callback_slot.Goals as goal

pub load-requires : goal.load-requires
load-requires g c =
    let home = c.requires.home in (
      c.requires.ready.of_home,
      omega (arith, home.words),
      takes_the_callback_slot _ _ _ _ c.requires.ready.stands,
    )
