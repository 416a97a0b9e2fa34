use Rattle.std.proofs.Common.{arith}
use Rattle.core_word.proofs.Reopening.{sets_state_back}
use Rattle.core_word.proofs.steps.set_back.Goals as goal

pub swap-requires : goal.swap-requires
swap-requires g c =
    let home = c.requires.home in (
      c.requires.husk.of_home,
      omega (arith, home.words),
      sets_state_back _ _ _ _ _ _ _ c.code-start.ensures c.requires.husk.stands,
    )
