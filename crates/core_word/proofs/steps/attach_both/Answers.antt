use Rattle.std.proofs.Common.{arith}
use Rattle.core_word.proofs.Reopening.{attaches_both}
use Rattle.core_word.proofs.steps.attach_both.Goals as goal

pub swap-requires : goal.swap-requires
swap-requires g c =
    let home = c.requires.home in (
      c.requires.back.of_home,
      omega (arith, home.words),
      attaches_both _ _ _ _ c.requires.back.stands,
    )
