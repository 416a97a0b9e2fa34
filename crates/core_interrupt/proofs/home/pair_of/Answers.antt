use Rattle.std.proofs.Common.{ap, arith}
use Rattle.core_interrupt.specs.Steps.{Standing}
use Rattle.core_interrupt.proofs.Beginning.{pairs_allowed}
use Rattle.core_interrupt.proofs.home.pair_of.Goals as goal

pub split_seat-other-requires : goal.split_seat-other-requires
split_seat-other-requires g c =
    let home = c.requires.home in (
      c.requires.maker.of_home,
      omega (arith, home.words),
      pairs_allowed _ _ (ap (λ (m : Standing _ _). m.0) c.requires.maker.stands),
    )
