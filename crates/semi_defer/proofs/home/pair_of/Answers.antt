use Rattle.std.proofs.Common.{ap, arith}
use Rattle.semi_defer.specs.Steps.{Standing}
use Rattle.semi_defer.proofs.Beginning.{pairs_allowed}
use Rattle.semi_defer.proofs.home.pair_of.Goals as goal

pub split_seat-other-requires : goal.split_seat-other-requires
split_seat-other-requires g c =
    let home = c.requires.home in (
      c.requires.maker.of_home,
      omega (arith, home.words),
      pairs_allowed _ _ (ap (λ (m : Standing _). m.0) c.requires.maker.stands),
    )
