use Rattle.std.proofs.Common.{arith}
use Rattle.core_word.proofs.Beginning.{begins}
use Rattle.core_word.proofs.home.Key.start.Goals as goal

pub split_seat-other-requires : goal.split_seat-other-requires
split_seat-other-requires g c =
    let home = c.self.invariant.0 in
    let sits = c.self.invariant.1 in (
      sits.of_home,
      omega (arith, home.words),
      begins _ _ _ sits.stands,
    )
