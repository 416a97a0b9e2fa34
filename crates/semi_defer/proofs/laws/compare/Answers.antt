use Rattle.std.proofs.Common.{ap, ◌∙◌, arith}
use Rattle.semi_defer.specs.Steps.{Standing}
use Rattle.semi_defer.proofs.Beginning.{joins_allowed, looks_allowed}
use Rattle.semi_defer.proofs.laws.compare.Goals as goal

pub join_seat-requires : goal.join_seat-requires
join_seat-requires g c =
    let home = c.requires.home in
    let adder = c.requires.adder.1 in
    let holder = c.requires.holder.1 in (
      adder.of_home,
      holder.of_home,
      ap (λ (m : Standing _). m.1) holder.stands,
      omega (arith, home.words),
      joins_allowed _ _ _ _ _ _ (ap (λ (m : Standing _). m.0) adder.stands) (ap (λ (m : Standing _). m.0) holder.stands),
    )

pub load-requires : goal.load-requires
load-requires g c =
    let home = c.requires.home in
    let adder = c.requires.adder.1 in
    let holder = c.requires.holder.1 in (
      c.join_seat.ensures.0 ∙ adder.of_home,
      omega (arith, home.words),
      looks_allowed _ _ _ _ _ _ _ _ (ap (λ (m : Standing _). m.0) adder.stands) (ap (λ (m : Standing _). m.0) holder.stands) c.join_seat.ensures.2,
    )
