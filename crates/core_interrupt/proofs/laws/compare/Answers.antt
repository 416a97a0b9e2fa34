use Rattle.std.proofs.Common.{ap, ◌∙◌, arith}
use Rattle.core_interrupt.specs.Steps.{Standing}
use Rattle.core_interrupt.proofs.Beginning.{joins_allowed, looks_allowed}
use Rattle.core_interrupt.proofs.laws.compare.Goals as goal

pub join_seat-requires : goal.join_seat-requires
join_seat-requires g c =
    let home = c.requires.home in
    let hearer = c.requires.hearer.1 in
    let raiser = c.requires.raiser.1 in (
      hearer.of_home,
      raiser.of_home,
      ap (λ (m : Standing _ _). m.1) raiser.stands,
      omega (arith, home.words),
      joins_allowed _ _ _ _ _ _ (ap (λ (m : Standing _ _). m.0) hearer.stands) (ap (λ (m : Standing _ _). m.0) raiser.stands),
    )

pub load-requires : goal.load-requires
load-requires g c =
    let home = c.requires.home in
    let hearer = c.requires.hearer.1 in
    let raiser = c.requires.raiser.1 in (
      c.join_seat.ensures.0 ∙ hearer.of_home,
      omega (arith, home.words),
      looks_allowed _ _ _ _ _ _ _ _ (ap (λ (m : Standing _ _). m.0) hearer.stands) (ap (λ (m : Standing _ _). m.0) raiser.stands) c.join_seat.ensures.2,
    )
