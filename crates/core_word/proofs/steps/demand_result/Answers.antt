use Rattle.std.proofs.Common.{◌∙◌, arith}
use Rattle.core_word.proofs.Demanding.{demands_the_result, then_callback}
use Rattle.core_word.proofs.steps.demand_result.Goals as goal

pub compare_exchange-requires : goal.compare_exchange-requires
compare_exchange-requires g c =
    let home = c.requires.home in
    let aware = c.requires.aware in (
      aware.1.of_home,
      omega (arith, home.words),
      demands_the_result _ _ _ _ _ aware.0 _ c.code-only_result.ensures c.code-done.ensures aware.1.stands,
    )

pub take_callback-request-requires : goal.take_callback-request-requires
take_callback-request-requires g c =
    let aware = c.requires.aware in
    let taken = c.compare_exchange.ensures.2 in
    (c.turn.ensures.0 ∙ c.take_outcome-outcome.ensures.sits.of_home, (aware.0, then_callback _ _ _ _ _ _ _ _ _ taken.1 aware.1.stands c.take_outcome-outcome.ensures.sits.stands c.turn.ensures.2))
