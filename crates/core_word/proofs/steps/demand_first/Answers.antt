use Rattle.std.proofs.Common.{ap, ◌∙◌, arith}
use Rattle.core_state.specs.Table.{code_of}
use Rattle.core_word.proofs.Owing.{filled}
use Rattle.core_word.proofs.Demanding.{looks_at_first, demands_at_first}
use Rattle.core_word.proofs.steps.demand_first.Goals as goal

pub load-seen-requires : goal.load-seen-requires
load-seen-requires g c =
    let home = c.requires.home in (
      c.put.ensures.of_home,
      omega (arith, home.words),
      looks_at_first _ _ _ _ _ (filled _ _ _ _ _ _ c.put.ensures.stands c.requires.holding.stands),
    )

pub compare_exchange-found-requires : goal.compare_exchange-found-requires
compare_exchange-found-requires g c =
    let home = c.requires.home in
    let still = c.load-seen.ensures.2.0 (c.if-seen-start.false ∙ c.code-start.ensures) in (
      c.load-seen.ensures.0 ∙ c.put.ensures.of_home,
      omega (arith, home.words),
      demands_at_first _ _ _ _ _ _ _ c.code-start.ensures (c.code-waiting.ensures ∙ ap code_of c.waiting_with.ensures) (still ∙ filled _ _ _ _ _ _ c.put.ensures.stands c.requires.holding.stands),
    )
