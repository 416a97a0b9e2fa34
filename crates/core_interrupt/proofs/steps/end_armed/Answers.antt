use Rattle.std.proofs.Common.{◌∙◌, arith}
use Rattle.core_interrupt.proofs.Slots.{filled}
use Rattle.core_interrupt.proofs.HearerSteps.{ends_armed_allowed, gives_handler_allowed}
use Rattle.core_interrupt.proofs.steps.end_armed.Goals as goal

pub swap-found-requires : goal.swap-found-requires
swap-found-requires g c =
    let home = c.requires.home in
    let sits = c.requires.armed.2 in (
      sits.of_home,
      omega (arith, home.words),
      ends_armed_allowed _ _ _ c.requires.armed.0 c.requires.armed.1 _ c.code-ended.ensures sits.stands,
    )

pub load-requires : goal.load-requires
load-requires g c =
    let home = c.requires.home in
    let got = c.swap-found.ensures.2.0 (c.if-found-code.false ∙ c.code.ensures) in (
      c.take_handler-handler.ensures.sits.of_home,
      omega (arith, home.words),
      gives_handler_allowed _ _ got.0 _ (filled _ _ _ _ _ _ c.take_handler-handler.ensures.sits.stands got.2),
    )
