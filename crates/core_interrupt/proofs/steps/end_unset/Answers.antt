use Rattle.std.proofs.Common.{◌∙◌, arith}
use Rattle.core_interrupt.proofs.Slots.{filled}
use Rattle.core_interrupt.proofs.HearerSteps.{ends_unset_allowed, gives_object_allowed}
use Rattle.core_interrupt.proofs.steps.end_unset.Goals as goal

pub swap-found-requires : goal.swap-found-requires
swap-found-requires g c =
    let home = c.requires.home in (
      c.requires.ready.of_home,
      omega (arith, home.words),
      ends_unset_allowed _ _ _ _ c.code-ended.ensures c.requires.ready.stands,
    )

pub load-requires : goal.load-requires
load-requires g c =
    let home = c.requires.home in
    let got = c.swap-found.ensures.2.0 (c.if-found-code.false ∙ c.code.ensures) in (
      c.take_object-object.ensures.sits.of_home,
      omega (arith, home.words),
      gives_object_allowed _ _ got.0 _ (filled _ _ _ _ _ _ c.take_object-object.ensures.sits.stands got.1),
    )
