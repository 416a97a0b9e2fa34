use Rattle.std.proofs.Common.{ap, ◌∙◌, arith}
use Rattle.core_state.specs.Table.{code_of}
use Rattle.core_word.proofs.Owing.{head_rest}
use Rattle.core_word.proofs.Setting.{sets_result_second}
use Rattle.core_word.proofs.steps.set_second_result.Goals as goal

pub compare_exchange-requires : goal.compare_exchange-requires
compare_exchange-requires g c =
    let home = c.requires.home in
    let aware = c.requires.aware in (
      aware.1.of_home,
      omega (arith, home.words),
      sets_result_second _ _ _ _ _ _ aware.0 _ _ (c.code-waiting.ensures ∙ ap code_of c.waiting_with.ensures) c.code-done.ensures aware.1.stands,
    )

pub take_callback-request-requires : goal.take_callback-request-requires
take_callback-request-requires g c =
    let taken = c.compare_exchange.ensures.2 in
    (c.compare_exchange.ensures.0 ∙ c.requires.aware.1.of_home, (taken.0, head_rest _ _ _ (ap (λ m. m.1) taken.1)))
