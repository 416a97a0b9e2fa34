use Rattle.std.proofs.Common.{refl, Some}
use Rattle.core_word.specs.declared.view.Item.TheVariants as item
use Rattle.core_word.specs.declared.view.ProducerSlot.TheVariants as slot
use Rattle.core_word.specs.Plays.{producer_aware}
use Rattle.core_word.proofs.Owing.{sits_by_both}
use Rattle.core_word.proofs.producer.Producer.set_result.Goals as goal

pub set_second_result-outcome-requires-clause-aware : goal.set_second_result-outcome-requires-clause-aware
set_second_result-outcome-requires-clause-aware g c =
    (c.args.outcome, sits_by_both _ _ (λ n y. producer_aware n y slot.Result c.in-Some.inline (Some (item.Outcome c.args.outcome))) (λ n y. (refl, refl)) _ _ (c.set_first_result.ensures.aware c.in-Some.inline c.in-Some.is))
