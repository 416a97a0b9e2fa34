use Rattle.std.proofs.Common.{refl, Some}
use Rattle.core_word.specs.declared.view.Item.TheVariants as item
use Rattle.core_word.specs.declared.view.ProducerSlot.TheVariants as slot
use Rattle.core_word.specs.Plays.{producer_aware}
use Rattle.core_word.proofs.Owing.{sits_by_both}
use Rattle.core_word.proofs.producer.Producer.set_proxy.Goals as goal

pub set_second_proxy-proxy-requires-clause-aware : goal.set_second_proxy-proxy-requires-clause-aware
set_second_proxy-proxy-requires-clause-aware g c =
    (c.args.to, sits_by_both _ _ (λ n y. producer_aware n y slot.Proxy c.in-Some.inline (Some (item.Proxy c.args.to))) (λ n y. (refl, refl)) _ _ (c.set_first_proxy.ensures.aware c.in-Some.inline c.in-Some.is))
