use Rattle.std.proofs.Common.{refl, Some}
use Rattle.core_state.specs.declared.table.State.TheVariants as state
use Rattle.core_word.specs.declared.view.Item.TheVariants as item
use Rattle.core_word.specs.Plays.{consumer_aware}
use Rattle.core_word.proofs.Owing.{sits_by_view}
use Rattle.core_word.proofs.consumer.Consumer.set.Goals as goal

pub demand_result-request-requires-clause-aware : goal.demand_result-request-requires-clause-aware
demand_result-request-requires-clause-aware g c =
    (record { callback = c.args.callback; inline = c.args.inline }, sits_by_view _ _ (λ n. consumer_aware n state.OnlyResult (Some (item.Callback record { callback = c.args.callback; inline = c.args.inline }))) (λ n. refl) _ (c.in-OnlyResult.ensures.aware (λ e. cc)))

pub demand_proxy-request-requires-clause-aware : goal.demand_proxy-request-requires-clause-aware
demand_proxy-request-requires-clause-aware g c =
    (record { callback = c.args.callback; inline = c.args.inline }, sits_by_view _ _ (λ n. consumer_aware n state.Proxy (Some (item.Callback record { callback = c.args.callback; inline = c.args.inline }))) (λ n. refl) _ (c.in-Proxy.ensures.aware (λ e. cc)))
