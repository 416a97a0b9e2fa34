use Rattle.fan_parts.proofs.Fires.{got_by_forward}
use Rattle.fan_parts.proofs.awaited.forward_awaited.Goals as goal

pub free_last-requires-clause-got : goal.free_last-requires-clause-got
free_last-requires-clause-got g c =
    let set = c.set_proxy-passed in
    got_by_forward set.result.1.found set.result.1.got c.args.producer.no _ set.result.0 c.in-Forward.forward set.ensures.answer c.in-Forward.is
