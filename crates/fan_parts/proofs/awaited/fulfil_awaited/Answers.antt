use Rattle.fan_parts.proofs.Fires.{got_by_fire}
use Rattle.fan_parts.proofs.awaited.fulfil_awaited.Goals as goal

pub free_last-requires-clause-got : goal.free_last-requires-clause-got
free_last-requires-clause-got g c =
    let set = c.set_result-landed in
    got_by_fire set.result.1.found set.result.1.got c.args.producer.no c.args.outcome set.result.0 c.in-Fire.fire set.ensures.answer c.in-Fire.is
