use Rattle.fan_base.specs.Outside.{shown}
use Rattle.folly_query.proofs.answer.answer_named.Goals as goal

pub returns-in-Err : goal.returns-in-Err
returns-in-Err g c = c.refused.ensures g.N.RunName.asked (shown (g.K.Sink.holds c.args.sink.now) (g.K.Sink.faults c.args.sink.now))
