use Rattle.std.proofs.Common.{ap, ◌∙◌}
use Rattle.run_gathering.specs.Seen.{GatheringSeen}
use Rattle.run_gathering.proofs.Looped.{came_to, holds_nothing}
use Rattle.run_gathering.proofs.looping.gather.Goals as goal

pub returns-clause-did : goal.returns-clause-did
returns-clause-did g c =
    came_to c.args.base c.until_closed.new.base c.args.printer c.into_parts-printer.result.0 c.new-world.result c.until_closed.new.world c.end.result c.into_parts-printer.result.1 c.into_parts-printer.result.2
    c.until_closed.new.world.waiting c.new-world.ensures c.until_closed.ensures.did c.into_parts-printer.ensures c.end.ensures.end
    (λ calm. (c.until_closed.ensures.closed (ap (λ (w : GatheringSeen g.row.N.Denot). w.refused) c.into_parts-printer.ensures ∙ calm)).1)

pub returns-clause-empty : goal.returns-clause-empty
returns-clause-empty g c = λ calm.
    let closed = c.until_closed.ensures.closed (ap (λ (w : GatheringSeen g.row.N.Denot). w.refused) c.into_parts-printer.ensures ∙ calm) in
    holds_nothing c.until_closed.new.base.agenda closed.1 c.until_closed.ensures.did.holds.timers
