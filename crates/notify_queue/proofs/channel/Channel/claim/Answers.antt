use Rattle.std.proofs.Common.{◌≡◌, ◌∙◌}
use Rattle.notify_queue.proofs.Deliveries.{pops_many, shows, admits}
use Rattle.notify_queue.proofs.channel.Channel.claim.Goals as goal

pub try_pop_batch-requires-clause-rule : goal.try_pop_batch-requires-clause-rule
try_pop_batch-requires-clause-rule g c =
    let id : c.head-head.new.pass.id ≡ 0 = c.head-head.ensures.0.2 ∙ c.loop.invariant.pass_of.1 in
    rw id ((λ n some few. pops_many _ n), shows _, admits)
