use Rattle.pool_tests.proofs.Lists.{all_ended}
use Rattle.pool_tests.proofs.tests.threads.end_beside.Goals as goal

pub end_pool-left-requires-clause-ends : goal.end_pool-left-requires-clause-ends
end_pool-left-requires-clause-ends g c =
    let ended = c.all_ends-ends in
    all_ended (λ s. s.end) c.args.pool.id c.args.pool.workers c.args.workers.items ended.result.items c.requires.ends ended.ensures.ends ended.ensures.count c.requires.count
