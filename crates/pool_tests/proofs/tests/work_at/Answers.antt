use Rattle.std.proofs.Common.{◌≡◌, IfSome, None}
use Rattle.pool_model.specs.Seen.{WorkerSeen, EndSeen}
use Rattle.pool_tests.specs.declared.tests.Slot.{Slot}
use Rattle.pool_tests.proofs.Lists.{one_has}
use Rattle.pool_tests.proofs.tests.work_at.Goals as goal

pub work-requires-clause-pass : goal.work-requires-clause-pass
work-requires-clause-pass g c κs within =
    let HasPass : Slot WorkerSeen EndSeen → Type 0 = λ s. IfSome s.pass (λ p. p.pool ≡ c.args.pool.now.id) in
    one_has HasPass c.args.workers.items c.only_of-worker.result c.only_of-worker.ensures c.requires.workers

pub work-requires-clause-end : goal.work-requires-clause-end
work-requires-clause-end g c κs within =
    let HasNoEnd : Slot WorkerSeen EndSeen → Type 0 = λ s. s.end ≡ None in
    one_has HasNoEnd c.args.workers.items c.only_of-worker.result c.only_of-worker.ensures c.requires.ends
