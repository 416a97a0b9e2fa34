use Rattle.queue_tests.proofs.Crossings.{crossing}
use Rattle.queue_tests.proofs.tests.all_that_was_put_comes_before_none.Goals as goal

pub join_mut-requires-send-F : goal.join_mut-requires-send-F
join_mut-requires-send-F c κs within = search (crossing) depth 60 fits 20000
