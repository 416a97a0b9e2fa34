use Rattle.std.proofs.Common.{length, length-append, ap, arith}
use Rattle.pool_runs.proofs.Draining.{drained_more}
use Rattle.pool_runs.proofs.returned.drain.Goals as goal

pub loop-next-preserved : goal.loop-next-preserved
loop-next-preserved g c =
    let i = c.loop-next.invariant in
    let r = c.run_task-made.ensures in
    record {
      so_far = drained_more g.J.Headed.head g.J.Job.runs _ _ c.take.new.self _ _ c.push.new.self _ _ c.run_task-made.new.world c.in-Some.next.0 c.in-Some.next.1 i.so_far c.in-Some.ensures r c.push.ensures;
      count = omega (arith, i.count, ap length c.in-Some.ensures, ap length c.push.ensures, ap length r.only, length-append c.loop-next.records c.run_task-made.result);
    }
