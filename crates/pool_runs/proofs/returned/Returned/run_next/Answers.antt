use Rattle.pool_runs.proofs.Handing.{run_back}
use Rattle.pool_runs.proofs.returned.Returned.run_next.Goals as goal

pub returns : goal.returns
returns g c =
    let made = c.run_task-made.ensures in
    run_back g.J.Headed.head g.J.Job.runs c.into_record.result made.entry c.run_task-made.result c.args.self.now c.take.new.self c.in_ok-queue.queue c.in_ok-queue.task c.args.world.now c.run_task-made.new.world
    made.only c.into_record.ensures c.in_ok-queue.ensures made.is made.ran
