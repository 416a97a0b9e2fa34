use Rattle.std.proofs.Common.{rules}
use Rattle.query_tasks.specs.Starting.{runs_for}
use Rattle.run_tasks.proofs.WorldLemmas.{follows-on}
use Rattle.query_tasks.proofs.Loops.{made_ran, on_err, one_more_ran, one_more_told, ran_some, told_some}
use Rattle.query_tasks.proofs.here.run_tasks_here.Goals as goal

pub returns-in_err-push-clause-some : goal.returns-in_err-push-clause-some
returns-in_err-push-clause-some g c =
    on_err _ (ran_some c.loop-shard.world c.run_task_here-record.new.world c.args.direct.now
    (runs_for g.N.RunName.asked c.args.ask.now c.args.queue c.args.front) c.args.shards
    c.loop-shard.shard c.loop-shard.direct c.push.new.self c.loop-shard-test.true c.loop-shard.invariant.direct
    c.run_task_here-record.ensures.follows (search rules))

pub returns-in_err-push-clause-told_some : goal.returns-in_err-push-clause-told_some
returns-in_err-push-clause-told_some g c =
    on_err _ (told_some c.args.direct.now (runs_for g.N.RunName.asked c.args.ask.now c.args.queue c.args.front) c.args.shards
    c.loop-shard.shard c.loop-shard.direct c.push.new.self c.loop-shard-test.true c.loop-shard.invariant.told (search rules))

pub loop-shard-preserved : goal.loop-shard-preserved
loop-shard-preserved g c = record {
  follows = follows-on _ _ _ c.loop-shard.invariant.follows c.run_task_here-record.ensures.follows;
  direct = one_more_ran g.N.RunName.asked c.args.ask.now c.args.queue c.args.front c.loop-shard.shard
      c.loop-shard.world c.run_task_here-record.new.world c.args.direct.now c.loop-shard.direct c.push.new.self c.run_task_here-record.result
      c.loop-shard.invariant.direct c.run_task_here-record.ensures.follows (search rules) (search rules);
  told = λ before tell. one_more_told g.N.RunName.asked c.args.ask.now c.args.queue c.args.front c.loop-shard.shard before c.loop-shard.direct c.push.new.self
      c.run_task_here-record.result (c.loop-shard.invariant.told before tell) (search rules) (search rules);
  made = λ n has. made_ran n c.run_task_here-record.new.world c.loop-shard.direct c.push.new.self c.run_task_here-record.result (search rules)
      (c.run_task_here-record.ensures.made _ (c.loop-shard.invariant.made n has));
}
