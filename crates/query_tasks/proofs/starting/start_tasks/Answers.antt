use Rattle.std.proofs.Common.{rules, ℤ, w8, subst, arith}
use Rattle.std.proofs.lemmas.Int.{to_z-of_z}
use Rattle.prio_pool.specs.Priority.{queue_in}
use Rattle.query_tasks.specs.Starting.{HasAddedSome, adds_for}
use Rattle.query_tasks.proofs.Helping.{helped_more}
use Rattle.query_tasks.proofs.Loops.{added_some, count_added, on_err, one_more_added}
use Rattle.query_tasks.proofs.starting.start_tasks.Goals as goal

pub start_task-requires-clause-room : goal.start_task-requires-clause-room
start_task-requires-clause-room g c κs within =
    let so_far = count_added g.N.RunName.asked c.args.ask.now _ c.loop-shard.shard c.args.adder.now c.loop-shard.adder
    c.loop-shard.invariant.added in
    omega (arith, so_far, c.requires.room, c.loop-shard-test.true)

pub returns-in_err-start_task-clause-helped : goal.returns-in_err-start_task-clause-helped
returns-in_err-start_task-clause-helped g c = helped_more _ _ _ _ _ _ c.loop-shard.invariant.helped c.start_task.ensures.helped

pub returns-in_err-start_task-clause-some : goal.returns-in_err-start_task-clause-some
returns-in_err-start_task-clause-some g c =
    let some = added_some c.args.adder.now (adds_for g.N.RunName.asked c.args.ask.now _) c.args.shards c.loop-shard.shard
    c.loop-shard.adder c.start_task.new.adder c.loop-shard-test.true c.loop-shard.invariant.added (search rules) in
    on_err _ (subst
    (λ (z : ℤ). HasAddedSome c.args.adder.now (adds_for g.N.RunName.asked c.args.ask.now (queue_in c.args.pool.now.id z)) c.args.shards
    c.start_task.new.adder)
    (to_z-of_z w8 c.args.priority c.ranges.priority) some)

pub loop-shard-preserved : goal.loop-shard-preserved
loop-shard-preserved g c = record {
  helped = helped_more _ _ _ _ _ _ c.loop-shard.invariant.helped c.start_task.ensures.helped;
  added = one_more_added g.N.RunName.asked c.args.ask.now _ c.loop-shard.shard
      c.args.adder.now c.loop-shard.adder c.start_task.new.adder c.loop-shard.invariant.added (search rules);
  made = λ has. c.start_task.ensures.made (c.loop-shard.invariant.made has);
}
