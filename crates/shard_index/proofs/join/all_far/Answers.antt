use Rattle.shard_index.proofs.JoinLemmas.{joined}
use Rattle.shard_index.proofs.NarrowLemmas.{ascend-where}
use Rattle.shard_index.proofs.RunLemmas.{run-end, step-run}
use Rattle.shard_index.proofs.join.all_far.Goals as goal

pub loop-place-preserved : goal.loop-place-preserved
loop-place-preserved c = record {
  within = c.behind-at.ensures.within;
  kept = λ ascend. step-run c.args.few.now c.args.many.now c.loop-place.kept.items c.extend_from_slice.new.self.items c.push.new.self.items (joined c.args.few.now c.args.many.now)
      c.loop-place.place-index c.loop-place.at c.first_far-end.result c.behind-at.result ascend c.loop-place-test.true c.first_far-end.ensures.order c.first_far-end.ensures.within
      c.first_far-end.ensures.front c.first_far-end.ensures.behind c.behind-at.ensures.value (c.loop-place.invariant.kept ascend)
      c.in_ok-extend_from_slice.ensures.items c.in_ok-push.ensures.items;
}

pub returns : goal.returns
returns c = λ p q docs first second.
    run-end p q docs c.args.few.now c.args.many.now c.loop-place.kept.items c.extend_from_slice-2.new.self.items c.loop-place.place-index c.loop-place.at c.loop-place-test.false first second
    (c.loop-place.invariant.kept (ascend-where q docs c.args.many.now second)) c.in_ok-extend_from_slice-2.ensures.items
