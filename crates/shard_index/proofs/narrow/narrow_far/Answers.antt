use Rattle.std.proofs.Common.{◌≡◌, ◌++◌, ◌∷◌, [], Bool, cond, get_or, subst}
use Rattle.shard_index.proofs.NarrowLemmas.{ascend-where, kept-more, kept-where}
use Rattle.shard_index.proofs.narrow.narrow_far.Goals as goal

pub loop-place-preserved : goal.loop-place-preserved
loop-place-preserved c = record {
  within = c.first_far-at.ensures.within;
  kept = λ ascend parted. kept-more c.args.places.now c.args.others.now c.loop-place.kept.items c.push_if.new.kept.items c.args.wanted c.is_at-has.result c.loop-place.place-index
      c.loop-place.at c.first_far-at.result ascend parted (c.loop-place.invariant.kept ascend parted) c.loop-place-test.true c.first_far-at.ensures.order c.first_far-at.ensures.within
      c.first_far-at.ensures.front c.first_far-at.ensures.behind c.is_at-has.ensures (subst (λ (b : Bool). c.push_if.new.kept.items ≡ c.loop-place.kept.items ++ cond b (get_or c.args.places.now c.loop-place.place-index 0 ∷ []) []) c.is_kept.ensures c.in_ok-push_if.ensures);
}

pub returns : goal.returns
returns c = λ p q docs are stand.
    kept-where c.args.places.now c.args.others.now c.loop-place.kept.items c.args.wanted c.loop-place.place-index c.loop-place.at p q docs c.loop-place-test.false
    (c.loop-place.invariant.kept (ascend-where p docs c.args.places.now are) stand.parted) are stand
