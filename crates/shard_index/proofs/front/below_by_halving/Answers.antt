use Rattle.std.proofs.Common.{ltb, rules, of_calls}
use Rattle.std.proofs.lemmas.Fn.{always_returns_same}
use Rattle.shard_index.proofs.FrontLemmas.{end-is}
use Rattle.shard_index.proofs.PlaceLemmas.{front-is}
use Rattle.shard_index.proofs.front.below_by_halving.Goals as goal

pub returns : goal.returns
returns c = λ parted.
    let key = always_returns_same _ _ _ (λ a r f k. search (rules, of_calls)) in
    let ends = end-is c.args.front c.partition_point-end.result c.args.places.now (c.partition_point-end.ensures.partitioned (λ place. ltb place c.args.front) key parted) in
    front-is c.args.front c.partition_point-end.result c.args.places.now c.partition_point-end.ensures.bound ends.0 ends.1
