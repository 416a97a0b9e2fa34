use Rattle.shard_index.proofs.FrontLemmas.{whole-front}
use Rattle.shard_index.proofs.front.below.Goals as goal

pub returns-then-whole : goal.returns-then-whole
returns-then-whole c = λ parted.
    whole-front c.args.front c.args.places.now parted (c.end_below-whole.ensures.some c.if-whole.true) (c.end_below-whole.ensures.last c.if-whole.true)
