use Rattle.shard_index.proofs.NarrowLemmas.{stand-where}
use Rattle.shard_index.proofs.selection.without.Goals as goal

pub returns : goal.returns
returns c = λ p q docs first second. c.narrow.ensures p q docs first (stand-where q docs c.args.b.now second)
