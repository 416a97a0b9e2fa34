use Rattle.std.proofs.Common.{take}
use Rattle.shard_index.proofs.IndexLemmas.{count-having}
use Rattle.shard_index.proofs.index.Index.count_with.Goals as goal

pub returns : goal.returns
returns c = λ docs stands. count-having c.args.word.now (take c.args.front docs) c.places_with.result.now (c.places_with.ensures docs stands)
