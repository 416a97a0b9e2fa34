use Rattle.std.proofs.Common.{List, get_or, sym, subst}
use Rattle.shard_index.specs.declared.shard.Shard.{Shard}
use Rattle.shard_index.specs.Standing.{StandsFor, how_many}
use Rattle.shard_index.proofs.shards.Shards.as_slice.Goals as goal

pub returns-clause-each : goal.returns-clause-each
returns-clause-each c = λ docs stand number shard low.
    subst (λ (ss : List Shard). StandsFor (get_or ss number shard) docs (how_many c.args.self.now) number) (sym c.as_slice.ensures.value) (stand.each number shard low)
