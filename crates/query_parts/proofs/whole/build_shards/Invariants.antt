use Rattle.std.proofs.Common.{◌≡◌, ℕ, ◌<◌, length, get_or}
use Rattle.shard_index.specs.declared.shard.Shard.{Shard}
use Rattle.shard_index.specs.Standing.{StandsFor}
use Rattle.query_parts.proofs.whole.build_shards.Given as goal

abbrev pub invariant-loop-number : goal.invariant-loop-number
invariant-loop-number l = record {
  many : length l.all.items ≡ l.number;
  each : (number : ℕ) (shard : Shard) → number < length l.all.items → StandsFor (get_or l.all.items number shard) l.docs l.shards number;
}
