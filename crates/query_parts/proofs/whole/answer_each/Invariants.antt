use Rattle.std.proofs.Common.{◌≡◌, List, length}
use Rattle.fan_base.specs.declared.doc.Doc.{Doc}
use Rattle.query_model.specs.Parts.{part_before}
use Rattle.shard_index.specs.Parts.{by_shard}
use Rattle.query_parts.specs.Parts.{AreShards, part_answer}
use Rattle.query_parts.proofs.whole.answer_each.Given as goal

abbrev pub invariant-loop-shard : goal.invariant-loop-shard
invariant-loop-shard l = (docs : List Doc) → AreShards l.shards docs →
    l.parts.items ≡ by_shard (λ number. part_answer l.ask (part_before docs (length l.shards) number l.before)) l.shard-index
