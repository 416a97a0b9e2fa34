use Rattle.std.proofs.Common.{◌≡◌, List, length}
use Rattle.fan_base.specs.declared.doc.Doc.{Doc}
use Rattle.query_model.specs.Answers.{hits_of}
use Rattle.query_model.specs.Parts.{part_before}
use Rattle.shard_index.specs.Parts.{by_shard}
use Rattle.shard_index.specs.Standing.{StandForAll}
use Rattle.shard_index.proofs.shards.Shards.find_in_each.Given as goal

abbrev pub invariant-loop-number : goal.invariant-loop-number
invariant-loop-number l = (docs : List Doc) → StandForAll l.self docs → l.parts.items ≡ by_shard (λ number. hits_of l.e (part_before docs (length l.self.shards.items) number l.before)) l.number
