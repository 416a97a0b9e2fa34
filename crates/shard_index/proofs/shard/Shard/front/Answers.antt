use Rattle.std.proofs.Common.{◌≡◌, ◌+◌, ◌-◌, ◌/◌, ◌%◌, ap, min, ◌∙◌}
use Rattle.query_model.specs.Parts.{part_of}
use Rattle.shard_index.proofs.PartLemmas.{front-is}
use Rattle.shard_index.proofs.shard.Shard.front.Goals as goal

pub returns-clause-front : goal.returns-clause-front
returns-clause-front c = λ docs shards number stands.
    let behind : c.saturating_sub-behind.result ≡ c.args.before - number = c.saturating_sub-behind.ensures ∙ ap (λ n. c.args.before - n) stands.number_is in
    front-is docs shards number c.args.before c.div_ceil.result c.min.result stands.within c.part_is_told_by_places.ensures
    (c.div_ceil.ensures ∙ (λ i. behind i / stands.shards_are i + min 1 (behind i % stands.shards_are i)))
    (c.min.ensures ∙ ap (λ n. min c.div_ceil.result n) (c.len.ensures (part_of docs shards number) stands.indexes))
