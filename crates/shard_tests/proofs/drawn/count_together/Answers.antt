use Rattle.std.proofs.Common.{◌<◌, sym, subst}
use Rattle.shard_index.specs.declared.shard.Shard.{Shard}
use Rattle.shard_index.specs.Standing.{StandsFor, how_many}
use Rattle.shard_tests.proofs.drawn.count_together.Goals as goal

pub count-requires : goal.count-requires
count-requires g c =
    let docs = c.args.plain.now.docs in
    let number = c.loop-shard.shard-index in
    let low = subst (λ n. number < n) c.as_slice-shard-items.ensures.many c.loop-shard-test.true in
    record {
      docs = docs;
      shards = how_many c.args.shards.now;
      number = number;
      stands = subst (λ (s : Shard). StandsFor s docs (how_many c.args.shards.now) number) (sym c.shard-item.is) (c.as_slice-shard-items.ensures.each docs c.requires number c.shard-item.result low);
    }
