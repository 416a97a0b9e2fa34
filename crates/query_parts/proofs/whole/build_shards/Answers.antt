use Rattle.std.proofs.Common.{◌≡◌, ℕ, length, get_or, ap, sym, subst, arith}
use Rattle.std.proofs.lemmas.List.{length_push}
use Rattle.shard_index.specs.Standing.{StandsFor}
use Rattle.shard_index.proofs.PartLemmas.{shards-push}
use Rattle.query_parts.proofs.whole.build_shards.Goals as goal

pub loop-number-preserved : goal.loop-number-preserved
loop-number-preserved c = record {
  many = omega (arith, ap length c.in_ok-push.ensures, length_push c.loop-number.all.items c.in_ok-shard.shard, c.loop-number.invariant.many);
  each = shards-push c.loop-number.all.items c.push.new.items.items c.in_ok-shard.shard c.args.docs.now c.args.shards c.loop-number.number c.in_ok-push.ensures c.loop-number.invariant.many
      c.in_ok-shard.ensures c.loop-number.invariant.each;
}

pub returns-clause-shards : goal.returns-clause-shards
returns-clause-shards c =
    let all = c.loop-number.all.items in
    let many : length all ≡ c.args.shards = omega (arith, c.loop-number.invariant.many, c.loop-number-test.false, c.loop-number.auto.number-end) in
    record {
      some = omega (arith, many, c.requires.some);
      few = omega (arith, c.requires.few);
      each = λ number shard low. subst (λ (k : ℕ). StandsFor (get_or all number shard) c.args.docs.now k number) (sym many) (c.loop-number.invariant.each number shard low);
    }
