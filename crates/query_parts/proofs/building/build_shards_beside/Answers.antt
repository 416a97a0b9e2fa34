use Rattle.std.proofs.Common.{List, length, ap, sym, subst, arith}
use Rattle.std.proofs.lemmas.List.{length-append}
use Rattle.shard_index.specs.declared.shard.Shard.{Shard}
use Rattle.query_parts.specs.Parts.{StandFrom}
use Rattle.query_parts.proofs.BuildLemmas.{all-stand, stand-more}
use Rattle.query_parts.proofs.building.build_shards_beside.Goals as goal

pub first-preserved : goal.first-preserved
first-preserved g c =
    let before = c.first.all.items in
    let more = c.in_ok-more.more.items in
    record {
      within = omega (arith, c.min-count.ensures, c.first.invariant.within, c.first-test.true);
      many = omega (arith, ap length c.in_ok-put_behind.ensures, length-append before more, c.first.invariant.many, c.in_ok-more.ensures.many);
      stand = λ docs is. subst (λ (all : List Shard). StandFrom all docs c.args.shards 0) (sym c.in_ok-put_behind.ensures)
          (stand-more docs c.args.shards c.first.first before more c.first.invariant.many (c.first.invariant.stand docs is) (c.in_ok-more.ensures.stand docs is));
    }

pub returns-clause-shards : goal.returns-clause-shards
returns-clause-shards g c = λ docs is.
    all-stand docs c.args.shards c.first.all.items (omega (arith, c.first.invariant.many, c.first.invariant.within, c.first-test.false)) c.requires.some
    (omega (arith, ap length is.docs_are, ap length c.requires.table.1.docs_are, c.requires.table.2)) (c.first.invariant.stand docs is)
