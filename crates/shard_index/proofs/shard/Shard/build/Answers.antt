use Rattle.std.proofs.Common.{List, length, refl, ap, sym, subst, ◌∙◌, arith}
use Rattle.fan_base.specs.declared.doc.Doc.{Doc}
use Rattle.query_model.specs.Parts.{part_of}
use Rattle.shard_index.specs.Standing.{AreShort, Indexes}
use Rattle.shard_index.proofs.PartLemmas.{part-few}
use Rattle.shard_index.proofs.TableLemmas.{part-one, part-short}
use Rattle.shard_index.proofs.shard.Shard.build.Goals as goal

pub index_of_part-requires-clause-table : goal.index_of_part-requires-clause-table
index_of_part-requires-clause-table c =
    let docs = c.as_slice.result.now in (
      part_of docs c.args.shards c.args.no,
      c.in_ok-table.ensures,
      omega (arith, part-few c.args.shards c.args.no docs, ap length c.as_slice.ensures, c.requires.few),
      part-short c.args.shards c.args.no docs (subst (λ (ds : List Doc). AreShort ds) (sym c.as_slice.ensures) c.requires.short),
    )

pub returns : goal.returns
returns c =
    let part = part_of c.as_slice.result.now c.args.shards c.args.no in
    record {
      shards_are = refl;
      number_is = refl;
      within = c.requires.number;
      indexes = subst (λ (ds : List Doc). Indexes c.in_ok-index.index ds) (part-one part ∙ ap (λ (ds : List Doc). part_of ds c.args.shards c.args.no) c.as_slice.ensures)
          (c.in_ok-index.ensures part c.in_ok-table.ensures);
    }
