use Rattle.std.proofs.Common.{arith}
use Rattle.query_model.specs.Documents.{docs_of}
use Rattle.fanout.proofs.LineLemmas.{docs_are_short}
use Rattle.folly_query.proofs.answer.with_shards.Goals as goal

pub build_shards_beside-requires-clause-table : goal.build_shards_beside-requires-clause-table
build_shards_beside-requires-clause-table g c κs within =
    (docs_of c.args.table, c.in_ok-docs.ensures.docs, omega (arith, c.requires.limits.few_documents), docs_are_short c.args.table c.requires.limits.lines_are)
