use Rattle.std.proofs.Common.{arith}
use Rattle.query_model.specs.Documents.{docs_of}
use Rattle.fanout.proofs.LineLemmas.{docs_are_short}
use Rattle.run_examples.proofs.answered.input_and_shards.Goals as goal

pub build_shards_beside-requires-clause-table : goal.build_shards_beside-requires-clause-table
build_shards_beside-requires-clause-table g c κs within =
    let table = c.in_ok-read_lines.field-0 in
    let limits = c.accepted_is_within_limits.ensures c.args.text.now c.args.shards (record { lines = table }) c.in_ok-read_lines.ensures.accepted in
    (docs_of table, c.in_ok-docs.ensures.docs, omega (arith, limits.few_documents), docs_are_short table limits.lines_are)
