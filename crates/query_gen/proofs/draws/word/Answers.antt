use Rattle.query_gen.proofs.DrawnWords.{is_never_refused}
use Rattle.query_gen.proofs.draws.word.Goals as goal

pub unreachable-requires : goal.unreachable-requires
unreachable-requires c = is_never_refused c.new.result c.args.bytes.now c.in-Err.field-0 c.requires c.new.ensures.bad c.new.ensures.in_place c.in-Err.is
