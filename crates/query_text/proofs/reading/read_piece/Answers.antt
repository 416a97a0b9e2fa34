use Rattle.std.proofs.Common.{rules, ◌≡◌, Some, Ok, subst}
use Rattle.query_model.specs.Lines.{LineBehind}
use Rattle.query_text.proofs.LineLemmas.{has_room}
use Rattle.query_text.proofs.reading.read_piece.Goals as goal

pub with-requires : goal.with-requires
with-requires c =
    has_room c.args.shards c.args.so_far c.args.piece.now c.in-Ok-Some.line (λ doc is. (c.lines_by_facts.ensures.doc c.args.shards c.args.so_far c.args.piece.now doc).0 is) (λ n is. (c.lines_by_facts.ensures.tick c.args.shards c.args.so_far c.args.piece.now n).0 is)
    (subst (λ mark. LineBehind c.args.shards c.args.so_far c.args.piece.now (Ok mark)) (let same : c.in-Ok-Some.field-0 ≡ Some c.in-Ok-Some.line = search rules in same) c.in-Ok-Some.ensures)
