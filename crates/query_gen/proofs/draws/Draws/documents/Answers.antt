use Rattle.std.proofs.Common.{arith, [], ◌-◌, ◌+◌, ap, length, sym, subst}
use Rattle.std.proofs.lemmas.List.{length_push}
use Rattle.query_model.specs.Generated.{draw_docs}
use Rattle.line_table.specs.Rooms.{IsRoomFor}
use Rattle.query_gen.proofs.Limits.{room_for_document}
use Rattle.query_gen.proofs.SoFar.{IsSoFar, one_document}
use Rattle.query_gen.proofs.draws.Draws.documents.Goals as goal

pub with-requires : goal.with-requires
with-requires c = record {
  room = subst (λ l. IsRoomFor c.documents.lines l) (sym c.in_ok-document.ensures.0)
      (room_for_document c.documents.lines c.documents.place c.documents.self c.documents.invariant.1 (omega (arith, c.documents-test.true, c.requires)));
}

pub documents-preserved : goal.documents-preserved
documents-preserved c = (
  omega (arith, c.documents-test.true),
  omega (arith, ap length c.in_ok-lines.ensures, length_push c.documents.lines c.in_ok-document.field-0, c.documents.invariant.1),
  subst (λ lines. IsSoFar draw_docs [] lines (c.documents.place + 1) (c.args.count - (c.documents.place + 1)) c.document.new.self c.args.count c.args.self.now)
      (sym c.in_ok-lines.ensures)
      (one_document [] c.documents.lines c.in_ok-document.field-0 c.documents.place (c.args.count - c.documents.place) (c.args.count - (c.documents.place + 1))
      c.documents.self c.document.new.self c.args.count c.args.self.now
      c.documents.invariant.2 (omega (arith, c.documents-test.true)) c.in_ok-document.ensures.0 c.in_ok-document.ensures.1),
)
