use Rattle.std.proofs.Common.{arith, ◌-◌, ◌+◌, sym, subst}
use Rattle.line_table.specs.Rooms.{IsRoomFor}
use Rattle.query_gen.proofs.SoFar.{one_query}
use Rattle.query_gen.proofs.draws.Draws.queries.Goals as goal

pub with-requires : goal.with-requires
with-requires c = record { room = subst (λ l. IsRoomFor c.queries.lines l) (sym c.in_ok-query.ensures.0) tt }

pub queries-preserved : goal.queries-preserved
queries-preserved c = (
  omega (arith, c.queries-test.true),
  one_query c.args.lines c.queries.lines c.in_ok-lines.lines c.in_ok-lines-2.lines c.in_ok-query.field-0
      c.queries.place (c.args.count - c.queries.place) (c.args.count - (c.queries.place + 1)) c.queries.self c.query.new.self c.ticks.new.self c.args.count c.args.self.now
      c.queries.invariant.1 (omega (arith, c.queries-test.true)) c.in_ok-query.ensures.0 c.in_ok-query.ensures.1 c.in_ok-lines.ensures c.in_ok-lines-2.ensures.0 c.in_ok-lines-2.ensures.1,
)
