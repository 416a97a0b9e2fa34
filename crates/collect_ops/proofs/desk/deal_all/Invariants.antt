use Rattle.std.proofs.Common.{◌≡◌, vec_capacity}
use Rattle.collect_ops.proofs.Seats.{DealtOut}
use Rattle.collect_ops.proofs.desk.deal_all.Given as goal

abbrev pub invariant-loop-index : goal.invariant-loop-index
invariant-loop-index g l = record {
  dealt : DealtOut l.fn.size l.fn.table.table_id l.initial.seat l.seat l.index l.arrivals.items;
  room : vec_capacity l.arrivals ≡ vec_capacity l.initial.arrivals;
}
