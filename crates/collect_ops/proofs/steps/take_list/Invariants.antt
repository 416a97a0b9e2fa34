use Rattle.std.proofs.Common.{◌≡◌, ◌+◌, ◌≤◌, List, [], ◌∷◌, ◌++◌, length, vec_len, vec_capacity, None}
use Rattle.collect_ops.specs.Steps.{full_slots}
use Rattle.collect_ops.proofs.Listing.{Still}
use Rattle.collect_ops.proofs.steps.take_list.Given as goal

abbrev pub invariant-loop-left : goal.invariant-loop-left
invariant-loop-left g l = record {
  table : l.seat.table_id ≡ l.initial.seat.table_id;
  view : l.seat.me.0 ≡ l.initial.seat.me.0;
  slots : (ys : List g.row.X.Denot) → length ys ≡ l.size → l.initial.seat.me.1 ≡ full_slots {E = g.row.E.Denot} ys ++ (l.size, None) ∷ [] → Still ys l.room.items l.left l.size l.seat.me.1;
  room : l.size ≤ vec_capacity l.room;
  len : vec_len l.room + l.left ≡ l.size;
}

abbrev pub decreases-loop-left : goal.decreases-loop-left
decreases-loop-left g l = l.left
