use Rattle.std.proofs.Common.{◌≡◌, ◌≤◌, None, replicate, vec_len, vec_capacity}
use Rattle.id_table.proofs.refill.empty_cells.Given as goal

abbrev pub invariant-loop : goal.invariant-loop
invariant-loop g l =
    record {
      empty : l.cells.items ≡ replicate l.counter None;
      len : vec_len l.cells ≡ l.counter;
      room : l.size ≤ vec_capacity l.cells;
    }
