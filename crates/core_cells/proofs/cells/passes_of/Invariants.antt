use Rattle.std.proofs.Common.{◌≡◌, ◌+◌, length}
use Rattle.std.specs.Prelude.{All}
use Rattle.crossbeam_queue.specs.Passes.{view, IsPassOf}
use Rattle.core_cells.specs.Seen.{SeenPass, new_pass}
use Rattle.core_cells.proofs.cells.passes_of.Given as goal

abbrev pub invariant-loop : goal.invariant-loop
invariant-loop g l = IsPassOf l.free l.pass × (l.pass.table_id ≡ l.fn.pass.table_id)
    × (view l.pass ≡ record { made = 1 + l.counter; held = (view l.fn.pass).held; passes = (view l.fn.pass).passes; homes = (view l.fn.pass).homes; took = (view l.fn.pass).took; put = (view l.fn.pass).put })
    × (length l.made.items ≡ l.counter)
    × All (λ (p : SeenPass). p ≡ new_pass record { id = l.fn.pass.table_id; size = length (view l.fn.pass).homes } (view l.fn.pass).homes l.fn.count) l.made.items
