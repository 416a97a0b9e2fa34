use Rattle.std.proofs.Common.{◌≡◌, ◌+◌}
use Rattle.crossbeam_queue.specs.Passes.{view, IsPassOf}
use Rattle.core_cells.proofs.cells.count.Given as goal

abbrev pub invariant-loop : goal.invariant-loop
invariant-loop g l = IsPassOf l.free l.pass
    × (view l.pass ≡ record { made = (view l.fn.pass).made; held = (view l.fn.pass).held; passes = (view l.fn.pass).passes + l.counter; homes = (view l.fn.pass).homes; took = (view l.fn.pass).took; put = (view l.fn.pass).put })
