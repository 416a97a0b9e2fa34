use Rattle.std.proofs.Common.{◌≡◌, ℕ, ◌+◌, ◌≤◌, length}
use Rattle.std.specs.Prelude.{All, sum_by}
use Rattle.crossbeam_queue.specs.Passes.{view, IsPassOf}
use Rattle.core_word.specs.Seen.{SeenKey}
use Rattle.core_cells.specs.Seen.{SeenPass, took_by, put_by, queue_id}
use Rattle.core_cells.proofs.cells.take_in.Given as goal

abbrev pub invariant-loop-pass : goal.invariant-loop-pass
invariant-loop-pass g l = IsPassOf l.free l.whole × ((view l.whole).made ≡ 0)
    × ((view l.whole).held + length l.passes.items ≡ 1 + length l.fn.passes.items) × (length l.passes.items + 1 ≤ 1 + length l.fn.passes.items)
    × ((view l.whole).passes ≡ (view l.fn.whole).passes) × ((view l.whole).homes ≡ (view l.fn.whole).homes)
    × All (λ (pass : SeenPass). pass.cells.id ≡ queue_id l.free) l.passes.items
    × ((weight : SeenKey → ℕ) → sum_by weight (view l.whole).took + took_by weight l.passes.items ≡ sum_by weight (view l.fn.whole).took + took_by weight l.fn.passes.items)
    × ((weight : SeenKey → ℕ) → sum_by weight (view l.whole).put + put_by weight l.passes.items ≡ sum_by weight (view l.fn.whole).put + put_by weight l.fn.passes.items)

abbrev pub decreases-loop-pass : goal.decreases-loop-pass
decreases-loop-pass g l = length l.passes.items
