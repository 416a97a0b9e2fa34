use Rattle.std.proofs.Common.{◌≡◌, [], take}
use Rattle.std.specs.Prelude.{map}
use Rattle.crossbeam_queue.specs.Passes.{view, IsPassOf}
use Rattle.core_cells.specs.Seen.{first_key}
use Rattle.core_cells.proofs.cells.fill.Given as goal

abbrev pub invariant-loop-home : goal.invariant-loop-home
invariant-loop-home g l = IsPassOf l.free l.pass
    × (view l.pass ≡ record { made = 1; held = 1; passes = 0; homes = map first_key (take l.home-index l.fn.homes); took = []; put = map first_key (take l.home-index l.fn.homes) })
