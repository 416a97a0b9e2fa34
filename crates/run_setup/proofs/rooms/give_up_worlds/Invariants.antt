use Rattle.std.proofs.Common.{ℕ, length}
use Rattle.std.specs.List.{All}
use Rattle.run_setup.specs.Rooms.{HasWorldRoom}
use Rattle.run_setup.proofs.rooms.give_up_worlds.Given as goal

abbrev pub invariant-loop-room : goal.invariant-loop-room
invariant-loop-room g l = (bases : ℕ) × All (HasWorldRoom bases) l.rooms.items

abbrev pub decreases-loop-room : goal.decreases-loop-room
decreases-loop-room g l = length l.rooms.items
