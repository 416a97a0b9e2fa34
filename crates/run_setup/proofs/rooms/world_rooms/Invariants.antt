use Rattle.std.proofs.Common.{◌≡◌, ◌≤◌, length}
use Rattle.std.specs.Prelude.{vec_capacity}
use Rattle.std.specs.List.{All}
use Rattle.run_setup.specs.Rooms.{HasWorldRoom}
use Rattle.run_setup.proofs.rooms.world_rooms.Given as goal

abbrev pub invariant-loop : goal.invariant-loop
invariant-loop g l = record {
  many : length l.rooms.items ≡ l.counter;
  each : All (HasWorldRoom l.bases) l.rooms.items;
  room : l.count ≤ vec_capacity l.rooms;
}
