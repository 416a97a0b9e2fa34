use Rattle.std.proofs.Common.{◌≡◌, ℕ, ◌<◌, ◌≤◌, take}
use Rattle.std.specs.List.{count_by}
use Rattle.run_plan.specs.Turns.{is_begin}
use Rattle.run_plan.proofs.stopping.place_behind.Given as goal

abbrev pub invariant-loop-place : goal.invariant-loop-place
invariant-loop-place l = record {
  counted : l.begun ≡ count_by is_begin (take l.place l.turns);
  within : l.begun ≤ l.stop;
  few : l.begun ≤ l.place;
  first : (k : ℕ) → k < l.place → count_by is_begin (take k l.turns) < l.stop;
}
