use Rattle.std.proofs.Common.{◌≡◌, ℕ, ◌<◌, ◌≤◌, [], length, Some, vec_capacity}
use Rattle.std.specs.Arc.{arc_value}
use Rattle.std.specs.List.{slice_get}
use Rattle.notify_queue.specs.Delivery.{receiving}
use Rattle.notify_queue.specs.Ends.{new_sender}
use Rattle.notify_queue.specs.Marks.{IsFirstSeatOf}
use Rattle.notify_queue.specs.Passes.{IsFirstPassOf, known_by}
use Rattle.notify_queue.proofs.opening.senders_of.Given as goal

abbrev pub invariant-loop-number : goal.invariant-loop-number
invariant-loop-number g l = record {
  count : length l.made.items ≡ l.number;
  room : l.senders ≤ vec_capacity l.made;
  made : (k : ℕ) → k < l.number → slice_get l.made.items k ≡ Some (new_sender (record { line = (arc_value l.channel).line }) k);
  pass_of : IsFirstPassOf (arc_value l.channel).line l.pass × (known_by l.pass ≡ receiving l.number [] []);
  seat_of : IsFirstSeatOf l.initial.seat.table_id (arc_value l.channel).line l.number l.seat;
}
