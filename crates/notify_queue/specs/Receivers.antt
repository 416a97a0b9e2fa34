-- What the fields of a receiver stand for.
use Rattle.std.specs.Prelude.{◌≡◌, ℕ, ◌^◌, ◌<◌, ◌≤◌, List, length, slice_index}
use Rattle.std.specs.List.{All, Any}
use Rattle.std.specs.Arc.{arc_value}
use Rattle.crossbeam_queue.specs.SegTies.{IsSegPassOf}
use Rattle.notify_queue.specs.declared.receiver.Receiver.TheInside.{Inside}
use Rattle.notify_queue.specs.declared.stamp.Stamped.{Stamped}
use Rattle.notify_queue.specs.Delivery.{receiving}
use Rattle.notify_queue.specs.Ends.{Receiving}
use Rattle.notify_queue.specs.Marks.{reading}
use Rattle.notify_queue.specs.Stamps.{messages_of, IsInOrder}

module _ {M : Type 0} where
  abbrev pub receiving_of : Inside M → Receiving M
  receiving_of r = record {
    queue = record { line = (arc_value r.channel).line };
    senders = r.senders;
    taken = r.pass.me.view.client.taken;
    ended = r.pass.me.view.client.ended;
    looks = r.seat.me.0.looks;
  }

  -- each sender has its number of messages that were taken
  pub record AreCounts (senders : ℕ) (counts : List ℕ) (taken : List (Stamped M)) : Type 0 where
    pub as_many : length counts ≡ senders
    pub count_is : (sender : ℕ) → sender < senders → slice_index counts sender ≡ length (messages_of sender taken)

  pub record IsReceiver (r : Inside M) : Type 0 where
    pub pass_of : IsSegPassOf (arc_value r.channel).line r.pass
    pub first_pass : r.pass.id ≡ 0
    pub knows : r.pass.me.view.client ≡ receiving r.senders r.pass.me.view.client.ended r.pass.me.view.client.taken
    pub count : r.taken ≡ length r.pass.me.view.client.taken
    pub counts : AreCounts r.senders r.counts.items r.pass.me.view.client.taken
    pub few : length r.pass.me.view.client.taken ≤ 2 ^ 38
    pub in_order : IsInOrder r.pass.me.view.client.taken
    pub seat_of : r.seat.table_id ≡ (arc_value r.channel).marks.shared.table_id
    pub first_seat : r.seat.id ≡ 0
    pub seat_knows : r.seat.me.0 ≡ reading (arc_value r.channel).line r.senders r.found r.seat.me.0.looks
    pub slot_each : r.seat.table_id.slots ≡ r.senders
    pub found : r.found ≤ r.senders
    pub ended : (sender : ℕ) → sender < r.found → Any (λ e. e.sender ≡ sender) r.pass.me.view.client.ended
    pub ended_below : All (λ e. e.sender < r.found) r.pass.me.view.client.ended
