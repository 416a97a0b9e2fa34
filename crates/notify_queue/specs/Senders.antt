-- What the fields of a sender and of its end stand for.
use Rattle.std.specs.Prelude.{◌≡◌, ◌^◌, ◌<◌, length, None}
use Rattle.std.specs.Arc.{arc_value}
use Rattle.crossbeam_queue.specs.SegTies.{IsSegPassOf}
use Rattle.notify_queue.specs.declared.sender.Sender.TheInside.{Inside}
use Rattle.notify_queue.specs.declared.sender.SenderEnd.TheInside as of_end
use Rattle.notify_queue.specs.Delivery.{sending, ending}
use Rattle.notify_queue.specs.Ends.{Sending}
use Rattle.notify_queue.specs.Marks.{HasShown, HasMarked}

module _ {M : Type 0} where
  abbrev pub sending_of : Inside M → Sending M
  sending_of s = record { queue = record { line = (arc_value s.channel).line }; number = s.number; sent = s.pass.me.view.client.put }

  pub record IsSender (s : Inside M) : Type 0 where
    pub pass_of : IsSegPassOf (arc_value s.channel).line s.pass
    pub knows : s.pass.me.view.client ≡ sending s.number s.pass.me.view.client.put
    pub count : s.puts ≡ length s.pass.me.view.client.put
    pub few : length s.pass.me.view.client.put < 2 ^ 32
    pub seat_of : s.seat.table_id ≡ (arc_value s.channel).marks.shared.table_id
    pub shown : HasShown (arc_value s.channel).line s.number (length s.pass.me.view.client.put) s.seat.me
    pub has_slot : s.number < s.seat.table_id.slots

  abbrev pub end_of : of_end.Inside M → Sending M
  end_of e = record { queue = record { line = record { web = e.pass.web; heap = e.pass.heap } }; number = e.number; sent = e.pass.me.view.client.put }

  pub record IsEnd (e : of_end.Inside M) : Type 0 where
    pub hand : e.pass.me.hand ≡ None
    pub spare : e.pass.me.spare ≡ None
    pub knows : e.pass.me.view.client ≡ ending e.number e.pass.me.view.client.put
    pub marked : HasMarked (record { web = e.pass.web; heap = e.pass.heap }) e.number (length e.pass.me.view.client.put) e.seat.me
