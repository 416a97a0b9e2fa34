use Rattle.std.proofs.Common.{◌≡◌, ◌≤◌, length}
use Rattle.std.specs.Prelude.{vec_capacity}
use Rattle.std.specs.List.{sum_by}
use Rattle.notify_queue.specs.Ends.{AreNewSenders, Sending}
use Rattle.run_bases.specs.Columns.{AreBack}
use Rattle.run_bases.proofs.making.close_unused.Given as goal

abbrev pub invariant-posters : goal.invariant-posters
invariant-posters g l = record {
  left : AreNewSenders l.base.queue.queue (length l.posters.items) l.posters.items;
  back : AreBack g.J.Headed.head l.base.queue.queue l.base.agenda.exec l.senders (length l.posters.items) l.ends.items;
  unused : sum_by (λ (e : Sending g.row.J.Denot). length e.sent) l.ends.items ≡ 0;
  room : l.senders ≤ vec_capacity l.ends;
}

abbrev pub decreases-posters : goal.decreases-posters
decreases-posters g l = length l.posters.items
