use Rattle.notify_queue.proofs.Receivings.{goes_not, goes_on}
use Rattle.notify_queue.proofs.receiver.Receiver.ended.Goals as goal

pub loop-self-init : goal.loop-self-init
loop-self-init g c = goes_not c.self.inside c.self.invariant

pub loop-self-preserved : goal.loop-self-preserved
loop-self-preserved g c =
    let seat = c.in-Some.ensures.seat in
    let read = rw c.deref.ensures at c.in-Some.ensures.read in
    let pass = rw c.deref-in-loop-self.ensures at c.join_end.ensures.pass in
    goes_on c.self.inside c.loop-self.self-inside c.read_mark.new.seat c.join_end.new.pass c.in-Some.end read.0 c.loop-self.invariant
    c.loop-self-test.true seat.0 seat.1 read.1 read.2 read.3 pass c.join_end.ensures.ended
