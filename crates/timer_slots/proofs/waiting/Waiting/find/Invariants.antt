use Rattle.std.proofs.Common.{◌≡◌, take}
use Rattle.timer_slots.specs.Seen.{times}
use Rattle.timer_slots.proofs.waiting.Waiting.find.Given as goal

abbrev pub invariant-loop-other : goal.invariant-loop-other
invariant-loop-other l = (l.place ≡ l.other-index) × (times (take l.other-index l.other-items) l.spot ≡ 0)
