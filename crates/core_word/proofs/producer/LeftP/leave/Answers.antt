use Rattle.core_word.proofs.Owing.{producer_is_last}
use Rattle.core_word.proofs.producer.LeftP.leave.Goals as goal

pub read_end-leftover-requires-clause-last : goal.read_end-leftover-requires-clause-last
read_end-leftover-requires-clause-last g c =
    let sits = c.if-not-leave.ensures.last in
    let last = producer_is_last _ _ _ _ _ _ c.self.invariant.2.stands sits.stands in
    (sits.of_home, last.0, last.1)
