use Rattle.std.proofs.Common.{◌∙◌, ap}
use Rattle.collect_ops.specs.Steps.{Standing}
use Rattle.collect_ops.proofs.Telling.{arrivals_meet, never}
use Rattle.collect_ops.proofs.steps.meet.Goals as goal

pub join_seat-requires : goal.join_seat-requires
join_seat-requires g c =
    let one = c.requires.one in
    let other = c.requires.other in
    (one.0, other.0, other.1, c.requires.words, arrivals_meet _ _ _ _ one.2 other.2)

pub load-requires : goal.load-requires
load-requires g c =
    (c.join_seat.ensures.0 ∙ c.requires.one.0, c.requires.words, never _ _ _ (ap (λ (m : Standing g.row.X.Denot g.row.E.Denot). m.0) c.join_seat.ensures.2))
