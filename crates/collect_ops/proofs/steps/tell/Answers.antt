use Rattle.std.proofs.Common.{◌∙◌, sym}
use Rattle.collect_ops.proofs.Telling.{arrival_tells, arrival_reads, knows, kept_slots, listed}
use Rattle.collect_ops.proofs.steps.tell.Goals as goal

pub join_seat-requires : goal.join_seat-requires
join_seat-requires g c =
    let last = c.requires.last in
    let kept = c.requires.kept in
    let its = kept.1 in
    (last.0, kept.0, kept_slots _ kept.1, c.requires.words, arrival_tells _ _ _ _ last.1 kept.1)

pub load-requires : goal.load-requires
load-requires g c =
    let last = c.requires.last in
    (c.join_seat.ensures.0 ∙ last.0, c.requires.words, arrival_reads _ _ _ _ _ _ _ _ _ (knows _ _ _ last.1 c.requires.kept.1 c.join_seat.ensures.2))

pub returns-clause-same : goal.returns-clause-same
returns-clause-same g c =
    let last = c.requires.last.1 in
    (c.load.ensures.2 _ _ _ _ _ _ (knows _ _ _ last c.requires.kept.1 c.join_seat.ensures.2)).1 ∙ sym last.4

pub returns-clause-listed : goal.returns-clause-listed
returns-clause-listed g c k x index outcome =
    let last = c.requires.last.1 in
    let kept = c.requires.kept.1 in
    listed _ _ last kept k x (c.load.ensures.2 _ _ _ _ _ _ (knows _ _ _ last kept c.join_seat.ensures.2)).0 index outcome
