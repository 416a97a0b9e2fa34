use Rattle.std.proofs.Common.{◌∙◌, sym, ap}
use Rattle.collect_ops.proofs.Telling.{is_last, is_keeper, listed_by}
use Rattle.collect_ops.proofs.receipt.Completed.lists.Goals as goal

pub tell-requires-clause-last : goal.tell-requires-clause-last
tell-requires-clause-last g c =
    let inv = c.self.invariant in
    (inv.0, is_last _ _ inv.3 inv.2 (ap (λ k. k.found) c.self.view_is ∙ c.requires.counted))

pub tell-requires-clause-kept : goal.tell-requires-clause-kept
tell-requires-clause-kept g c =
    let kept = c.into_seat-other.ensures.kept in
    let desk = sym (ap (λ r. r.desk.table) c.into_seat-other.ensures.seen) ∙ (ap (λ d. d.table) c.requires.desk ∙ sym (ap (λ k. k.desk.table) c.self.view_is)) in
    (desk ∙ c.self.invariant.0, is_keeper _ _ kept.1 kept.0)

pub returns-clause-listed : goal.returns-clause-listed
returns-clause-listed g c =
    let kept = c.into_seat-other.ensures.kept in
    listed_by c.into_seat-other.result.me.0 c.into_seat-other.result.me.1 _ _ _ _ kept.1 kept.0 c.into_seat-other.ensures.seen (ap (λ k. k.list) c.self.view_is) c.tell.ensures.listed
