use Rattle.std.proofs.Common.{refl, sym, ap, subst}
use Rattle.collect_ops.specs.Views.{phase_in}
use Rattle.collect_ops.specs.Steps.{Standing, IsDone}
use Rattle.collect_ops.proofs.Passing.{done_desk, lost_by, claimed_by}
use Rattle.collect_ops.proofs.arrival.Pass.claim.Goals as goal

pub new-requires : goal.new-requires
new-requires g c =
    let ready = c.self.invariant.1 in
    let lost = c.if-not-claim.ensures.lost ready.ending ready.sits.stands in
    ap (λ (m : Standing g.row.X.Denot g.row.E.Denot). phase_in m.0) lost.stands

pub returns-then-not-claim-clause-lost : goal.returns-then-not-claim-clause-lost
returns-then-not-claim-clause-lost g c =
    let ready = c.self.invariant.1 in
    let lost = c.if-not-claim.ensures.lost ready.ending ready.sits.stands in
    lost_by _ _ _ _ _ _ _ _ _ record { seen = c.self.view_is; ready = ready.sits.stands; now = lost.stands; of_table = lost.of_table } _ c.new.ensures

pub take_end-end-requires-clause-claiming : goal.take_end-end-requires-clause-claiming
take_end-end-requires-clause-claiming g c =
    let ready = c.self.invariant.1 in
    let claimed = c.if-not-claim.ensures.claimed ready.ending ready.sits.stands in
    (ready.ending, ready.room, claimed)

pub new-requires-2-clause-table : goal.new-requires-2-clause-table
new-requires-2-clause-table g c =
    let ready = c.self.invariant.1 in
    let claimed = c.if-not-claim.ensures.claimed ready.ending ready.sits.stands in
    (c.take_end-end.ensures.sits _ claimed.stands).of_table

pub new-requires-2-clause-desk : goal.new-requires-2-clause-desk
new-requires-2-clause-desk g c =
    let ready = c.self.invariant.1 in
    let claimed = c.if-not-claim.ensures.claimed ready.ending ready.sits.stands in
    let now = c.take_end-end.ensures.sits _ claimed.stands in
    done_desk _ _ _ _ _ _ _ _ _ record { seen = c.self.view_is; ready = ready.sits.stands; now = now.stands; of_table = now.of_table } c.self.invariant.0

pub new-requires-2-clause-done : goal.new-requires-2-clause-done
new-requires-2-clause-done g c =
    let ready = c.self.invariant.1 in
    let claimed = c.if-not-claim.ensures.claimed ready.ending ready.sits.stands in
    let now = c.take_end-end.ensures.sits _ claimed.stands in
    subst IsDone (sym (ap (λ (m : Standing g.row.X.Denot g.row.E.Denot). phase_in m.0) now.stands)) tt

pub new-requires-2-clause-empty : goal.new-requires-2-clause-empty
new-requires-2-clause-empty g c =
    let ready = c.self.invariant.1 in
    let claimed = c.if-not-claim.ensures.claimed ready.ending ready.sits.stands in
    let now = c.take_end-end.ensures.sits _ claimed.stands in
    ap (λ (m : Standing g.row.X.Denot g.row.E.Denot). m.1) now.stands

pub returns-clause-claimed : goal.returns-clause-claimed
returns-clause-claimed g c =
    let ready = c.self.invariant.1 in
    let claimed = c.if-not-claim.ensures.claimed ready.ending ready.sits.stands in
    let now = c.take_end-end.ensures.sits _ claimed.stands in
    claimed_by _ _ _ _ _ _ _ _ _ record { seen = c.self.view_is; ready = ready.sits.stands; now = now.stands; of_table = now.of_table } _ _ refl (c.take_end-end.ensures.end _ claimed.stands) c.new-2.ensures
