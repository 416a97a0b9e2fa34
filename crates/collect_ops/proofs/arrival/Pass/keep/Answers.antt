use Rattle.std.proofs.Common.{refl, sym, ap, subst}
use Rattle.collect_ops.specs.Views.{phase_in}
use Rattle.collect_ops.specs.Steps.{Standing, IsKept, IsDone}
use Rattle.collect_ops.proofs.Passing.{done_desk, kept_by, gathered}
use Rattle.collect_ops.proofs.arrival.Pass.keep.Goals as goal

pub new-requires-clause-kept : goal.new-requires-clause-kept
new-requires-clause-kept g c =
    let ready = c.self.invariant.1 in
    let kept = c.keep.ensures.more ready.ending ready.sits.stands c.if-keep-ne1.true in
    subst IsKept (sym (ap (λ (m : Standing g.row.X.Denot g.row.E.Denot). phase_in m.0) kept.2.stands)) kept.0

pub new-requires-clause-empty : goal.new-requires-clause-empty
new-requires-clause-empty g c =
    let ready = c.self.invariant.1 in
    let kept = c.keep.ensures.more ready.ending ready.sits.stands c.if-keep-ne1.true in
    ap (λ (m : Standing g.row.X.Denot g.row.E.Denot). m.1) kept.2.stands

pub returns-then-keep-ne1-clause-more : goal.returns-then-keep-ne1-clause-more
returns-then-keep-ne1-clause-more g c =
    let ready = c.self.invariant.1 in
    let kept = c.keep.ensures.more ready.ending ready.sits.stands c.if-keep-ne1.true in
    kept_by _ _ _ _ _ _ _ _ _ record { seen = c.self.view_is; ready = ready.sits.stands; now = kept.2.stands; of_table = kept.2.of_table } _ _ _ refl kept.0 kept.1 c.new.ensures

pub take_all-list-requires-clause-emptying : goal.take_all-list-requires-clause-emptying
take_all-list-requires-clause-emptying g c =
    let ready = c.self.invariant.1 in
    let last = c.keep.ensures.last ready.ending ready.sits.stands c.if-keep-ne1.false in
    (ready.ending, last.0, ready.room, last.1, last.3)

pub new-requires-2-clause-table : goal.new-requires-2-clause-table
new-requires-2-clause-table g c =
    let ready = c.self.invariant.1 in
    let last = c.keep.ensures.last ready.ending ready.sits.stands c.if-keep-ne1.false in
    (c.take_all-list.ensures.sits _ _ last.3.stands).of_table

pub new-requires-2-clause-desk : goal.new-requires-2-clause-desk
new-requires-2-clause-desk g c =
    let ready = c.self.invariant.1 in
    let last = c.keep.ensures.last ready.ending ready.sits.stands c.if-keep-ne1.false in
    let now = c.take_all-list.ensures.sits _ _ last.3.stands in
    done_desk _ _ _ _ _ _ _ _ _ record { seen = c.self.view_is; ready = ready.sits.stands; now = now.stands; of_table = now.of_table } c.self.invariant.0

pub new-requires-2-clause-done : goal.new-requires-2-clause-done
new-requires-2-clause-done g c =
    let ready = c.self.invariant.1 in
    let last = c.keep.ensures.last ready.ending ready.sits.stands c.if-keep-ne1.false in
    let now = c.take_all-list.ensures.sits _ _ last.3.stands in
    subst IsDone (sym (ap (λ (m : Standing g.row.X.Denot g.row.E.Denot). phase_in m.0) now.stands)) tt

pub new-requires-2-clause-empty : goal.new-requires-2-clause-empty
new-requires-2-clause-empty g c =
    let ready = c.self.invariant.1 in
    let last = c.keep.ensures.last ready.ending ready.sits.stands c.if-keep-ne1.false in
    let now = c.take_all-list.ensures.sits _ _ last.3.stands in
    ap (λ (m : Standing g.row.X.Denot g.row.E.Denot). m.1) now.stands

pub returns-clause-last : goal.returns-clause-last
returns-clause-last g c =
    let ready = c.self.invariant.1 in
    let last = c.keep.ensures.last ready.ending ready.sits.stands c.if-keep-ne1.false in
    let now = c.take_all-list.ensures.sits _ _ last.3.stands in
    let all = c.take_all-list.ensures.list _ _ last.1 last.3.stands in
    gathered _ _ _ _ _ _ _ _ _ record { seen = c.self.view_is; ready = ready.sits.stands; now = now.stands; of_table = now.of_table } _ _ _ _ _ refl all.0 last.1 last.2 all.1 c.new-2.ensures
