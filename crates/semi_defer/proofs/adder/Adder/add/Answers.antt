use Rattle.std.proofs.Common.{sym, ap, ◌∙◌, subst, Some}
use Rattle.atomic_table.specs.Seated.{TableId}
use Rattle.semi_defer.specs.declared.history.AddEvent.TheVariants as added
use Rattle.semi_defer.specs.declared.state.Chosen.{Chosen}
use Rattle.semi_defer.specs.Views.{add_in, HasAdded}
use Rattle.semi_defer.specs.Steps.{IsHome, Standing}
use Rattle.semi_defer.proofs.adder.Adder.add.Goals as goal

pub invariant_of-receipt : goal.invariant_of-receipt
invariant_of-receipt g c =
    let late = (c.take_back-job.ensures c.args.job c.in-Some.chosen c.in-Some.ensures.late.stands).1 in
    (subst (λ (id : TableId). IsHome id) (sym late.of_home) c.self.invariant.0, subst (λ (m : Standing g.row.J.Denot). HasAdded m.0) (sym late.stands) tt, ap (λ (m : Standing g.row.J.Denot). m.1) late.stands)

pub invariant_of-receipt-in-Detached : goal.invariant_of-receipt-in-Detached
invariant_of-receipt-in-Detached g c =
    let late = (c.take_back-job.ensures c.args.job c.in-Some.chosen c.in-Some.ensures.late.stands).1 in
    (subst (λ (id : TableId). IsHome id) (sym late.of_home) c.self.invariant.0, subst (λ (m : Standing g.row.J.Denot). HasAdded m.0) (sym late.stands) tt, ap (λ (m : Standing g.row.J.Denot). m.1) late.stands)

pub returns-in-Executor-clause-home : goal.returns-in-Executor-clause-home
returns-in-Executor-clause-home g c =
    let late = (c.take_back-job.ensures c.args.job c.in-Some.chosen c.in-Some.ensures.late.stands).1 in
    late.of_home ∙ ap (λ s. s.home) c.self.view_is

pub returns-in-Executor-clause-answer : goal.returns-in-Executor-clause-answer
returns-in-Executor-clause-answer g c =
    let late = c.take_back-job.ensures c.args.job c.in-Some.chosen c.in-Some.ensures.late.stands in
    (late.0, ap (λ (m : Standing g.row.J.Denot). add_in m.0) late.1.stands ∙ ap (λ (what : Chosen). Some (added.Late c.args.job what)) c.in-Executor.is)

pub returns-in-Detached-clause-home : goal.returns-in-Detached-clause-home
returns-in-Detached-clause-home g c =
    let late = (c.take_back-job.ensures c.args.job c.in-Some.chosen c.in-Some.ensures.late.stands).1 in
    late.of_home ∙ ap (λ s. s.home) c.self.view_is

pub returns-in-Detached-clause-answer : goal.returns-in-Detached-clause-answer
returns-in-Detached-clause-answer g c =
    let late = c.take_back-job.ensures c.args.job c.in-Some.chosen c.in-Some.ensures.late.stands in
    (late.0, ap (λ (m : Standing g.row.J.Denot). add_in m.0) late.1.stands ∙ ap (λ (what : Chosen). Some (added.Late c.args.job what)) c.in-Detached.is)
