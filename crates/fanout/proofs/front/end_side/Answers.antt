use Rattle.std.proofs.Common.{refl, arith}
use Rattle.fanout.proofs.Sides.{helper_end, poster_queue, side_end, workers_ends}
use Rattle.fanout.proofs.front.end_side.Goals as goal

pub worker_ends-ends-requires-clause-slots : goal.worker_ends-ends-requires-clause-slots
worker_ends-ends-requires-clause-slots g c κs within = c.what_ran_can_be_closed.ensures.worked c.requires.behind.old c.args.workers.items c.requires.behind.worked

pub worker_ends-ends-requires-clause-empty : goal.worker_ends-ends-requires-clause-empty
worker_ends-ends-requires-clause-empty g c κs within = (c.requires.behind.side.ends.no_ends, c.requires.behind.side.ends.no_worlds)

pub worker_ends-ends-requires-clause-room : goal.worker_ends-ends-requires-clause-room
worker_ends-ends-requires-clause-room g c κs within =
    let b = c.requires.behind in (
      omega (arith, b.worked.as_many, b.side.workers_are.as_many, b.side.ends.for_ends),
      omega (arith, b.worked.as_many, b.side.workers_are.as_many, b.side.ends.for_worlds),
    )

pub second_phase-left-requires-clause-front : goal.second_phase-left-requires-clause-front
second_phase-left-requires-clause-front g c κs within = c.requires.behind.did.front

pub second_phase-left-requires-clause-pool : goal.second_phase-left-requires-clause-pool
second_phase-left-requires-clause-pool g c κs within = c.requires.behind.did.pool_is

pub second_phase-left-requires-clause-passes : goal.second_phase-left-requires-clause-passes
second_phase-left-requires-clause-passes g c κs within = c.requires.behind.did.passes

pub second_phase-left-requires-clause-ends : goal.second_phase-left-requires-clause-ends
second_phase-left-requires-clause-ends g c κs within =
    let b = c.requires.behind in
    let left = c.worker_ends-ends.result in
    workers_ends g.N.RunName.asked b.ids b.start c.args.pool b.old c.args.room left.ends.items b.side
    (c.what_ran_can_be_closed.ensures.ends b.ids c.args.pool.id b.old left.ends.items left.worlds.items b.side.workers_are (c.worker_ends-ends.ensures b.old b.worked))

pub second_phase-left-requires-clause-helper : goal.second_phase-left-requires-clause-helper
second_phase-left-requires-clause-helper g c κs within =
    let b = c.requires.behind in
    helper_end g.N.RunName.asked b.ids c.args.stop b.start c.args.pool b.old c.args.room c.args.mid b.side b.did

pub second_phase-left-requires-clause-helped : goal.second_phase-left-requires-clause-helped
second_phase-left-requires-clause-helped g c κs within = (c.requires.behind.side.no_helped, c.requires.behind.side.for_helped)

pub second_phase-left-requires-clause-added : goal.second_phase-left-requires-clause-added
second_phase-left-requires-clause-added g c κs within = c.requires.behind.did.added

pub second_phase-left-requires-clause-stops : goal.second_phase-left-requires-clause-stops
second_phase-left-requires-clause-stops g c κs within = c.requires.behind.did.stops

pub returns : goal.returns
returns g c ids start old s first ran =
    let asked = g.N.RunName.asked in
    let ends = c.worker_ends-ends.ensures old ran in
    let second = c.second_phase-left.ensures in
    let left = c.second_phase-left.result in
    let closed = c.what_ran_can_be_closed.ensures in
    let pool = c.args.pool.id in
    let poster = poster_queue asked ids c.args.stop start c.args.pool old c.args.room c.args.mid left s first second.printer in
    side_end asked ids c.args.stop start c.args.pool old c.args.room c.args.mid c.worker_ends-ends.result.ends.items c.worker_ends-ends.result.worlds.items _ s first refl
    (closed.worlds ids pool old _ _ s.workers_are ends) (closed.done ids pool old _ _ s.workers_are ends) second.stopped second.account second.ran second.report second.refused second.handed second.made second.posters second.pass second.printer
    (closed.poster ids left.ends.printer poster.0 poster.1)
