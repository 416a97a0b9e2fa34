use Rattle.prio_pool.proofs.new.Rooms.with_keep.Goals as goal

pub list_parkers-requires-clause-few : goal.list_parkers-requires-clause-few
list_parkers-requires-clause-few g c = c.requires

pub give_up-requires : goal.give_up-requires
give_up-requires g c = c.in_ok-rooms.ensures.empty

pub returns-clause-adders : goal.returns-clause-adders
returns-clause-adders g c = (c.in_ok-rooms.ensures.empty.0, c.in_ok-rooms.ensures.room.0)

pub returns-clause-workers : goal.returns-clause-workers
returns-clause-workers g c = (c.in_ok-rooms.ensures.empty.1, c.in_ok-rooms.ensures.room.1)

pub returns-clause-helpers : goal.returns-clause-helpers
returns-clause-helpers g c = (c.in_ok-rooms.ensures.empty.2, c.in_ok-rooms.ensures.room.2)

pub returns-clause-keeping : goal.returns-clause-keeping
returns-clause-keeping g c = c.in-Ok.ensures

pub returns-clause-parkers : goal.returns-clause-parkers
returns-clause-parkers g c = c.in_ok-list_parkers.ensures.parkers

pub returns-clause-wakers : goal.returns-clause-wakers
returns-clause-wakers g c = c.in_ok-list_parkers.ensures.wakers

pub list_parkers-requires-clause-none : goal.list_parkers-requires-clause-none
list_parkers-requires-clause-none g c = (c.new-parkers.ensures, c.new-wakers.ensures.items)
