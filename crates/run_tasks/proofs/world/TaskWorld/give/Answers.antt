use Rattle.std.proofs.Common.{refl}
use Rattle.run_tasks.proofs.PostingLemmas.{landed-follows, met-posts}
use Rattle.run_tasks.proofs.WorldLemmas.{left-cell}
use Rattle.run_tasks.proofs.world.TaskWorld.give.Goals as goal

pub returns-clause-follows : goal.returns-clause-follows
returns-clause-follows g c =
    landed-follows _ c.args.self.now _ _ _ _ _ c.self.view_is c.leave_by_consumer.ensures c.land.ensures.follows

pub returns-clause-left : goal.returns-clause-left
returns-clause-left g c down =
    left-cell _ c.args.self.now _ _ _ _ c.leave_by_consumer.new.pass _ c.leave_by_consumer.new.t _ c.self.view_is c.set_callback_inline-met.ensures.home.0 c.set_callback_inline-met.ensures.home.1
    c.leave_by_consumer.ensures c.land.ensures.pass (c.land.ensures.tally down)

pub returns-clause-posted : goal.returns-clause-posted
returns-clause-posted g c down =
    met-posts _ _ _ _ _ _ _ c.args.self.now _ _ c.self.view_is c.set_callback_inline-met.ensures.answer c.landed_by.ensures refl c.land.ensures.landed down
