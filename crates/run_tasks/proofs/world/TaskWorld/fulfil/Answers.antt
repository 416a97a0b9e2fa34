use Rattle.std.proofs.Common.{refl}
use Rattle.run_tasks.proofs.PostingLemmas.{landed-follows, landed-posts}
use Rattle.run_tasks.proofs.WorldLemmas.{left-cell}
use Rattle.run_tasks.proofs.world.TaskWorld.fulfil.Goals as goal

pub returns-clause-follows : goal.returns-clause-follows
returns-clause-follows g c =
    landed-follows _ c.args.self.now _ _ _ _ _ c.self.view_is c.leave_cell.ensures c.land.ensures.follows

pub returns-clause-left : goal.returns-clause-left
returns-clause-left g c down =
    left-cell _ c.args.self.now _ _ _ _ c.leave_cell.new.pass _ c.leave_cell.new.t _ c.self.view_is c.set_result-landed.ensures.home.0 c.set_result-landed.ensures.home.1
    c.leave_cell.ensures c.land.ensures.pass (c.land.ensures.tally down)

pub returns-clause-posted : goal.returns-clause-posted
returns-clause-posted g c down =
    landed-posts _ _ _ _ _ _ c.args.self.now _ _ c.self.view_is c.set_result-landed.ensures.answer refl c.land.ensures.landed down
