use Rattle.run_desks.proofs.Once.{begun_at_one}
use Rattle.run_desks.proofs.laws.begun_once.Goals as goal

pub returns : goal.returns
returns c = λ lines place other a b comes also same. begun_at_one lines place other a b (c.comings_in_order.ensures.begun lines) comes also same
