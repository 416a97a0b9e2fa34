use Rattle.fan_base.proofs.Words.{same_order}
use Rattle.fan_base.proofs.word.WordOrd.cmp.Goals as goal

pub returns : goal.returns
returns c = rw (← c.self.view_is, ← c.other.view_is) (same_order c.self.inside c.other.inside c.cmp.result c.self.invariant c.other.invariant c.cmp.ensures)
