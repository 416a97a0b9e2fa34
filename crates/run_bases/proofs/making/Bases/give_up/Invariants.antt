use Rattle.std.proofs.Common.{ℕ, length}
use Rattle.run_bases.specs.Making.{AreOpen}
use Rattle.run_bases.proofs.making.Bases.give_up.Given as goal

abbrev pub invariant-bases : goal.invariant-bases
invariant-bases g l = (first count : ℕ) × AreOpen g.J.Headed.head first count l.senders record { bases = l.bases; columns = l.columns }

abbrev pub decreases-bases : goal.decreases-bases
decreases-bases g l = length l.bases.items
