use Rattle.std.proofs.Common.{◌≡◌, ◌-◌, ◌≤◌, length, vec_capacity}
use Rattle.run_gathering.specs.Dealt.{AreDealt}
use Rattle.run_desks.proofs.tables.new_tables.Given as goal

abbrev pub invariant-making : goal.invariant-making
invariant-making g l = record {
  most : length l.tables.items ≤ l.bases;
  room : vec_capacity l.tables ≡ l.bases;
  dealt : AreDealt g.N.RunName.asked 0 l.tables.items;
}

abbrev pub decreases-making : goal.decreases-making
decreases-making g l = l.bases - length l.tables.items
