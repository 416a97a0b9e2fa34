use Rattle.std.proofs.Common.{◌≤◌}
use Rattle.std.specs.Prelude.{vec_capacity}
use Rattle.run_bases.specs.Making.{AreOpen}
use Rattle.run_bases.proofs.making.open_bases.Given as goal

abbrev pub invariant-loop-place : goal.invariant-loop-place
invariant-loop-place g l = record {
  made : AreOpen g.J.Headed.head l.first l.place l.senders l.made;
  bases : l.count ≤ vec_capacity l.made.bases;
  columns : l.count ≤ vec_capacity l.made.columns;
}
