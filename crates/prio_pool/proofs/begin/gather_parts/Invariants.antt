use Rattle.std.proofs.Common.{◌≡◌, ◌++◌, length, All}
use Rattle.prio_pool.proofs.begin.gather_parts.Given as goal

abbrev pub invariant-loop-pass : goal.invariant-loop-pass
invariant-loop-pass g l = record {
  all : l.passes.items ++ l.list ≡ l.fn.passes.items;
  parts : l.parts ≡ record { mark = l.mark.mark; parts = length l.list };
  mark : All (λ p. p.pool.mark ≡ l.mark.mark) l.passes.items;
}

abbrev pub decreases-loop-pass : goal.decreases-loop-pass
decreases-loop-pass g l = goal.left-loop-pass g l
