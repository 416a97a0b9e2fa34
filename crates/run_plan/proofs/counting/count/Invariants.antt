use Rattle.run_plan.specs.Counting.{HasCountedTo}
use Rattle.run_plan.proofs.counting.count.Given as goal

abbrev pub invariant-places : goal.invariant-places
invariant-places l = HasCountedTo l.fn.lines l.bases l.place l.counted
