use Rattle.std.proofs.Common.{◌≡◌, ◌+◌, ◌*◌, ◌≤◌, ◌++◌, List, All, length}
use Rattle.pool_model.specs.Passes.{HasNoGap, adds_total}
use Rattle.pool_model.specs.Seen.{PassSeen}
use Rattle.prio_pool.specs.Gathering.{AreTogether, AddersMore}
use Rattle.prio_pool.proofs.together.put_passes.Given as goal

abbrev pub invariant-loop-adders : goal.invariant-loop-adders
invariant-loop-adders g l = record {
  done : List PassSeen;
  all : done ++ l.others ≡ l.fn.others;
  of_pool : All (λ p. (p.pool.queues ≡ l.queues.items) × (p.pool.passes ≡ l.passes)) l.others;
  more : AddersMore l.passes l.queues.items l.initial.gathered.items done l.gathered.items;
  total : l.total ≡ adds_total done;
  gaps : All HasNoGap done;
  pushed : All (λ p. length p.pushed ≡ length l.queues.items) done;
  few : l.total + length l.others * 4294967295 ≤ 274877906880;
  together : AreTogether l.passes l.queues.items l.gathered.items;
}

abbrev pub decreases-loop-adders : goal.decreases-loop-adders
decreases-loop-adders g l = length l.others
