use Rattle.std.proofs.Common.{◌≡◌, ◌+◌, ◌*◌, ◌≤◌, ◌++◌, List, All, length}
use Rattle.pool_model.specs.Endings.{RanWhatItTook, records_of}
use Rattle.pool_model.specs.Seen.{EndSeen}
use Rattle.prio_pool.specs.Gathering.{AreTogether, EndsMore, IsOf, FoundAs, ends_left}
use Rattle.prio_pool.proofs.together.put_ends.Given as goal

abbrev pub invariant-loop-end : goal.invariant-loop-end
invariant-loop-end g l = record {
  done : List EndSeen;
  all : done ++ ends_left l.ends.items l.helped.items ≡ l.fn.ends.items ++ l.fn.helped.items;
  of_pool : All (IsOf l.passes l.queues.items l.mark.mark) (ends_left l.ends.items l.helped.items);
  more : EndsMore l.passes l.queues.items l.initial.gathered.items done l.gathered.items;
  together : AreTogether l.passes l.queues.items l.gathered.items;
  begun : l.begun ≡ l.fn.begun;
  records : l.records ≡ records_of done;
  ran : All RanWhatItTook done;
  popped : All (λ e. length e.popped ≡ length l.queues.items) done;
  found : All (FoundAs l.fn.begun.found) done;
  room : length l.records + length (ends_left l.ends.items l.helped.items) * 70368744177664 ≤ 128 * 70368744177664;
}

abbrev pub decreases-loop-end : goal.decreases-loop-end
decreases-loop-end g l = length (ends_left l.ends.items l.helped.items)
