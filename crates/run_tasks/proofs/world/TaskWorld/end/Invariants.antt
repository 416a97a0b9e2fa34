use Rattle.std.proofs.Common.{◌≡◌, ◌+◌, ◌≤◌, ◌++◌, List, map, vec_len, vec_capacity}
use Rattle.std.specs.Vec.Iter.{into_iter_items, into_iter_len}
use Rattle.notify_queue.specs.Ends.{Sending}
use Rattle.fan_parts.specs.declared.jobs.GatherJob.{GatherJob}
use Rattle.run_tasks.specs.Worlds.{AreEndsFor, told_of}
use Rattle.run_tasks.proofs.world.TaskWorld.end.Given as goal

abbrev pub invariant-loop-poster : goal.invariant-loop-poster
invariant-loop-poster g l = record {
  room : vec_len l.ends + into_iter_len l.left ≤ vec_capacity l.ends;
  sent : l.ends.items ++ map (λ p. p.sender) (into_iter_items l.left) ≡ map (λ p. p.sender) l.fn.self.posters;
  on_bases : (es : List (Sending (GatherJob g.row.N.Denot))) → AreEndsFor (map told_of (into_iter_items l.left)) es → AreEndsFor (map told_of l.fn.self.posters) (l.ends.items ++ es);
}

abbrev pub decreases-loop-poster : goal.decreases-loop-poster
decreases-loop-poster g l = into_iter_len l.left
