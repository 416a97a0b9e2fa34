use Rattle.std.proofs.Common.{length, map, ap, sym, ◌∙◌}
use Rattle.pool_model.specs.Seen.{EndSeen}
use Rattle.task_queue.specs.Seen.{GatheredSeen}
use Rattle.prio_pool.proofs.Merging.{queues_of}
use Rattle.prio_pool.proofs.Recording.{records_short}
use Rattle.prio_pool.proofs.together.put_end.Goals as goal

pub put_to-watch-requires-clause-gathered : goal.put_to-watch-requires-clause-gathered
put_to-watch-requires-clause-gathered g c =
    let t = c.requires.together in
    ap (map (λ (x : GatheredSeen). x.queue)) t.is ∙ queues_of c.args.passes t.passes t.ends 0 c.args.queues.now.items

pub returns-clause-short : goal.returns-clause-short
returns-clause-short g c = records_short c.end.inside.takers c.end.inside.records c.told.ensures c.end.invariant

pub returns-clause-popped : goal.returns-clause-popped
returns-clause-popped g c = sym (ap (λ (e : EndSeen). length e.popped) c.end.view_is) ∙ (c.told.ensures.as_many ∙ (ap (λ (e : EndSeen). length e.pool.queues) c.end.view_is ∙ ap length c.requires.of.queues_are))
