use Rattle.std.proofs.Common.{◌≡◌, List, [], ◌∷◌, ◌++◌, map, ap, subst, ◌∙◌, arith}
use Rattle.std.specs.declared.alloc.Global.{Global}
use Rattle.crossbeam_queue.specs.SegTies.{SegId}
use Rattle.pool_model.specs.Seen.{EndSeen, at_queue}
use Rattle.task_queue.specs.Seen.{TakerSeen, GatheredSeen}
use Rattle.prio_pool.specs.Gathering.{gathered_from, and_takers, OneEndMore}
use Rattle.prio_pool.specs.Passes.{end_seen}
use Rattle.prio_pool.specs.Takers.{TakersSeen, takers_seen}
use Rattle.prio_pool.proofs.Merging.{takers_more}
use Rattle.prio_pool.proofs.takers.Takers.put_to.Goals as goal

pub returns-clause-gathered : goal.returns-clause-gathered
returns-clause-gathered g c =
    let t = c.self.inside in
    let p : TakersSeen = takers_seen t in
    let qs : List (SegId Global) = c.args.queues.now.items in
    let queues : map (λ (x : TakerSeen). x.queue) t.takers.items ≡ qs = ap (λ (x : TakersSeen). x.pool.queues) c.self.view_is ∙ c.requires.queues in
    λ records.
    let e : EndSeen = end_seen p records in
    let more : OneEndMore t.passes qs c.args.gathered.now.items e c.put_takers.new.gathered.items =
    λ passes ends is.
    let grown = takers_more t.passes passes ends 0 e t.takers.items c.self.invariant.each (λ j. ap (at_queue p.popped) (omega arith)) in
    c.put_takers.ensures
    ∙ (ap (λ (l : List GatheredSeen). and_takers l t.takers.items) is
    ∙ subst (λ (l : List (SegId Global)). and_takers (gathered_from t.passes passes ends 0 l) t.takers.items ≡ gathered_from t.passes passes (ends ++ e ∷ []) 0 l) queues grown) in
    subst (λ (x : TakersSeen). OneEndMore x.pool.passes qs c.args.gathered.now.items (end_seen x records) c.put_takers.new.gathered.items) c.self.view_is more
