use Rattle.std.proofs.Common.{◌≡◌, List, [], ◌∷◌, ◌++◌, map, ap, subst, ◌∙◌, arith}
use Rattle.std.specs.declared.alloc.Global.{Global}
use Rattle.crossbeam_queue.specs.SegTies.{SegId}
use Rattle.pool_model.specs.Seen.{PassSeen, at_queue}
use Rattle.task_queue.specs.Seen.{AdderSeen, GatheredSeen}
use Rattle.prio_pool.specs.Adders.{adders_seen}
use Rattle.prio_pool.specs.Gathering.{gathered_from, and_adders, OneAdderMore}
use Rattle.prio_pool.proofs.Merging.{adders_more}
use Rattle.prio_pool.proofs.adders.Adders.put_to.Goals as goal

pub returns : goal.returns
returns g c =
    let a = c.self.inside in
    let p : PassSeen = adders_seen a in
    let qs : List (SegId Global) = c.args.queues.now.items in
    let queues : map (λ (x : AdderSeen). x.queue) a.adders.items ≡ qs = ap (λ (x : PassSeen). x.pool.queues) c.self.view_is ∙ c.requires.queues in
    let more : OneAdderMore a.passes qs c.args.gathered.now.items p c.put_adders.new.gathered.items =
    λ passes ends is.
    let grown = adders_more a.passes passes ends 0 p a.adders.items c.self.invariant.each (λ j. ap (at_queue p.pushed) (omega arith)) in
    c.put_adders.ensures
    ∙ (ap (λ (l : List GatheredSeen). and_adders l a.adders.items) is
    ∙ subst (λ (l : List (SegId Global)). and_adders (gathered_from a.passes passes ends 0 l) a.adders.items ≡ gathered_from a.passes (passes ++ p ∷ []) ends 0 l) queues grown) in
    subst (λ (x : PassSeen). OneAdderMore x.pool.passes qs c.args.gathered.now.items x c.put_adders.new.gathered.items) c.self.view_is more
