use Rattle.std.proofs.Common.{◌≡◌, List, [], ◌∷◌, map, ap, subst, ◌∙◌, arith}
use Rattle.std.specs.declared.alloc.Global.{Global}
use Rattle.crossbeam_queue.specs.SegTies.{SegId}
use Rattle.pool_model.specs.Seen.{PassSeen, at_queue}
use Rattle.task_queue.specs.Seen.{AdderSeen}
use Rattle.prio_pool.specs.Adders.{adders_seen}
use Rattle.prio_pool.specs.Gathering.{gathered_from, only_adder}
use Rattle.prio_pool.proofs.Merging.{first_adder}
use Rattle.prio_pool.proofs.adders.Adders.gather.Goals as goal

pub returns-clause-gathered : goal.returns-clause-gathered
returns-clause-gathered g c =
    let a = c.self.inside in
    let p : PassSeen = adders_seen a in
    let qs : List (SegId Global) = c.args.queues.now.items in
    let queues : map (λ (x : AdderSeen). x.queue) a.adders.items ≡ qs = ap (λ (x : PassSeen). x.pool.queues) c.self.view_is ∙ c.requires.queues in
    let first = first_adder a.passes 0 p a.adders.items c.self.invariant.each (λ j. ap (at_queue p.pushed) (omega arith)) in
    let own = subst (λ (l : List (SegId Global)). map only_adder a.adders.items ≡ gathered_from a.passes (p ∷ []) [] 0 l) queues first in
    c.gather_adders.ensures ∙ subst (λ (x : PassSeen). map only_adder a.adders.items ≡ gathered_from x.pool.passes (x ∷ []) [] 0 qs) c.self.view_is own
