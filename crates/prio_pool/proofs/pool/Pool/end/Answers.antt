use Rattle.std.proofs.Common.{◌≡◌, ◌+◌, List, [], ◌∷◌, ◌++◌, length, length-append, map, ap, sym, subst, ◌∙◌, arith}
use Rattle.std.specs.List.{All}
use Rattle.std.specs.declared.alloc.Global.{Global}
use Rattle.std.proofs.lemmas.Grind.{flat_map-append}
use Rattle.std.proofs.lemmas.List.Elements.{All-append, All-cons, All-head, All-tail, All-weaker}
use Rattle.crossbeam_queue.specs.SegTies.{SegId}
use Rattle.pool_model.specs.Passes.{HasNoGap}
use Rattle.pool_model.specs.Seen.{PoolId, PoolSeen, PassSeen, EndSeen}
use Rattle.task_queue.specs.Marks.{MarkSeen}
use Rattle.task_queue.specs.Seen.{GatheredSeen}
use Rattle.prio_pool.specs.Ended.{CameTo}
use Rattle.prio_pool.specs.Gathering.{gathered_from, IsWhole, AllSettled}
use Rattle.prio_pool.proofs.Accounting.{all_whole}
use Rattle.prio_pool.proofs.Finishing.{few_rests, of_these, put_together, total_is}
use Rattle.prio_pool.proofs.Merging.{queues_of}
use Rattle.prio_pool.proofs.pool.Pool.end.Goals as goal

pub put_passes-others-requires-clause-of : goal.put_passes-others-requires-clause-of
put_passes-others-requires-clause-of g c =
    let qs : List (SegId Global) = c.self.inside.queues.items in
    let whole = c.self.inside.adders + c.self.inside.workers + c.self.inside.helpers in
    let id = ap (λ (s : PoolSeen). s.id) c.self.view_is in
    let first : PassSeen = c.in-Some.first in
    let others : List PassSeen = c.pop_front.new.self in
    let all = subst (All (λ (p : PassSeen). p.pool ≡ c.args.self.id)) c.in-Some.ensures.items c.requires.passes.of_pool in
    All-weaker (λ (p : PassSeen). p.pool ≡ c.args.self.id) (λ (p : PassSeen). (p.pool.queues ≡ qs) × (p.pool.passes ≡ whole)) (λ p e. (ap (λ (x : PoolId). x.queues) (e ∙ sym id), ap (λ (x : PoolId). x.passes) (e ∙ sym id)))
    others
    (All-tail (λ (p : PassSeen). p.pool ≡ c.args.self.id) first others all)

pub settle_all-rests-requires-clause-queues : goal.settle_all-rests-requires-clause-queues
settle_all-rests-requires-clause-queues g c =
    let qs : List (SegId Global) = c.self.inside.queues.items in
    let whole = c.self.inside.adders + c.self.inside.workers + c.self.inside.helpers in
    let id = ap (λ (s : PoolSeen). s.id) c.self.view_is in
    let first : PassSeen = c.in-Some.first in
    let others : List PassSeen = c.pop_front.new.self in
    let ends : List EndSeen = c.args.ends.items in
    let helped : List EndSeen = c.args.helped.items in
    let all = subst (All (λ (p : PassSeen). p.pool ≡ c.args.self.id)) c.in-Some.ensures.items c.requires.passes.of_pool in
    let own = All-head (λ (p : PassSeen). p.pool ≡ c.args.self.id) first others all ∙ sym id in
    let g3 = put_together whole qs first others (ends ++ helped) _ _ _ (ap (λ (x : PoolId). x.passes) own) c.gather-gathered.ensures.gathered c.put_passes-others.ensures.gathered c.put_ends-records.ensures.gathered in
    ap (map (λ (x : GatheredSeen). x.queue)) g3 ∙ queues_of whole (first ∷ others) (ends ++ helped) 0 qs

pub settle_all-rests-requires-clause-whole : goal.settle_all-rests-requires-clause-whole
settle_all-rests-requires-clause-whole g c =
    let qs : List (SegId Global) = c.self.inside.queues.items in
    let whole = c.self.inside.adders + c.self.inside.workers + c.self.inside.helpers in
    let id = ap (λ (s : PoolSeen). s.id) c.self.view_is in
    let first : PassSeen = c.in-Some.first in
    let others : List PassSeen = c.pop_front.new.self in
    let ends : List EndSeen = c.args.ends.items in
    let helped : List EndSeen = c.args.helped.items in
    let all = subst (All (λ (p : PassSeen). p.pool ≡ c.args.self.id)) c.in-Some.ensures.items c.requires.passes.of_pool in
    let own = All-head (λ (p : PassSeen). p.pool ≡ c.args.self.id) first others all ∙ sym id in
    let g3 = put_together whole qs first others (ends ++ helped) _ _ _ (ap (λ (x : PoolId). x.passes) own) c.gather-gathered.ensures.gathered c.put_passes-others.ensures.gathered c.put_ends-records.ensures.gathered in
    let count : length (first ∷ others) + length (ends ++ helped) ≡ whole =
    omega (
      arith,
      ap length c.in-Some.ensures.items,
      length-append ends helped,
      c.requires.passes.count,
      c.requires.ends.count_is,
      c.requires.helped.count_is,
      ap (λ (s : PoolSeen). s.adders) c.self.view_is,
      ap (λ (s : PoolSeen). s.workers) c.self.view_is,
      ap (λ (s : PoolSeen). s.helpers) c.self.view_is,
    ) in
    subst (All IsWhole) (sym g3) (all_whole whole (first ∷ others) (ends ++ helped) 0 qs count)

pub returns-clause-came : goal.returns-clause-came
returns-clause-came g c =
    let qs : List (SegId Global) = c.self.inside.queues.items in
    let whole = c.self.inside.adders + c.self.inside.workers + c.self.inside.helpers in
    let id = ap (λ (s : PoolSeen). s.id) c.self.view_is in
    let first : PassSeen = c.in-Some.first in
    let others : List PassSeen = c.pop_front.new.self in
    let ends : List EndSeen = c.args.ends.items in
    let helped : List EndSeen = c.args.helped.items in
    let items : c.args.passes ≡ first ∷ others = c.in-Some.ensures.items in
    let all = subst (All (λ (p : PassSeen). p.pool ≡ c.args.self.id)) items c.requires.passes.of_pool in
    let own = All-head (λ (p : PassSeen). p.pool ≡ c.args.self.id) first others all ∙ sym id in
    let g3 = put_together whole qs first others (ends ++ helped) _ _ _ (ap (λ (x : PoolId). x.passes) own) c.gather-gathered.ensures.gathered c.put_passes-others.ensures.gathered c.put_ends-records.ensures.gathered in
    let told = c.told.ensures in
    let many = λ (p : PassSeen). length p.pushed ≡ length qs in
    let rests = c.settle_all-rests.result.items in
    let came : CameTo g.J.Headed.head whole qs c.args.begun.found c.args.passes (ends ++ helped) rests =
    record {
      gaps = subst (All HasNoGap) (sym items) (All-cons HasNoGap first others told.gap c.put_passes-others.ensures.gaps);
      pushed = subst (All many) (sym items) (All-cons many first others (told.as_many ∙ ap (λ (x : PoolId). length x.queues) own) c.put_passes-others.ensures.pushed);
      ran = c.put_ends-records.ensures.ran;
      popped = c.put_ends-records.ensures.popped;
      found = c.put_ends-records.ensures.found;
      settled = subst (λ (l : List GatheredSeen). AllSettled g.J.Headed.head l rests) (g3 ∙ ap (λ (l : List PassSeen). gathered_from whole l (ends ++ helped) 0 qs) (sym items)) c.settle_all-rests.ensures;
    } in
    subst (λ (x : PoolId). CameTo g.J.Headed.head x.passes x.queues c.args.begun.found c.args.passes (ends ++ helped) rests) id came

pub returns-clause-few : goal.returns-clause-few
returns-clause-few g c =
    let id : PoolId = c.args.self.id in
    let queues = ap (λ (s : PoolSeen). length s.id.queues) c.self.view_is in
    omega (arith, few_rests g.J.Headed.head id.passes id.queues c.args.passes c.args.ends.items c.args.helped.items c.settle_all-rests.result.items c.args.begun.found (returns-clause-came g c), c.self.invariant.1, queues)

pub overflow_add-whole : goal.overflow_add-whole
overflow_add-whole g c = omega (arith, c.self.invariant.4, c.self.invariant.5)

pub overflow_add-whole-2 : goal.overflow_add-whole-2
overflow_add-whole-2 g c = omega (arith, c.self.invariant.4, c.self.invariant.5, c.self.invariant.6)

pub gather-gathered-requires : goal.gather-gathered-requires
gather-gathered-requires g c =
    let qs : List (SegId Global) = c.self.inside.queues.items in
    let whole = c.self.inside.adders + c.self.inside.workers + c.self.inside.helpers in
    let id = ap (λ (s : PoolSeen). s.id) c.self.view_is in
    let first : PassSeen = c.in-Some.first in
    let others : List PassSeen = c.pop_front.new.self in
    let all = subst (All (λ (p : PassSeen). p.pool ≡ c.args.self.id)) c.in-Some.ensures.items c.requires.passes.of_pool in
    let own = All-head (λ (p : PassSeen). p.pool ≡ c.args.self.id) first others all ∙ sym id in
    record { queues = ap (λ (x : PoolId). x.queues) own }

pub put_passes-others-requires-clause-together : goal.put_passes-others-requires-clause-together
put_passes-others-requires-clause-together g c =
    let qs : List (SegId Global) = c.self.inside.queues.items in
    let whole = c.self.inside.adders + c.self.inside.workers + c.self.inside.helpers in
    let id = ap (λ (s : PoolSeen). s.id) c.self.view_is in
    let first : PassSeen = c.in-Some.first in
    let others : List PassSeen = c.pop_front.new.self in
    let all = subst (All (λ (p : PassSeen). p.pool ≡ c.args.self.id)) c.in-Some.ensures.items c.requires.passes.of_pool in
    let own = All-head (λ (p : PassSeen). p.pool ≡ c.args.self.id) first others all ∙ sym id in
    let g0 = c.gather-gathered.ensures.gathered ∙ ap (λ (x : PoolId). gathered_from x.passes (first ∷ []) [] 0 qs) own in
    record { passes = first ∷ []; ends = []; is = g0 }

pub put_passes-others-requires-clause-few : goal.put_passes-others-requires-clause-few
put_passes-others-requires-clause-few g c = omega (arith, ap length c.in-Some.ensures.items, c.requires.passes.count, ap (λ (s : PoolSeen). s.adders) c.self.view_is, c.self.invariant.4)

pub settle_all-rests-requires-clause-room : goal.settle_all-rests-requires-clause-room
settle_all-rests-requires-clause-room g c = c.gather-gathered.ensures.room

pub overflow_add-result : goal.overflow_add-result
overflow_add-result g c = omega (arith, c.count-own.ensures, c.told.ensures.few, c.put_passes-others.ensures.few)

pub returns-clause-most : goal.returns-clause-most
returns-clause-most g c = omega (arith, c.count-own.ensures, c.told.ensures.few, c.put_passes-others.ensures.few)

pub returns-clause-accepted : goal.returns-clause-accepted
returns-clause-accepted g c = total_is c.args.passes c.in-Some.first c.pop_front.new.self c.count-own.result c.put_passes-others.result c.in-Some.ensures.items c.count-own.ensures c.put_passes-others.ensures.total

pub put_ends-records-requires-clause-together : goal.put_ends-records-requires-clause-together
put_ends-records-requires-clause-together g c =
    let qs : List (SegId Global) = c.self.inside.queues.items in
    let id = ap (λ (s : PoolSeen). s.id) c.self.view_is in
    let first : PassSeen = c.in-Some.first in
    let others : List PassSeen = c.pop_front.new.self in
    let all = subst (All (λ (p : PassSeen). p.pool ≡ c.args.self.id)) c.in-Some.ensures.items c.requires.passes.of_pool in
    let own = All-head (λ (p : PassSeen). p.pool ≡ c.args.self.id) first others all ∙ sym id in
    let g0 = c.gather-gathered.ensures.gathered ∙ ap (λ (x : PoolId). gathered_from x.passes (first ∷ []) [] 0 qs) own in
    record { passes = first ∷ others; ends = []; is = c.put_passes-others.ensures.gathered (first ∷ []) [] g0 }

pub put_ends-records-requires-clause-of : goal.put_ends-records-requires-clause-of
put_ends-records-requires-clause-of g c =
    let qs : List (SegId Global) = c.self.inside.queues.items in
    let whole = c.self.inside.adders + c.self.inside.workers + c.self.inside.helpers in
    let id = ap (λ (s : PoolSeen). s.id) c.self.view_is in
    let all = All-append (λ (e : EndSeen). e.pool ≡ c.args.self.id) c.args.ends.items c.args.helped.items c.requires.ends.of_pool c.requires.helped.of_pool in
    of_these c.args.self.id whole qs c.mark-2.result.now.mark (c.args.ends.items ++ c.args.helped.items) (sym id ∙ sym (ap (λ (m : MarkSeen). record { queues = qs; passes = whole; mark = m.mark }) c.mark-2.ensures)) all

pub put_ends-records-requires-clause-few : goal.put_ends-records-requires-clause-few
put_ends-records-requires-clause-few g c = omega (arith, length-append c.args.ends.items c.args.helped.items, c.requires.ends.count_is, ap (λ (s : PoolSeen). s.workers) c.self.view_is, c.self.invariant.5, c.requires.helped.count_is, ap (λ (s : PoolSeen). s.helpers) c.self.view_is, c.self.invariant.6)

pub returns-clause-records : goal.returns-clause-records
returns-clause-records g c = c.put_ends-records.ensures.records ∙ flat_map-append (λ (x : EndSeen). x.records) c.args.ends.items c.args.helped.items
