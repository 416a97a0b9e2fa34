use Rattle.std.proofs.Common.{◌∙◌, ap, subst, arith}
use Rattle.task_queue.specs.Seen.{TakerSeen}
use Rattle.task_queue.specs.Settled.{TakeTold}
use Rattle.std.proofs.lemmas.Option.{get_or_from_slice_get, slice_get_within}
use Rattle.prio_pool.proofs.Taking.{took}
use Rattle.prio_pool.proofs.takers.take_at.Goals as goal

pub returns-clause-took : goal.returns-clause-took
returns-clause-took g c =
    let is = c.index_mut.ensures.value ∙ get_or_from_slice_get c.args.takers.now.items c.args.number c.requires.taker c.index_mut.result.now c.requires.at in
    took g.J.Headed.head c.args.takers.now.items c.args.number c.requires.taker c.take.new.taker c.take.result c.requires.at
    (subst (λ (t : TakerSeen). TakeTold (λ p. g.J.Headed.head p.job) t c.take.new.taker c.take.result) is c.take.ensures.told)
    c.take.ensures.ascend
    c.take.ensures.short

pub index_mut-requires : goal.index_mut-requires
index_mut-requires g c = omega (arith, slice_get_within c.args.takers.now.items c.args.number c.requires.taker c.requires.at)

pub take-requires : goal.take-requires
take-requires g c =
    let is = c.index_mut.ensures.value ∙ get_or_from_slice_get c.args.takers.now.items c.args.number c.requires.taker c.index_mut.result.now c.requires.at in
    record { queue = ap (λ (t : TakerSeen). t.queue) is ∙ c.requires.of_queue }
