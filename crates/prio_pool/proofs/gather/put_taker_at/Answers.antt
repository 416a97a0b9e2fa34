use Rattle.std.proofs.Common.{arith}
use Rattle.task_queue.specs.Seen.{GatheredSeen, and_taker}
use Rattle.std.proofs.lemmas.Option.{slice_get_within}
use Rattle.prio_pool.proofs.Gathered.{found_queue, found_changed}
use Rattle.prio_pool.proofs.gather.put_taker_at.Goals as goal

pub put_taker-requires : goal.put_taker-requires
put_taker-requires g c =
    let queue = found_queue c.args.gathered.now.items c.args.number c.args.queue.now c.requires.at c.index_mut.result.now c.index_mut.ensures.value in
    record { queue = (queue, c.requires.queue) }

pub returns : goal.returns
returns g c =
    found_changed c.args.gathered.now.items c.args.number c.args.queue.now c.requires.at c.index_mut.result.now c.index_mut.ensures.value
    (λ (x : GatheredSeen). and_taker x c.args.taker) c.put_taker.new.gathered c.put_taker.ensures

pub index_mut-requires : goal.index_mut-requires
index_mut-requires g c = omega (arith, slice_get_within c.args.gathered.now.items c.args.number c.requires.at.one c.requires.at.at)
