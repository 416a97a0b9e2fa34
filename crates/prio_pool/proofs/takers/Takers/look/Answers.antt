use Rattle.std.proofs.Common.{◌+◌, map, refl, sym, ap, subst, ◌∙◌}
use Rattle.pool_model.specs.Steps.{of_mark}
use Rattle.task_queue.specs.Looks.{mark_seen}
use Rattle.task_queue.specs.Seen.{TakerSeen}
use Rattle.prio_pool.specs.Takers.{TakersSeen, HasTaken, takers_seen}
use Rattle.prio_pool.proofs.Recording.{taken_same}
use Rattle.prio_pool.proofs.takers.Takers.look.Goals as goal

pub invariant_of-self : goal.invariant_of-self
invariant_of-self g c =
    let t = c.self.inside in
    let p : TakersSeen = takers_seen t in
    let mark = c.args.mark.now.mark in
    let at = ap of_mark (sym (ap (λ (x : TakersSeen). x.pool.mark) c.self.view_is ∙ c.requires)) in
    let has = taken_same p (t.watch.looks + 1) c.look.result (mark_seen mark c.look.result) at refl c.self.invariant.taken in
    let watch = sym c.look.ensures.found in
    let looks = sym c.look.ensures.noted in
    record {
      each = c.self.invariant.each;
      taken = subst HasTaken
          (λ i. record {
            pool = record { queues = map (λ (x : TakerSeen). x.queue) t.takers.items; passes = t.passes; mark = (watch i).mark };
            number = t.number;
            popped = map (λ (x : TakerSeen). x.popped) t.takers.items;
            looked_so_often = (watch i).looks;
            found = (watch i).found;
            looks = looks i;
          })
          has;
    }
