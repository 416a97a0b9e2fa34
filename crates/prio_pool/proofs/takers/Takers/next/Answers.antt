use Rattle.std.proofs.Common.{rules, ◌≡◌, ◌-◌, ◌<◌, List, length, Some, refl, sym, ap, subst, ◌∙◌, arith}
use Rattle.std.specs.Prelude.{slice_get}
use Rattle.std.specs.declared.alloc.Global.{Global}
use Rattle.std.proofs.lemmas.Option.{slice_get-get_or}
use Rattle.crossbeam_queue.specs.SegTies.{SegId}
use Rattle.pool_model.specs.Seen.{PoolId}
use Rattle.prio_pool.specs.Takers.{TakersSeen, and_cleared}
use Rattle.prio_pool.proofs.Downward.{none_yet, one_empty, took_it, none_left}
use Rattle.prio_pool.proofs.takers.Takers.next.Goals as goal

pub loop-number-init : goal.loop-number-init
loop-number-init g c = record {
  within = omega (arith, c.len-number.ensures);
  did = none_yet c.args.self.now (length c.args.queues.now.items) c.len-number.result (omega (arith, c.len-number.ensures));
  popped = refl;
}

pub try_queue-requires : goal.try_queue-requires
try_queue-requires g c =
    let qs : List (SegId Global) = c.args.queues.now.items in
    let j = c.loop-number.number - 1 in
    let q : SegId Global = c.index.result.now in
    let within : j < length qs = omega (arith, c.loop-number.invariant.within, c.loop-number-test.true) in
    let at : slice_get qs j ≡ Some q = slice_get-get_or qs j q within ∙ ap (λ (x : SegId Global). Some x) (sym c.index.ensures) in
    let same = ap (λ (p : PoolId). p.queues) c.loop-number.invariant.did.pool ∙ c.requires.queues in
    record { queue = subst (λ (l : List (SegId Global)). slice_get l j ≡ Some q) (sym same) at }

pub overflow_cast-result : goal.overflow_cast-result
overflow_cast-result g c = omega (arith, c.loop-number.invariant.within, c.requires.few)

pub returns-in-Some-clause-found : goal.returns-in-Some-clause-found
returns-in-Some-clause-found g c =
    let qs : List (SegId Global) = c.args.queues.now.items in
    let k = c.loop-number.number in
    let i = c.loop-number.invariant in
    took_it g.J.Headed.head c.args.self.now c.loop-number.self c.try_queue.new.self (length qs) k (k - 1) c.index.result.now c.in-Some.task (omega (arith, c.loop-number-test.true)) i.within
    (sym (ap (λ (l : List (SegId Global)). length l) c.requires.queues)) i.did c.in-Some.ensures.found

pub loop-number-preserved : goal.loop-number-preserved
loop-number-preserved g c =
    let qs : List (SegId Global) = c.args.queues.now.items in
    let k = c.loop-number.number in
    let i = c.loop-number.invariant in
    let made : c.try_queue.new.self ≡ and_cleared c.loop-number.self (k - 1) c.index.result.now = search rules in
    record {
      within = omega (arith, i.within);
      did = one_empty c.args.self.now c.loop-number.self c.try_queue.new.self (length qs) k (k - 1) c.index.result.now (omega (arith, c.loop-number-test.true)) i.within i.did made;
      popped = ap (λ (t : TakersSeen). t.popped) made ∙ i.popped;
    }

pub returns-clause-empty : goal.returns-clause-empty
returns-clause-empty g c =
    let qs : List (SegId Global) = c.args.queues.now.items in
    let i = c.loop-number.invariant in
    none_left c.args.self.now c.loop-number.self (length qs) c.loop-number.number (omega (arith, c.loop-number-test.false)) (sym (ap (λ (l : List (SegId Global)). length l) c.requires.queues)) i.did i.popped
