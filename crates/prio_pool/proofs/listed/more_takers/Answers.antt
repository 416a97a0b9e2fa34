use Rattle.std.proofs.Common.{rules, ◌≡◌, ℕ, ◌+◌, ◌-◌, [], ◌∷◌, ◌++◌, refl, ap, sym, ◌∙◌, arith}
use Rattle.atomic_table.specs.Seated.{TableId}
use Rattle.pool_model.specs.Seen.{PoolId}
use Rattle.task_queue.specs.Marks.{WatchSeen, OpenSeen}
use Rattle.prio_pool.specs.Made.{makers_of, with_takers, new_takers_from, new_takers_seen}
use Rattle.prio_pool.proofs.Listing.{one_taker_more}
use Rattle.prio_pool.proofs.listed.more_takers.Goals as goal

pub loop-number-preserved : goal.loop-number-preserved
loop-number-preserved g c =
    let i = c.loop-number.invariant in
    let n = c.loop-number.number in
    let made = c.args.made in
    let first = made.takers in
    let qs = c.args.queues.now.items in
    let pool : PoolId = record { queues = qs; passes = made.passes; mark = c.args.mark.now.mark } in
    let left : (made.left - n) - 1 ≡ made.left - (n + 1) = omega arith in
    let takers : (first + n) + 1 ≡ first + (n + 1) = omega arith in
    let pushed : c.push_back.new.self ≡ c.loop-number.list ++ c.in_ok-takers.takers ∷ [] = search rules in
    let is = c.in_ok-takers.ensures.takers ∙ ap (λ (m : TableId). new_takers_seen (record { queues = qs; passes = made.passes; mark = m }) (first + n)) (ap (λ (w : WatchSeen). w.mark) c.watch-watch.ensures.watch) in
    record {
      makers = c.in_ok-takers.ensures.makers ∙ (λ k. makers_of (record { passes = made.passes; left = left k; adders = made.adders; takers = takers k }) qs);
      list = pushed ∙ ((λ k. i.list k ++ is k ∷ []) ∙ sym (one_taker_more pool first n (n + 1) refl));
      seat = c.watch-watch.ensures.same ∙ i.seat;
    }

pub loop-number-init : goal.loop-number-init
loop-number-init g c =
    let made = c.args.made in
    let left : made.left ≡ made.left - 0 = omega arith in
    let takers : made.takers ≡ made.takers + 0 = omega arith in
    record {
      makers = c.requires.makers ∙ (λ k. makers_of (record { passes = made.passes; left = left k; adders = made.adders; takers = takers k }) c.args.queues.now.items);
      list = search rules;
      seat = refl;
    }

pub overflow_sub-counts : goal.overflow_sub-counts
overflow_sub-counts g c = omega (arith, c.loop-number-test.true, c.requires.few.0)

pub overflow_add-counts : goal.overflow_add-counts
overflow_add-counts g c = omega (arith, c.loop-number-test.true, c.requires.few.1)

pub watch-watch-requires : goal.watch-watch-requires
watch-watch-requires g c = record { mark = ap (λ (s : OpenSeen). s.mark) c.loop-number.invariant.seat ∙ c.requires.mark }

pub new_takers-requires-clause-makers : goal.new_takers-requires-clause-makers
new_takers-requires-clause-makers g c = c.loop-number.invariant.makers

pub new_takers-requires-clause-some : goal.new_takers-requires-clause-some
new_takers-requires-clause-some g c = omega (arith, c.loop-number-test.true, c.requires.few.0)

pub new_takers-requires-clause-queues : goal.new_takers-requires-clause-queues
new_takers-requires-clause-queues g c = c.requires.queues

pub new_takers-requires-clause-watch : goal.new_takers-requires-clause-watch
new_takers-requires-clause-watch g c = (ap (λ (w : WatchSeen). w.looks) c.watch-watch.ensures.watch, ap (λ (w : WatchSeen). w.found) c.watch-watch.ensures.watch)

pub returns-in_err-takers-clause-seat : goal.returns-in_err-takers-clause-seat
returns-in_err-takers-clause-seat g c = c.watch-watch.ensures.same ∙ c.loop-number.invariant.seat

pub returns-in_err-map_err-clause-seat : goal.returns-in_err-map_err-clause-seat
returns-in_err-map_err-clause-seat g c = c.watch-watch.ensures.same ∙ c.loop-number.invariant.seat

pub returns-clause-seat : goal.returns-clause-seat
returns-clause-seat g c = c.loop-number.invariant.seat

pub returns-clause-makers : goal.returns-clause-makers
returns-clause-makers g c =
    let all : c.loop-number.number ≡ c.args.count = omega (arith, c.loop-number-test.false, c.loop-number.auto.number-end) in
    c.loop-number.invariant.makers ∙ ap (λ (n : ℕ). makers_of (with_takers c.args.made n) c.args.queues.now.items) all

pub returns-clause-takers : goal.returns-clause-takers
returns-clause-takers g c =
    let all : c.loop-number.number ≡ c.args.count = omega (arith, c.loop-number-test.false, c.loop-number.auto.number-end) in
    let pool : PoolId = record { queues = c.args.queues.now.items; passes = c.args.made.passes; mark = c.args.mark.now.mark } in
    c.loop-number.invariant.list ∙ ap (new_takers_from pool c.args.made.takers) all
