use Rattle.std.proofs.Common.{rules, ◌≡◌, ◌+◌, ◌-◌, ℕ, [], ◌∷◌, ◌++◌, refl, ap, sym, subst, ◌∙◌, arith}
use Rattle.pool_model.specs.Seen.{PoolId}
use Rattle.prio_pool.specs.Made.{counted, makers_of, new_passes, in_places}
use Rattle.prio_pool.proofs.Listing.{one_place_more}
use Rattle.prio_pool.proofs.listed.new_places.Goals as goal

pub loop-number-preserved : goal.loop-number-preserved
loop-number-preserved g c =
    let i = c.loop-number.invariant in
    let n = c.loop-number.number in
    let passes = c.args.passes in
    let pool : PoolId = record { queues = c.args.queues.now.items; passes = passes; mark = c.args.mark.now.mark } in
    let left : (passes - n) - 1 ≡ passes - (n + 1) = omega arith in
    let pushed : c.push_back.new.self ≡ c.loop-number.list ++ c.in_ok-place.place ∷ [] = search rules in
    record {
      makers = c.in_ok-place.ensures.makers ∙ ap (λ (l : ℕ). makers_of (record { passes = passes; left = l; adders = n + 1; takers = 0 }) c.args.queues.now.items) left;
      list = pushed ∙ ((λ k. i.list k ++ c.in_ok-place.ensures.adders k ∷ []) ∙ sym (one_place_more pool n (n + 1) refl));
    }

pub loop-number-init : goal.loop-number-init
loop-number-init g c = record {
  makers = c.requires.makers;
  list = c.new-list.ensures;
}

pub new_place-requires-clause-makers : goal.new_place-requires-clause-makers
new_place-requires-clause-makers g c = c.loop-number.invariant.makers

pub new_place-requires-clause-some : goal.new_place-requires-clause-some
new_place-requires-clause-some g c = omega (arith, c.loop-number-test.true, c.requires.few.1)

pub new_place-requires-clause-few : goal.new_place-requires-clause-few
new_place-requires-clause-few g c = omega (arith, c.loop-number-test.true, c.requires.few.0)

pub overflow_sub-counts : goal.overflow_sub-counts
overflow_sub-counts g c = omega (arith, c.loop-number-test.true, c.requires.few.1)

pub returns-clause-makers : goal.returns-clause-makers
returns-clause-makers g c =
    let all : c.loop-number.number ≡ c.args.adders = omega (arith, c.loop-number-test.false, c.loop-number.auto.number-end) in
    subst (λ (n : ℕ). c.loop-number.makers.items ≡ makers_of (counted c.args.passes n) c.args.queues.now.items) all c.loop-number.invariant.makers

pub returns-clause-places : goal.returns-clause-places
returns-clause-places g c =
    let all : c.loop-number.number ≡ c.args.adders = omega (arith, c.loop-number-test.false, c.loop-number.auto.number-end) in
    let pool : PoolId = record { queues = c.args.queues.now.items; passes = c.args.passes; mark = c.args.mark.now.mark } in
    c.loop-number.invariant.list ∙ ap (λ (n : ℕ). in_places (new_passes pool 0 n)) all
