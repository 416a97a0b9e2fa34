use Rattle.std.proofs.Common.{rules, ◌≡◌, ◌+◌, [], ◌∷◌, ◌++◌, refl, ap, ◌∙◌, arith}
use Rattle.prio_pool.specs.declared.sleepers.OwnParker.{OwnParker}
use Rattle.prio_pool.specs.declared.sleepers.OwnWaker.{OwnWaker}
use Rattle.prio_pool.specs.Sleeping.{parkers_of, wakers_of, bits_from}
use Rattle.prio_pool.proofs.Sleeping.{parker_more, waker_more}
use Rattle.prio_pool.proofs.sleepers.list_parkers.Goals as goal

pub loop-number-preserved : goal.loop-number-preserved
loop-number-preserved c =
    let i = c.loop-number.invariant in
    let n = c.loop-number.number in
    let bit = c.bit_of-bit.ensures in
    let p : OwnParker = record { bit = c.bit_of-bit.result; parker = c.in_ok-parker.parker } in
    let w : OwnWaker = record { bit = c.bit_of-bit.result; waker = c.in_ok-waker.waker } in
    let slept : c.push_back.new.self ≡ c.loop-number.parkers ++ p ∷ [] = search rules in
    let woken : c.push.new.self.items ≡ c.loop-number.wakers.items ++ w ∷ [] = search rules in
    record {
      parkers = ap parkers_of slept ∙ parker_more c.loop-number.parkers p n (n + 1) refl i.parkers bit;
      wakers = ap wakers_of woken ∙ waker_more c.loop-number.wakers.items w n (n + 1) refl i.wakers bit;
    }

pub bit_of-bit-requires : goal.bit_of-bit-requires
bit_of-bit-requires c = omega (arith, c.loop-number-test.true, c.requires.few)

pub loop-number-init : goal.loop-number-init
loop-number-init c = record {
  parkers = ap parkers_of c.requires.none.0;
  wakers = ap wakers_of c.requires.none.1;
}

pub returns-clause-parkers : goal.returns-clause-parkers
returns-clause-parkers c =
    let all : c.loop-number.number ≡ c.args.count = omega (arith, c.loop-number-test.false, c.loop-number.auto.number-end) in
    c.loop-number.invariant.parkers ∙ ap (bits_from 0) all

pub returns-clause-wakers : goal.returns-clause-wakers
returns-clause-wakers c =
    let all : c.loop-number.number ≡ c.args.count = omega (arith, c.loop-number-test.false, c.loop-number.auto.number-end) in
    c.loop-number.invariant.wakers ∙ ap (bits_from 0) all
