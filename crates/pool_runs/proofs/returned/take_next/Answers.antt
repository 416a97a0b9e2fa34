use Rattle.std.proofs.Common.{◌≡◌, suc, ◌-◌, length, ap, sym, ◌∙◌, take, arith}
use Rattle.pool_runs.proofs.Handing.{next_is, none_is}
use Rattle.pool_runs.proofs.returned.take_next.Goals as goal

pub returns-in-Some : goal.returns-in-Some
returns-in-Some g c =
    let i = c.loop-rests.invariant in
    let items = c.loop-rests.rests.items in
    let k = c.len-number.result - 1 in
    let e = c.in-Some.ensures in
    let last : suc k ≡ length items = omega (arith, c.len-number.ensures, c.loop-rests-test.true, c.len.ensures) in
    let n = next_is items c.take_first.new.rests.items k c.in-Some.task e.0 last e.1 e.2 in
    (sym i.same ∙ n.0, omega (arith, n.1, i.fewer))

pub loop-rests-preserved-in_default : goal.loop-rests-preserved-in_default
loop-rests-preserved-in_default g c =
    let i = c.loop-rests.invariant in
    let items = c.loop-rests.rests.items in
    let k = c.len-number.result - 1 in
    let e = c.in_default.ensures in
    let last : suc k ≡ length items = omega (arith, c.len-number.ensures, c.loop-rests-test.true, c.len.ensures) in
    let count : length items - 1 ≡ k = omega (arith, last) in
    let as_many : length c.take_first.new.rests.items ≡ length items = ap length e.1 in
    let taken = c.pop.ensures.rest ∙ ap (take _) e.1 in
    let n = none_is items c.pop.new.self.items k _ last e.0 (omega (arith, count, as_many)) taken in
    record { same = n.0 ∙ i.same; fewer = omega (arith, n.1, i.fewer) }
