use Rattle.std.proofs.Common.{ℕ, ◌*◌, ◌^◌, ap, arith}
use Rattle.shard_index.proofs.ScoredLemmas.{sum-fits, summed, summed-end, summed-is, sums-fit, times-fit, weighed}
use Rattle.shard_index.proofs.scored.with_places.Goals as goal

pub returns : goal.returns
returns c = λ test score word docs before stand.
    summed-is c.args.weight word c.args.scored.now c.extend_from_slice.new.self.items c.args.places.now c.args.times.now test score docs
    (summed-end c.args.scored.now c.args.places.now c.args.times.now c.args.weight c.places.more.items c.extend_from_slice.new.self.items (summed c.args.scored.now (weighed c.args.weight c.args.places.now c.args.times.now))
    c.both.i c.places.j c.places-test.false c.places.invariant.so_far c.in_ok-extend_from_slice.ensures.items) before stand

pub overflow_mul-added : goal.overflow_mul-added
overflow_mul-added c =
    let fits = times-fit c.args.scored.now c.args.places.now c.args.times.now c.args.weight c.both.j c.requires c.if-j-places.true in
    omega (arith, fits, ap (λ (n : ℕ). n * c.args.weight) c.from.ensures)

pub at_lower-requires : goal.at_lower-requires
at_lower-requires c = λ same.
    let fits = sum-fits c.args.scored.now c.args.places.now c.args.times.now c.args.weight c.both.more.items (summed c.args.scored.now (weighed c.args.weight c.args.places.now c.args.times.now))
    c.both.i c.both.j c.requires.stand.many c.if-j-places.true c.both.invariant.so_far (2 ^ 64) (sums-fit c.args.scored.now c.args.places.now c.args.times.now c.args.weight c.requires)
    c.both-test.true same in
    omega (arith, fits, ap (λ (n : ℕ). n * c.args.weight) c.from.ensures)

pub overflow_mul-from : goal.overflow_mul-from
overflow_mul-from c =
    let fits = times-fit c.args.scored.now c.args.places.now c.args.times.now c.args.weight c.places.j c.requires c.places-test.true in
    omega (arith, fits, ap (λ (n : ℕ). n * c.args.weight) c.from-in-places.ensures)
