use Rattle.std.proofs.Common.{◌+◌, ◌*◌, ◌<◌, ◌^◌, ℕ, List, ap, sym, ◌∙◌, length, set, take, get_or, arith}
use Rattle.std.proofs.lemmas.List.{get_or_default}
use Rattle.word_table.specs.Told.{repeated}
use Rattle.shard_index.specs.Totals.{added_at}
use Rattle.shard_index.proofs.TotalLemmas.{added-more, all-rec, length-added, next-fits}
use Rattle.shard_index.proofs.totals.add_at.Goals as goal

pub index_mut-requires : goal.index_mut-requires
index_mut-requires c =
    let done = repeated (take c.loop-i.i c.args.places.now) (take c.loop-i.i c.args.times.now) in
    let low = c.requires.places c.loop-i.i 0 c.loop-i-test.true in
    omega (arith, ap length c.loop-i.invariant, length-added c.args.weight c.args.totals.now.items done, low, c.loop-i.totals.ok)

pub overflow_mul-from : goal.overflow_mul-from
overflow_mul-from c =
    let low = c.requires.places c.loop-i.i 0 c.loop-i-test.true in
    let fits = next-fits (2 ^ 64) c.args.weight c.args.totals.now.items c.args.places.now c.args.times.now c.loop-i.i
    (all-rec (λ t. t < 2 ^ 64) (added_at c.args.weight c.args.totals.now.items (repeated c.args.places.now c.args.times.now)) c.requires.fits) c.loop-i-test.true c.requires.many low in
    omega (arith, fits, ap (λ (n : ℕ). n * c.args.weight) c.from.ensures)

pub overflow_add-index_mut : goal.overflow_add-index_mut
overflow_add-index_mut c =
    let place : ℕ = get_or c.args.places.now c.loop-i.i 0 in
    let done = repeated (take c.loop-i.i c.args.places.now) (take c.loop-i.i c.args.times.now) in
    let low = c.requires.places c.loop-i.i 0 c.loop-i-test.true in
    let fits = next-fits (2 ^ 64) c.args.weight c.args.totals.now.items c.args.places.now c.args.times.now c.loop-i.i
    (all-rec (λ t. t < 2 ^ 64) (added_at c.args.weight c.args.totals.now.items (repeated c.args.places.now c.args.times.now)) c.requires.fits) c.loop-i-test.true c.requires.many low in
    let here = c.index_mut.ensures.value
    ∙ (get_or_default c.loop-i.totals.items place c.index_mut.result.now 0 (omega (arith, ap length c.loop-i.invariant, length-added c.args.weight c.args.totals.now.items done, low))
    ∙ ap (λ (ts : List ℕ). get_or ts place 0) c.loop-i.invariant) in
    omega (arith, fits, here, ap (λ (n : ℕ). n * c.args.weight) c.from.ensures)

pub loop-i-preserved : goal.loop-i-preserved
loop-i-preserved c =
    let place : ℕ = get_or c.args.places.now c.loop-i.i 0 in
    let done = repeated (take c.loop-i.i c.args.places.now) (take c.loop-i.i c.args.times.now) in
    let low = c.requires.places c.loop-i.i 0 c.loop-i-test.true in
    let here = c.index_mut.ensures.value
    ∙ (get_or_default c.loop-i.totals.items place c.index_mut.result.now 0 (omega (arith, ap length c.loop-i.invariant, length-added c.args.weight c.args.totals.now.items done, low))
    ∙ ap (λ (ts : List ℕ). get_or ts place 0) c.loop-i.invariant) in
    (λ k. set (c.loop-i.invariant k) place (here k + c.from.ensures k * c.args.weight))
    ∙ sym (added-more c.args.weight c.args.totals.now.items c.args.places.now c.args.times.now c.loop-i.i c.loop-i-test.true c.requires.many low)
