use Rattle.std.proofs.Common.{◌≡◌, [], length, All, ap, sym, subst, ◌∙◌, arith}
use Rattle.std.proofs.lemmas.List.Elements.{All-pop}
use Rattle.pool_model.specs.Passes.{adds_of}
use Rattle.pool_model.specs.Seen.{PassSeen, WorkerSeen, EndSeen}
use Rattle.pool_tests.proofs.Lists.{one_has, slots_have, count_workers, count_helpers, one_helper, none_left_of}
use Rattle.pool_tests.proofs.tests.open_pool.Goals as goal

pub destroy_empty-requires : goal.destroy_empty-requires
destroy_empty-requires g c =
    let parts = c.new_pool-pool.ensures in
    let made = c.new_pool-pool.result in
    let count = ap length parts.helps_are ∙ count_helpers made.pool.id c.args.workers c.args.helpers in
    none_left_of c.pop-helper.result (omega (arith, count, made.helpers.ok.0, c.requires.helpers)) c.pop-helper.ensures.cases

pub returns-clause-adding : goal.returns-clause-adding
returns-clause-adding g c =
    let parts = c.new_pool-pool.ensures in
    let made = c.new_pool-pool.result in
    let id = made.pool.id in
    let Unused : PassSeen → Type 0 = λ p. (p.pool ≡ id) × (adds_of p ≡ []) in
    let unused = one_has Unused made.adders.items c.only_of-pass.result c.only_of-pass.ensures (subst (All Unused) (sym parts.passes_are) (c.new_passes_are_unused.ensures.passes id 0 1)) in
    let OfPool : EndSeen → Type 0 = λ e. e.pool ≡ id in
    let all = subst (All OfPool) (sym parts.helps_are) (c.new_passes_are_unused.ensures.helpers id c.args.workers c.args.helpers) in
    let count = ap length parts.helps_are ∙ count_helpers id c.args.workers c.args.helpers in
    let of_pool = (All-pop OfPool made.helpers.items c.pop-helper.new.self.items c.pop-helper.result c.pop-helper.ensures.items all).1 in
    record {
      exec = ap (λ e. e.0) parts.exec_is;
      one = parts.adders_are;
      owner_is = parts.owner_is;
      keep_is = ap (λ k. k.count) parts.keep_is;
      pass_is = unused.0;
      added = ap length unused.1;
      helps = one_helper made.pool c.args.helpers _ _ c.pop-helper.result c.requires.helpers parts.helpers_are (omega (arith, count, made.helpers.ok.0)) of_pool c.pop-helper.ensures.cases;
    }

pub returns-clause-workers : goal.returns-clause-workers
returns-clause-workers g c =
    let parts = c.new_pool-pool.ensures in
    let id = c.new_pool-pool.result.pool.id in
    let OfPool : WorkerSeen → Type 0 = λ w. w.pool ≡ id in
    slots_have (λ s. s.pass) OfPool c.new_pool-pool.result.workers.items c.new_slots.result.items (subst (All OfPool) (sym parts.works_are) (c.new_passes_are_unused.ensures.workers id 0 c.args.workers)) c.new_slots.ensures.passes

pub returns-clause-count : goal.returns-clause-count
returns-clause-count g c =
    let parts = c.new_pool-pool.ensures in
    (c.new_slots.ensures.count ∙ (ap length parts.works_are ∙ count_workers c.new_pool-pool.result.pool.id 0 c.args.workers), parts.workers_are)
