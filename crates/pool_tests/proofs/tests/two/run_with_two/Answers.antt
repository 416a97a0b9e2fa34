use Rattle.std.proofs.Common.{◌≡◌, All, ap, subst, sym}
use Rattle.pool_model.specs.Seen.{WorkerSeen}
use Rattle.pool_tests.proofs.Lists.{two_new, two_helpers, slots_have}
use Rattle.pool_tests.proofs.tests.two.run_with_two.Goals as goal

pub add_rows_with_two-requires-clause-first : goal.add_rows_with_two-requires-clause-first
add_rows_with_two-requires-clause-first g c =
    let parts = c.new_pool-pool.ensures in
    let made = c.new_pool-pool.result in
    let id = made.pool.id in
    (two_new made.pool made.adders.items _ c.both_of-first.result.0 c.both_of-first.result.1 parts.passes_are c.both_of-first.ensures (c.new_passes_are_unused.ensures.passes id 0 2) (c.new_passes_are_unused.ensures.numbered id 2)).0

pub add_rows_with_two-requires-clause-second : goal.add_rows_with_two-requires-clause-second
add_rows_with_two-requires-clause-second g c =
    let parts = c.new_pool-pool.ensures in
    let made = c.new_pool-pool.result in
    let id = made.pool.id in
    (two_new made.pool made.adders.items _ c.both_of-first.result.0 c.both_of-first.result.1 parts.passes_are c.both_of-first.ensures (c.new_passes_are_unused.ensures.passes id 0 2) (c.new_passes_are_unused.ensures.numbered id 2)).1

pub add_rows_with_two-requires-clause-exec : goal.add_rows_with_two-requires-clause-exec
add_rows_with_two-requires-clause-exec g c = ap (λ e. e.0) c.new_pool-pool.ensures.exec_is

pub add_rows_with_two-requires-clause-keep : goal.add_rows_with_two-requires-clause-keep
add_rows_with_two-requires-clause-keep g c = ap (λ k. k.count) c.new_pool-pool.ensures.keep_is

pub help_with-requires : goal.help_with-requires
help_with-requires g c =
    let parts = c.new_pool-pool.ensures in
    let made = c.new_pool-pool.result in
    (two_helpers made.pool.id made.helpers.items _ c.both_of-one.result.0 c.both_of-one.result.1 parts.helps_are c.both_of-one.ensures (c.new_passes_are_unused.ensures.helpers made.pool.id 1 2)).0

pub help_with-requires-2 : goal.help_with-requires-2
help_with-requires-2 g c =
    let parts = c.new_pool-pool.ensures in
    let made = c.new_pool-pool.result in
    (two_helpers made.pool.id made.helpers.items _ c.both_of-one.result.0 c.both_of-one.result.1 parts.helps_are c.both_of-one.ensures (c.new_passes_are_unused.ensures.helpers made.pool.id 1 2)).1

pub begin_with_two-begun-requires-clause-owner : goal.begin_with_two-begun-requires-clause-owner
begin_with_two-begun-requires-clause-owner g c = c.new_pool-pool.ensures.owner_is

pub begin_with_two-begun-requires-clause-adders : goal.begin_with_two-begun-requires-clause-adders
begin_with_two-begun-requires-clause-adders g c = c.new_pool-pool.ensures.adders_are

pub begin_with_two-begun-requires-clause-helpers : goal.begin_with_two-begun-requires-clause-helpers
begin_with_two-begun-requires-clause-helpers g c = (c.new_pool-pool.ensures.helpers_are, c.help_with.ensures, c.help_with-2.ensures)

pub work_at-ends-requires-clause-workers : goal.work_at-ends-requires-clause-workers
work_at-ends-requires-clause-workers g c =
    let parts = c.new_pool-pool.ensures in
    let made = c.new_pool-pool.result in
    let OfPool : WorkerSeen → Type 0 = λ w. w.pool ≡ made.pool.id in
    slots_have (λ s. s.pass) OfPool made.workers.items c.new_slots.result.items (subst (All OfPool) (sym parts.works_are) (c.new_passes_are_unused.ensures.workers made.pool.id 0 1)) c.new_slots.ensures.passes

pub work_at-ends-requires-clause-ends : goal.work_at-ends-requires-clause-ends
work_at-ends-requires-clause-ends g c = c.new_slots.ensures.ends

pub end_pool-requires-clause-begun : goal.end_pool-requires-clause-begun
end_pool-requires-clause-begun g c = c.begin_with_two-begun.ensures

pub end_pool-requires-clause-ends : goal.end_pool-requires-clause-ends
end_pool-requires-clause-ends g c = c.work_at-ends.ensures
