use Rattle.std.proofs.Common.{◌≡◌, ◌+◌, [], ◌∷◌, length, map, refl, ap, sym, subst, ◌∙◌, arith}
use Rattle.std.specs.List.{All}
use Rattle.std.proofs.lemmas.List.{length-map}
use Rattle.keep_alive.specs.Seen.{TokenSeen}
use Rattle.pool_model.specs.Seen.{PoolId, PassSeen}
use Rattle.prio_pool.specs.Made.{pool_of, new_passes, new_workers, new_ends, IsPlace, worker_seen, helper_seen}
use Rattle.prio_pool.specs.Passes.{TookNothing}
use Rattle.prio_pool.proofs.Listing.{count_passes, count_takers, each_place, each_took_none, are_workers, are_helpers, same_places}
use Rattle.prio_pool.specs.Sleeping.{bits_of}
use Rattle.prio_pool.proofs.Sleeping.{have_bits}
use Rattle.prio_pool.proofs.new.assemble.Goals as goal

pub adder_passes-adders-requires-clause-list : goal.adder_passes-adders-requires-clause-list
adder_passes-adders-requires-clause-list g c =
    let s = c.args.size in
    let i = c.args.inner in
    let pool : PoolId = pool_of s.adders s.workers s.helpers i.queues.items i.mark in
    let passes = new_passes pool 0 s.adders in
    (c.requires.empty.0, omega (arith, ap length c.requires.all.places_are, length-map passes (λ (p : PassSeen). p ∷ []), count_passes pool 0 s.adders, c.requires.room.0))

pub adder_passes-adders-requires-clause-parts : goal.adder_passes-adders-requires-clause-parts
adder_passes-adders-requires-clause-parts g c =
    let s = c.args.size in
    let i = c.args.inner in
    let pool : PoolId = pool_of s.adders s.workers s.helpers i.queues.items i.mark in
    let passes = new_passes pool 0 s.adders in
    let count : s.adders ≡ length i.places = omega (arith, ap length c.requires.all.places_are, length-map passes (λ (p : PassSeen). p ∷ []), count_passes pool 0 s.adders) in
    c.requires.all.seat_is ∙ (λ k. record { mark = i.mark.mark; parts = count k })

pub adder_passes-adders-requires-clause-each : goal.adder_passes-adders-requires-clause-each
adder_passes-adders-requires-clause-each g c =
    let s = c.args.size in
    let i = c.args.inner in
    let pool : PoolId = pool_of s.adders s.workers s.helpers i.queues.items i.mark in
    subst (All (IsPlace i.mark.mark)) (sym c.requires.all.places_are) (each_place pool 0 s.adders)

pub worker_passes-workers-requires-clause-list : goal.worker_passes-workers-requires-clause-list
worker_passes-workers-requires-clause-list g c =
    let s = c.args.size in
    let i = c.args.inner in
    let pool : PoolId = pool_of s.adders s.workers s.helpers i.queues.items i.mark in
    (c.requires.empty.1, omega (arith, ap length c.requires.all.works_are, count_takers pool 0 s.workers, c.requires.room.1))

pub worker_passes-workers-requires-clause-parkers : goal.worker_passes-workers-requires-clause-parkers
worker_passes-workers-requires-clause-parkers g c =
    let s = c.args.size in
    let i = c.args.inner in
    let pool : PoolId = pool_of s.adders s.workers s.helpers i.queues.items i.mark in
    c.requires.parkers ∙ (sym (have_bits pool 0 s.workers) ∙ ap bits_of (sym c.requires.all.works_are))

pub worker_passes-workers-requires-clause-each : goal.worker_passes-workers-requires-clause-each
worker_passes-workers-requires-clause-each g c =
    let s = c.args.size in
    let i = c.args.inner in
    let pool : PoolId = pool_of s.adders s.workers s.helpers i.queues.items i.mark in
    subst (All TookNothing) (sym c.requires.all.works_are) (each_took_none pool 0 s.workers)

pub helper_passes-helpers-requires-clause-list : goal.helper_passes-helpers-requires-clause-list
helper_passes-helpers-requires-clause-list g c =
    let s = c.args.size in
    let i = c.args.inner in
    let pool : PoolId = pool_of s.adders s.workers s.helpers i.queues.items i.mark in
    (c.requires.empty.2, omega (arith, ap length c.requires.all.helps_are, count_takers pool s.workers s.helpers, c.requires.room.2))

pub helper_passes-helpers-requires-clause-each : goal.helper_passes-helpers-requires-clause-each
helper_passes-helpers-requires-clause-each g c =
    let s = c.args.size in
    let i = c.args.inner in
    let pool : PoolId = pool_of s.adders s.workers s.helpers i.queues.items i.mark in
    subst (All TookNothing) (sym c.requires.all.helps_are) (each_took_none pool s.workers s.helpers)

pub returns : goal.returns
returns g c =
    let s = c.args.size in
    let i = c.args.inner in
    let pool : PoolId = pool_of s.adders s.workers s.helpers i.queues.items i.mark in
    let keep : c.args.keeping.1 ≡ c.of.result.value = sym c.of.ensures in
    let kept = c.kept_by-mark.ensures in
    let id : pool ≡ record { queues = i.queues.items; passes = s.adders + s.workers + s.helpers; mark = c.kept_by-mark.result.mark } = λ k. record { queues = i.queues.items; passes = s.adders + s.workers + s.helpers; mark = (sym kept k).mark } in
    record {
      exec_is = refl;
      queues = c.requires.queues;
      adders_are = refl;
      workers_are = refl;
      helpers_are = refl;
      owner_is = c.requires.keeping.0 ∙ ap (λ (k : TokenSeen). k.count) keep;
      keep_is = (λ k. record { count = (keep k).count; room = c.args.keeping.1.room; first_room = c.requires.keeping.1 k });
      passes_are = same_places c.adder_passes-adders.result.items (new_passes pool 0 s.adders) (c.adder_passes-adders.ensures ∙ c.requires.all.places_are) ∙ ap (λ (p : PoolId). new_passes p 0 s.adders) id;
      works_are = c.worker_passes-workers.ensures ∙ (ap (map worker_seen) c.requires.all.works_are ∙ (are_workers pool 0 s.workers ∙ ap (λ (p : PoolId). new_workers p 0 s.workers) id));
      helps_are = c.helper_passes-helpers.ensures ∙ (ap (map helper_seen) c.requires.all.helps_are ∙ (are_helpers pool s.workers s.helpers ∙ ap (λ (p : PoolId). new_ends p s.workers s.helpers) id));
    }
