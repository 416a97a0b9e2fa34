use Rattle.std.proofs.Common.{◌≡◌, ℕ, List, [], ◌∷◌, sym, subst, All}
use Rattle.std.specs.Prelude.{Option}
use Rattle.std.proofs.lemmas.List.Elements.{All-head}
use Rattle.pool_model.specs.Passes.{adds_of}
use Rattle.pool_model.specs.Seen.{PassSeen}
use Rattle.prio_pool.specs.Made.{new_pass}
use Rattle.run_plan.specs.declared.turn.Turn.{Turn}
use Rattle.fanout.specs.Plans.{IsTimed}
use Rattle.fanout.proofs.Running.{may_run, side_of_run}
use Rattle.fanout.proofs.Starts.{side_start}
use Rattle.fanout.proofs.inside.run_opened.Goals as goal

pub run_stages-printed-requires-clause-printer : goal.run_stages-printed-requires-clause-printer
run_stages-printed-requires-clause-printer g c κs within = c.a_setup_is_ready.ensures.printer c.requires.setup.0 c.args.setup.printer c.requires.setup.2.printer

pub run_stages-printed-requires-clause-gatherers : goal.run_stages-printed-requires-clause-gatherers
run_stages-printed-requires-clause-gatherers g c κs within = c.a_setup_is_ready.ensures.gatherers c.requires.setup.0 c.args.setup.gatherers.items c.requires.tables.0 c.requires.setup.2.gatherers c.requires.tables.1 c.requires.tables.2

pub run_stages-printed-requires-clause-workers : goal.run_stages-printed-requires-clause-workers
run_stages-printed-requires-clause-workers g c κs within = c.a_setup_is_ready.ensures.workers c.requires.setup.0 c.args.setup.pool.id c.args.setup.workers.items c.requires.setup.2.workers

pub run_stages-printed-requires-clause-front : goal.run_stages-printed-requires-clause-front
run_stages-printed-requires-clause-front g c κs within =
    let asked = g.N.RunName.asked in
    let ids = c.requires.setup.0 in
    let setup = c.requires.setup.2 in
    let plan = c.requires.plan in
    let pool = c.args.setup.pool.id in
    let unused : All (λ (p : PassSeen). (p.pool ≡ pool) × (adds_of p ≡ [])) (new_pass pool 0 ∷ []) = c.new_passes_are_unused.ensures.passes pool 0 1 in
    let first : (pool ≡ pool) × (adds_of (new_pass pool 0) ≡ []) = All-head (λ (p : PassSeen). (p.pool ≡ pool) × (adds_of p ≡ [])) (new_pass pool 0) [] unused in
    let new = c.new-front.ensures in
    let timed : IsTimed asked c.args.plan.now.turns.now c.args.plan.now.stop = record { limits = plan.limits; turns_are = plan.turns_are; stops = plan.stops } in
    may_run asked ids _ _ c.args.setup.pool c.args.setup.workers.items _ new.start new.none.0 new.room new.none.1
    (subst (λ (turns : List Turn). IsTimed asked turns c.new-front.result.stop) (sym new.turns.0) (subst (λ (stop : Option ℕ). IsTimed asked c.args.plan.now.turns.now stop) (sym new.turns.1) timed))
    (side_start asked ids _ c.args.setup.pool c.args.setup.workers.items _ plan.lines_are c.all.ensures.are.as_many plan.bases_are plan.countable
    setup.world setup.poster setup.pool setup.workers setup.ends setup.no_helped setup.for_helped) first.1

pub put_together-requires-clause-ready : goal.put_together-requires-clause-ready
put_together-requires-clause-ready g c =
    let asked = g.N.RunName.asked in
    let ids = c.requires.setup.0 in
    let setup = c.requires.setup.2 in
    let plan = c.requires.plan in
    let stages = c.run_stages-printed.ensures in
    let result = c.run_stages-printed.result in
    let side = side_of_run asked ids _ result.front _ c.args.setup.pool c.args.setup.workers.items _ _ stages.front c.into_end-end.ensures c.new-front.ensures.start c.new-front.ensures.room
    (side_start asked ids _ c.args.setup.pool c.args.setup.workers.items _ plan.lines_are c.all.ensures.are.as_many plan.bases_are plan.countable
    setup.world setup.poster setup.pool setup.workers setup.ends setup.no_helped setup.for_helped) in (
      ids,
      record {
        side = side;
        all = record {
          bases = setup.bases;
          rooms = setup.back;
          gathered = c.what_ran_can_be_closed.ensures.gathered ids c.args.setup.gatherers.items result.gatherers.items setup.gatherers stages.gatherers;
          printed = c.what_ran_can_be_closed.ensures.printed ids c.args.setup.printer result.printed.base setup.printer stages.base;
          worked = side.worlds;
          front_ended = side.tasks;
          poster_ended = side.poster;
        };
      },
    )

pub returns : goal.returns
returns g c = c.put_together.ensures _ _ c.run_stages-printed.ensures.printed
