use Rattle.run_plan.proofs.Stops.{no_place, some_place}
use Rattle.run_plan.proofs.stopping.stop_place.Goals as goal

pub returns-clause-some : goal.returns-clause-some
returns-clause-some c = λ lines are.
    some_place lines c.args.turns.now c.args.stop_at c.in_ok-stop.stop c.place_behind.result c.in_ok-stop.was (c.comings_in_order.ensures.begun lines) are c.place_behind.ensures.some

pub returns-clause-none : goal.returns-clause-none
returns-clause-none c = λ lines are.
    no_place lines c.args.turns.now c.args.stop_at c.in_ok-stop.stop c.place_behind.result c.in_ok-stop.was (c.comings_in_order.ensures.begun lines) are c.place_behind.ensures.none
