use Rattle.fan_model.specs.Comings.{Coming, query_of}
use Rattle.query_opening.proofs.Begun.{is_asked}
use Rattle.run_plan.proofs.Coming.{number_is_few}
use Rattle.run_plan.proofs.laws.comings_are_queries.Goals as goal

pub returns-clause-number : goal.returns-clause-number
returns-clause-number c = λ lines place coming comes.
    number_is_few lines (query_of coming) (c.queries_are_numbered.ensures.numbers lines)
    (is_asked lines place coming (c.comings_in_order.ensures.asked lines) (c.comings_in_order.ensures.left lines) comes.at)

pub returns-clause-line : goal.returns-clause-line
returns-clause-line c = λ lines place asked comes.
    (is_asked lines place (Coming.begins asked) (c.comings_in_order.ensures.asked lines) (c.comings_in_order.ensures.left lines) comes.at).line

pub returns-clause-from_one : goal.returns-clause-from_one
returns-clause-from_one c = λ lines place asked comes.
    (is_asked lines place (Coming.begins asked) (c.comings_in_order.ensures.asked lines) (c.comings_in_order.ensures.left lines) comes.at).from_one
