use Rattle.run_desks.proofs.Begun.{AskedLaws, begun_from_one, begun_is_asked, line_of_begun, same_query}
use Rattle.run_desks.proofs.laws.begun_query_is_asked.Goals as goal

pub returns-clause-line : goal.returns-clause-line
returns-clause-line g c = λ place number at documents b.
    let asked = g.N.RunName.asked in
    let laws : AskedLaws asked.lines = record { asked = c.comings_in_order.ensures.asked asked.lines; left = c.comings_in_order.ensures.left asked.lines } in
    line_of_begun asked place number at documents b (begun_is_asked asked place number at documents b laws)

pub returns-clause-from_one : goal.returns-clause-from_one
returns-clause-from_one g c = λ place number at documents b.
    let asked = g.N.RunName.asked in
    let laws : AskedLaws asked.lines = record { asked = c.comings_in_order.ensures.asked asked.lines; left = c.comings_in_order.ensures.left asked.lines } in
    begun_from_one asked place number at documents b (begun_is_asked asked place number at documents b laws)

pub returns-clause-same : goal.returns-clause-same
returns-clause-same g c = λ place number at documents b ask is_ask here.
    let asked = g.N.RunName.asked in
    let laws : AskedLaws asked.lines = record { asked = c.comings_in_order.ensures.asked asked.lines; left = c.comings_in_order.ensures.left asked.lines } in
    same_query asked place number at documents b (begun_is_asked asked place number at documents b laws) ask is_ask here
