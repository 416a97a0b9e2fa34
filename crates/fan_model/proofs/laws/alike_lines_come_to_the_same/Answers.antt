use Rattle.fan_model.proofs.AlikeLaws.{same_answered, same_comings}
use Rattle.fan_model.proofs.laws.alike_lines_come_to_the_same.Goals as goal

pub returns-clause-answered : goal.returns-clause-answered
returns-clause-answered c =
    let alike = c.alike_lines_ask_the_same.ensures in
    λ lines others is. same_answered lines others (λ a. alike.outcome lines others a is) (λ a. alike.due lines others a is) (alike.asked lines others is)

pub returns-clause-comings : goal.returns-clause-comings
returns-clause-comings c =
    let alike = c.alike_lines_ask_the_same.ensures in
    λ lines others is.
    same_comings lines others (λ a. alike.outcome lines others a is) (λ a. alike.due lines others a is) (alike.asked lines others is) (alike.left lines others is)
