use Rattle.run_plan.proofs.Alike.{counts_of_alike, turns_of_alike}
use Rattle.run_plan.proofs.laws.alike_lines_have_the_same_turns.Goals as goal

pub returns-clause-turns : goal.returns-clause-turns
returns-clause-turns c = λ lines others turns is are.
    turns_of_alike lines others turns (λ a. c.alike_lines_ask_the_same.ensures.before lines others a is) (c.alike_lines_come_to_the_same.ensures.comings lines others is) are

pub returns-clause-counts : goal.returns-clause-counts
returns-clause-counts c = λ lines others bases counted is counts.
    counts_of_alike lines others bases counted (c.alike_lines_come_to_the_same.ensures.answered lines others is) counts
