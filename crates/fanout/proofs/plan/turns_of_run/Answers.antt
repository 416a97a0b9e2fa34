use Rattle.std.proofs.lemmas.Result.{IfOk-weaker}
use Rattle.run_plan.specs.Turns.{AreTurnsOf}
use Rattle.fanout.proofs.plan.turns_of_run.Goals as goal

pub returns-clause-turns : goal.returns-clause-turns
returns-clause-turns g c =
    let asked = g.N.RunName.asked in
    IfOk-weaker c.plan.result (λ turns. AreTurnsOf c.args.lines.now turns.items) (λ turns. AreTurnsOf asked.lines turns.items)
    (λ turns are. c.alike_lines_have_the_same_turns.ensures.turns c.args.lines.now asked.lines turns.items c.requires.alike are) c.plan.ensures.turns
