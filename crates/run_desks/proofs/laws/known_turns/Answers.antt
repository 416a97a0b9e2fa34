use Rattle.run_desks.proofs.Begun.{TurnLaws, turn_at}
use Rattle.run_desks.proofs.laws.known_turns.Goals as goal

pub returns-clause-each : goal.returns-clause-each
returns-clause-each g c =
    let asked = g.N.RunName.asked in
    let laws : TurnLaws asked = record { begun = c.turns_are_of_the_run.ensures.begun; cancelled = c.turns_are_of_the_run.ensures.cancelled } in
    turn_at asked laws
