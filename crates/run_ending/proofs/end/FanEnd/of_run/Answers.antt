use Rattle.std.proofs.Common.{refl}
use Rattle.run_ending.proofs.Outcomes.{ended}
use Rattle.run_ending.proofs.end.FanEnd.of_run.Goals as goal

pub returns-clause-ends : goal.returns-clause-ends
returns-clause-ends c = λ asked start now wrote stopped told. ended start now asked _ c.args.note c.args.fine c.args.outcome c.outcome_if.ensures wrote told (λ none. absurd (cc)) refl stopped
