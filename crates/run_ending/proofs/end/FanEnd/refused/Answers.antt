use Rattle.std.proofs.Common.{refl, rules}
use Rattle.run_ending.proofs.Outcomes.{refused_end}
use Rattle.run_ending.proofs.end.FanEnd.refused.Goals as goal

pub returns : goal.returns
returns c = λ asked start. refused_end asked start _ refl refl (record { queues = search rules; cores = search rules })
