use Rattle.std.proofs.Common.{◌≡◌, rules}
use Rattle.event_base.specs.Calls.{Call}
use Rattle.fan_base.specs.declared.refusal.Refused.TheVariants.{Memory}
use Rattle.event_base.proofs.Calling.{reached_if}
use Rattle.event_base.proofs.agenda.Agenda.run_this_iteration.Goals as goal

pub returns-clause-calls : goal.returns-clause-calls
returns-clause-calls g c =
    reached_if g.J.Headed.head (λ back. back ≡ Memory c.args.job) _ _ (Call.run_this_iteration c.args.job) c.push_with_room.result c.requires (search rules) (search rules)
