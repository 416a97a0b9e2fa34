use Rattle.std.proofs.Common.{◌≡◌, rules}
use Rattle.event_base.specs.Calls.{Call}
use Rattle.fan_base.specs.declared.refusal.Refused.TheVariants.{Memory}
use Rattle.event_base.proofs.Calling.{reached_if}
use Rattle.event_base.proofs.agenda.Agenda.run_in_loop.Goals as goal

pub returns-then-self-clause-calls : goal.returns-then-self-clause-calls
returns-then-self-clause-calls g c =
    reached_if g.J.Headed.head (λ back. back ≡ Memory c.args.job) _ _ (Call.run_in_loop c.args.job) c.push_behind.result c.requires (search rules) (search rules)

pub returns-else-self-clause-calls : goal.returns-else-self-clause-calls
returns-else-self-clause-calls g c =
    reached_if g.J.Headed.head (λ back. back ≡ Memory c.args.job) _ _ (Call.run_in_loop c.args.job) c.push_with_room.result c.requires (search rules) (search rules)
