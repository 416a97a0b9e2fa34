use Rattle.std.proofs.Common.{length, subst, sym}
use Rattle.fan_base.specs.declared.outcome.Try.{Try}
use Rattle.fan_parts.specs.Seen.{PlacedSeen}
use Rattle.run_gathering.specs.Gathering.{IsValue}
use Rattle.run_gathering.proofs.Counting.{posted, put_fire, unposted}
use Rattle.run_gathering.proofs.world.Gathering.fulfil.Goals as goal

pub returns-in-Ok-clause-did : goal.returns-in-Ok-clause-did
returns-in-Ok-clause-did g c =
    posted (record { printer = c.self.inside.printer; tally = c.self.inside.tally; refused = c.self.inside.refused; waiting = length c.self.inside.scorings.items }) c.args.self.now c.post.new.self c.fulfil_awaited-fire.new.t _
    c.self.view_is c.in-Ok.ensures.ok c.fulfil_awaited-fire.ensures.tally
    (λ calm. subst (λ (o : Try PlacedSeen). IsValue o) (sym c.fulfil_awaited-fire.ensures.fire.1) (c.requires.answer calm))

pub returns-in-Ok-clause-fire : goal.returns-in-Ok-clause-fire
returns-in-Ok-clause-fire g c = λ calm.
    put_fire (record { printer = c.self.inside.printer; tally = c.self.inside.tally; refused = c.self.inside.refused; waiting = length c.self.inside.scorings.items }) c.args.self.now c.post.new.self c.fulfil_awaited-fire.new.t _ c.args.outcome
    c.self.view_is c.in-Ok.ensures.ok c.fulfil_awaited-fire.ensures.fire.1

pub returns-in-Err-Memory-clause-did : goal.returns-in-Err-Memory-clause-did
returns-in-Err-Memory-clause-did g c =
    unposted (record { printer = c.self.inside.printer; tally = c.self.inside.tally; refused = c.self.inside.refused; waiting = length c.self.inside.scorings.items }) c.args.self.now c.post.new.self c.spend_print_job.new.t
    c.self.view_is c.in-Err-Memory.ensures.refused.1
