use Rattle.std.proofs.Common.{◌≡◌}
use Rattle.notify_queue.specs.Passes.{IsFirstPassOf, known_by}
use Rattle.notify_queue.proofs.channel.Channel.claim.Given as goal

abbrev pub invariant-loop : goal.invariant-loop
invariant-loop g l = record {
  pass_of : IsFirstPassOf l.self.line l.pass;
  same : known_by l.pass ≡ known_by l.initial.pass;
}
