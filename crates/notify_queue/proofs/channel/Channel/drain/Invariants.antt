use Rattle.std.proofs.Common.{◌≡◌, ◌++◌, length, reverse}
use Rattle.notify_queue.specs.Passes.{IsFirstPassOf, known_by}
use Rattle.notify_queue.proofs.channel.Channel.drain.Given as goal

abbrev pub invariant-loop : goal.invariant-loop
invariant-loop g l = record {
  pass_of : IsFirstPassOf l.self.line l.pass;
  same : ((known_by l.pass).made ≡ (known_by l.initial.pass).made) × ((known_by l.pass).ended ≡ (known_by l.initial.pass).ended);
  taken : (known_by l.pass).taken ≡ (known_by l.initial.pass).taken ++ reverse l.packets;
  count : l.len ≡ length l.packets;
}
