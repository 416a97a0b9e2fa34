use Rattle.std.proofs.Common.{◌≡◌, ◌++◌, map}
use Rattle.std.specs.List.{All}
use Rattle.std.specs.Vec.Iter.{into_iter_items}
use Rattle.notify_queue.specs.Ends.{whole_of}
use Rattle.notify_queue.specs.Passes.{IsFirstPassOf, known_by}
use Rattle.notify_queue.proofs.channel.Channel.join_ends.Given as goal

abbrev pub invariant-loop-end : goal.invariant-loop-end
invariant-loop-end g l = record {
  pass_of : IsFirstPassOf l.self.line l.pass;
  left : All (λ e. e.queue.line ≡ l.self.line) (into_iter_items l.end-iterator);
  all : l.yielded ++ into_iter_items l.end-iterator ≡ l.fn.ends.items;
  same : ((known_by l.pass).made ≡ (known_by l.initial.pass).made) × ((known_by l.pass).taken ≡ (known_by l.initial.pass).taken);
  ended : (known_by l.pass).ended ≡ (known_by l.initial.pass).ended ++ map whole_of l.yielded;
}
