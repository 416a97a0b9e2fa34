use Rattle.std.proofs.Common.{rules}
use Rattle.run_threads.proofs.running.run_side.Goals as goal

pub returns-clause-front : goal.returns-clause-front
returns-clause-front g c = record {
  side = c.in-Some.side;
  held_it = search rules;
  ran = record {
    mid = c.begin_beside.new.front;
    left = c.begin_beside.new.workers.items;
    has_begun = c.begin_beside.ensures.front;
    worked = c.begin_beside.ensures.workers;
    has_ended = c.end.ensures;
  };
}
