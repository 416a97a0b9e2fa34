use Rattle.fanout.proofs.front.first.Goals as goal

pub returns : goal.returns
returns g c = record {
  added = c.first_phase.ensures.added;
  some = c.first_phase.ensures.some;
  pool_is = c.first_phase.ensures.pool;
  passes = c.first_phase.ensures.passes;
  one = c.first_phase.ensures.adders;
  stops = c.first_phase.ensures.stops;
  helped = c.first_phase.ensures.helped;
  made = c.first_phase.ensures.made;
  front = c.first_phase.ensures.front;
  printer = c.first_phase.ensures.printer;
}
