use Rattle.run_plan.proofs.Coming.{begun_more, between_all, between_first, between_last, cancelled_more, next_is_begun, next_is_cancelled, none_between}
use Rattle.run_plan.proofs.laws.place_by_place.Goals as goal

pub returns : goal.returns
returns c = record {
  none = none_between;
  begun = begun_more;
  cancelled = cancelled_more;
  before = between_first;
  behind = between_last;
  all = λ lines turns are. between_all lines turns (c.comings_in_order.ensures.begun lines) are;
  next_begun = next_is_begun;
  next_cancelled = next_is_cancelled;
}
