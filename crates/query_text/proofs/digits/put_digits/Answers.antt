use Rattle.std.proofs.Common.{arith, length-set, ◌-◌, ◌+◌, ◌%◌, ◌∙◌}
use Rattle.query_text.proofs.DigitLemmas.{put_last, put_more, put_none, some_room}
use Rattle.query_text.proofs.digits.put_digits.Goals as goal

pub digits-init : goal.digits-init
digits-init c = record {
  full = c.told-digits;
  put = put_none c.args.number c.args.digits.now (omega arith) c.told-digits;
}

pub overflow_sub-first : goal.overflow_sub-first
overflow_sub-first c = some_room c.args.number c.digits.rest c.digits.first c.digits.digits c.digits.invariant.put (omega arith)

pub digits-preserved : goal.digits-preserved
digits-preserved c = record {
  full = length-set c.digits.digits (c.digits.first - 1) (48 + c.digits.rest % 10) ∙ c.digits.invariant.full;
  put = put_more c.args.number c.digits.rest c.digits.first c.digits.digits c.digits.invariant.put c.digits-test.true (omega arith) c.digits.invariant.full;
}

pub overflow_sub-first-2 : goal.overflow_sub-first-2
overflow_sub-first-2 c = some_room c.args.number c.digits.rest c.digits.first c.digits.digits c.digits.invariant.put (omega arith)

pub returns-clause-digits : goal.returns-clause-digits
returns-clause-digits c = put_last c.args.number c.digits.rest c.digits.first c.digits.digits c.digits.invariant.put c.digits-test.false c.digits.invariant.full
