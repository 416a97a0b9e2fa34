use Rattle.std.proofs.Common.{◌≡◌, length}
use Rattle.query_text.proofs.DigitLemmas.{ArePut}
use Rattle.query_text.proofs.digits.put_digits.Given as goal

abbrev pub invariant-digits : goal.invariant-digits
invariant-digits l = record {
  full : length l.digits ≡ 20;
  put : ArePut l.number l.rest l.first l.digits;
}

abbrev pub decreases-digits : goal.decreases-digits
decreases-digits l = l.rest
