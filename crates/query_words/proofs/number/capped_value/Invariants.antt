use Rattle.std.proofs.Common.{◌≡◌, min, take, true}
use Rattle.std.specs.Char.{is_ascii_digit}
use Rattle.std.specs.List.{list_all}
use Rattle.query_words.specs.Numbers.{number_of}
use Rattle.query_words.proofs.number.capped_value.Given as goal

abbrev pub invariant-loop-digit : goal.invariant-loop-digit
invariant-loop-digit l = record {
  digits : list_all is_ascii_digit (take l.digit-index l.digits) ≡ true;
  value : l.value ≡ min (number_of (take l.digit-index l.digits)) 18446744073709551616;
}
