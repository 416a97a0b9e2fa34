use Rattle.std.proofs.Common.{◌≡◌, min, take, true}
use Rattle.std.specs.Char.{is_ascii_digit}
use Rattle.std.specs.List.{list_all}
use Rattle.query_model.specs.Numbers.{number_of}
use Rattle.query_text.proofs.number.capped_value.Given as goal

abbrev pub invariant-loop-digit : goal.invariant-loop-digit
invariant-loop-digit l = record {
  digits : list_all is_ascii_digit (take l.digit-index l.digits) ≡ true;
  value : l.value ≡ min (number_of (take l.digit-index l.digits)) 4294967296;
}
