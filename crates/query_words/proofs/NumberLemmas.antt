-- One more digit of a number that stays at a cap.
use Rattle.std.proofs.Common.{◌≡◌, ℕ, ◌+◌, ◌-◌, ◌*◌, ◌<◌, ◌≤◌, List, length, take, get_or, min, arith}
use Rattle.std.proofs.lemmas.Bool.Decides.{nat_tests}
use Rattle.std.specs.Char.{digit_value}
use Rattle.std.proofs.lemmas.Int.Digits.{digits_value_more}
use Rattle.query_words.specs.Numbers.{number_of}

digit_value-digit : (c : ℕ) → 48 ≤ c → c ≤ 57 → digit_value c ≡ c - 48
digit_value-digit c low high = grind (arith, nat_tests)

min-step : (v d : ℕ) → min (min v 18446744073709551616 * 10 + d) 18446744073709551616 ≡ min (v * 10 + d) 18446744073709551616
min-step v d = omega arith

pub capped_more : (digits : List ℕ) (i value : ℕ) → i < length digits → 48 ≤ get_or digits i 0 → get_or digits i 0 ≤ 57 → value ≡ min (number_of (take i digits)) 18446744073709551616
    → min (value * 10 + (get_or digits i 0 - 48)) 18446744073709551616 ≡ min (number_of (take (i + 1) digits)) 18446744073709551616
capped_more digits i value within low high is =
    rw (is, digits_value_more 10 digits i within, digit_value-digit (get_or digits i 0) low high) (min-step (number_of (take i digits)) (get_or digits i 0 - 48))
