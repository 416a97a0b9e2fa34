-- Numbers on the command line.
use Rattle.std.specs.Prelude.{ℕ, List, Bool, ◌&&◌, nat_lt, nat_le, length, if◌then◌else◌, Option, Some, None}
use Rattle.std.specs.Char.{is_ascii_digit}
use Rattle.std.specs.List.{list_all}
use Rattle.std.specs.Str.Parse.{digits_value}

-- one or more decimal digits; leading zeros are free, and there may be any number of them
abbrev pub is_number : List ℕ → Bool
is_number word = nat_lt 0 (length word) && list_all is_ascii_digit word

-- the number that decimal digits write
abbrev pub number_of : List ℕ → ℕ
number_of word = digits_value 10 word

-- the number of a word, where it lies in a range
abbrev pub number_in : ℕ → ℕ → List ℕ → Option ℕ
number_in least most word =
    if is_number word && (nat_le least (number_of word) && nat_le (number_of word) most)
    then Some (number_of word)
    else None
