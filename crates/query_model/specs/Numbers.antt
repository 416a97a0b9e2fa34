-- Number fields.
use Rattle.std.specs.Prelude.{ℕ, List, Bool, ◌&&◌, nat_lt, nat_le, length, if◌then◌else◌, Option, Some, None, Result}
use Rattle.std.specs.Option.{ok_or}
use Rattle.std.specs.Char.{is_ascii_digit}
use Rattle.std.specs.List.{list_all}
use Rattle.std.specs.Str.Parse.{digits_value}
use Rattle.query_model.specs.declared.fault.BadKind.{BadKind}
use Rattle.query_model.specs.declared.fault.BadKind.TheVariants.{BadNumber}

-- one or more decimal digits; leading zeros are free
abbrev pub is_number : List ℕ → Bool
is_number field = nat_lt 0 (length field) && list_all is_ascii_digit field

-- the number that decimal digits write
abbrev pub number_of : List ℕ → ℕ
number_of field = digits_value 10 field

-- the number of a field, where it lies in a range
abbrev pub number_in : ℕ → ℕ → List ℕ → Option ℕ
number_in low high field =
    if is_number field && (nat_le low (number_of field) && nat_le (number_of field) high)
    then Some (number_of field)
    else None

-- a number field, which has to lie in a range
abbrev pub number_field : ℕ → ℕ → List ℕ → Result ℕ BadKind
number_field low high field = ok_or (number_in low high field) BadNumber
