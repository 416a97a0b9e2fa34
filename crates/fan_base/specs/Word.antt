use Rattle.std.specs.Prelude.{ℕ, ◌≡◌, ◌-◌, List, ◌++◌, length, take_while, replicate, Bool, not, ◌==◌, ◌&&◌, ◌||◌, nat_le, IsTrue}
use Rattle.std.proofs.Common.{ap, sym}
use Rattle.std.specs.Char.{is_ascii_digit, is_ascii_lowercase}
use Rattle.std.specs.List.{list_all}
use Rattle.fan_base.specs.declared.word.Word.TheInside.{Inside}

-- a letter from a to z, or a digit
abbrev pub is_word_byte : ℕ → Bool
is_word_byte c = is_ascii_lowercase c || is_ascii_digit c

-- whether these are 1 to 32 letters and digits
abbrev pub is_word : List ℕ → Bool
is_word bytes = nat_le 1 (length bytes) && (nat_le (length bytes) 32 && list_all is_word_byte bytes)

abbrev pub IsWord : List ℕ → Type 0
IsWord bytes = IsTrue (is_word bytes)

-- whether a byte is part of a word, and not of the zeros behind it
abbrev pub is_filled : ℕ → Bool
is_filled c = not (c == 0)

-- 32 bytes: these, and zeros behind them
abbrev pub padded : List ℕ → List ℕ
padded bytes = bytes ++ replicate (32 - length bytes) 0

-- the word that lies in the front of the array, up to the first zero
abbrev pub bytes_of : Inside → List ℕ
bytes_of a = take_while is_filled a.bytes

-- a word lies in the front of the array, and zeros behind it
pub record IsKept (a : Inside) : Type 0 where
  pub word : IsWord (bytes_of a)
  pub zeros : a.bytes ≡ padded (bytes_of a)

-- the array that keeps a word
abbrev pub kept : List ℕ → Inside
kept bytes = record { bytes = padded bytes }

pub kept-bytes_of : (a : Inside) → IsKept a → kept (bytes_of a) ≡ a
kept-bytes_of a h = ap (λ bytes. record { bytes = bytes }) (sym h.zeros)
