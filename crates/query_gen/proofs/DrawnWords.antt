-- What is drawn as a word is one.
use Rattle.std.proofs.Common.{refl, ap, ◌∙◌, ◌+◌, get_or, inl, inr, ◌≡◌, ◌≢◌, ◌↔◌, ◌<◌, ◌≤◌, ℕ, List, [], ◌∷◌, ◌++◌, length, codes, true, ◌&&◌, nat_le, arith, le-leb, Result, Err}
use Rattle.std.specs.Fmt.{decimal}
use Rattle.std.specs.Char.{is_ascii_digit, is_ascii_lowercase}
use Rattle.std.specs.List.{list_all}
use Rattle.std.specs.Str.{all_ascii_digits}
use Rattle.std.proofs.lemmas.Fmt.{digits_decimal, length-decimal-le}
use Rattle.std.proofs.lemmas.Str.Parse.{numerals_by_value, tells_all_ascii_digits}
use Rattle.std.proofs.lemmas.Bool.{and_from, cases_lt, or_right}
use Rattle.std.proofs.lemmas.List.{get_or_append_left, get_or_push}
use Rattle.fan_base.specs.Word.{IsWord, is_word_byte}
use Rattle.fan_base.specs.declared.word.Word.{Word}
use Rattle.fan_base.specs.declared.word.WordFault.{WordFault}
use Rattle.fan_base.specs.declared.word.WordFault.TheVariants.{BadWord, Memory}
use Rattle.fan_base.proofs.Words.{first_of_all, rest_of_all}

digits_are_word_bytes : (ds : List ℕ) → all_ascii_digits ds ≡ true → list_all is_word_byte ds ≡ true
digits_are_word_bytes [] h = refl
digits_are_word_bytes (c ∷ cs) h =
    and_from (is_word_byte c) (list_all is_word_byte cs) (or_right (is_ascii_lowercase c) (is_ascii_digit c) (first_of_all (is_ascii_digit c) (all_ascii_digits cs) h))
    (digits_are_word_bytes cs (rest_of_all (is_ascii_digit c) (all_ascii_digits cs) h))

pub drawn_is_word : (n : ℕ) → n < 500 → IsWord (codes "w" ++ decimal n)
drawn_is_word n h =
    let digits : all_ascii_digits (decimal n) ≡ true = digits_decimal (numerals_by_value (λ ds. all_ascii_digits ds ≡ true) tells_all_ascii_digits) n (omega (arith, h)) in
    let few : length (decimal n) ≤ 3 = length-decimal-le 3 n (omega arith) (omega (arith, h)) (omega (arith, h)) in
    let ds : List ℕ = decimal n in
    let some : nat_le 1 (length (119 ∷ ds)) ≡ true = le-leb 1 (length (119 ∷ ds)) (omega arith) in
    let fits : nat_le (length (119 ∷ ds)) 32 ≡ true = le-leb (length (119 ∷ ds)) 32 (omega (arith, few)) in
    and_from (nat_le 1 (length (119 ∷ ds))) (nat_le (length (119 ∷ ds)) 32 && list_all is_word_byte (119 ∷ ds)) some
    (and_from (nat_le (length (119 ∷ ds)) 32) (list_all is_word_byte (119 ∷ ds)) fits (digits_are_word_bytes ds digits))

pub is_never_refused : (made : Result Word WordFault) (bytes : List ℕ) (fault : WordFault) → IsWord bytes
    → ((made ≡ Err BadWord) ↔ (¬ IsWord bytes)) → (made ≢ Err Memory) → made ≡ Err fault → ⊥
is_never_refused made bytes BadWord is bad memory e = bad.0 e is
is_never_refused made bytes Memory is bad memory e = memory e

-- words by their numbers, and the next one
pub words_more : (words longer : List Word) (word : Word) (n : ℕ) → longer ≡ words ++ word ∷ [] → length words ≡ n → word ≡ codes "w" ++ decimal n
    → ((k : ℕ) (other : Word) → k < n → get_or words k other ≡ codes "w" ++ decimal k) → (k : ℕ) (other : Word) → k < n + 1 → get_or longer k other ≡ codes "w" ++ decimal k
words_more words longer word n is many next each k other below =
    ap (λ (ws : List Word). get_or ws k other) is ∙ elim (cases_lt k n) [
      | inl before ↦ get_or_append_left words (word ∷ []) other k (omega (arith, many, before)) ∙ each k other before
      | inr behind ↦
          let last : n ≡ k = omega (arith, behind, below) in
          get_or_push words word other k (many ∙ last) ∙ (next ∙ ap (λ m. codes "w" ++ decimal m) last)
    ]
