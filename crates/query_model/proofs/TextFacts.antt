-- Texts of visible bytes and spaces: how they are cut into pieces and fields.
use Rattle.std.proofs.Common.{◌≡◌, ℕ, zero, suc, ◌-◌, ◌<◌, ◌≤◌, List, [], ◌∷◌, ◌++◌, length, take, get_or, Bool, true, false, ◌&&◌, ◌||◌, not, cond, nat_eq, nat_lt, refl, sym, ap, ◌∙◌, arith}
use Rattle.std.specs.Prelude.{nat_le, map, filter}
use Rattle.std.specs.List.{list_all, slice_split, onto_first, join_with_byte, AllByRecursion}
use Rattle.std.specs.Char.{is_ascii_digit, digit_value, to_ascii_lowercase}
use Rattle.std.specs.Fmt.{decimal}
use Rattle.std.specs.Str.Lines.{strip_carriage_return}
use Rattle.std.specs.Str.Parse.{AllDigits}
use Rattle.std.proofs.lemmas.Bool.{and_parts, and_from, lt-ltb}
use Rattle.std.proofs.lemmas.Bool.Decides.{nat_tests}
use Rattle.std.proofs.lemmas.Fmt.{decimal_is_IsNumeral}
use Rattle.std.proofs.lemmas.List.Elements.{filter-append}
use Rattle.fan_base.specs.Word.{is_word, is_word_byte}
use Rattle.query_model.specs.Pieces.{Bytes, line_feed, pieces, fields, is_some_text, is_printable}
use Rattle.query_model.specs.Numbers.{is_number, number_of}
use Rattle.query_model.specs.ByFacts.{IsNumber}

-- a byte of a field: visible ASCII and no capital
abbrev pub is_field_byte : ℕ → Bool
is_field_byte b = nat_le 33 b && (nat_le b 126 && not (nat_le 65 b && nat_le b 90))

-- a byte of a line: one of a field or a space
abbrev pub is_text_byte : ℕ → Bool
is_text_byte b = nat_eq b 32 || is_field_byte b

abbrev pub is_plain : Bytes → Bool
is_plain text = list_all is_text_byte text

abbrev pub is_field : Bytes → Bool
is_field text = nat_lt 0 (length text) && list_all is_field_byte text

-- what each such byte is
text_printable : (b : ℕ) → is_text_byte b ≡ true → is_printable b ≡ true
text_printable b h = grind (arith, nat_tests)

text_lower : (b : ℕ) → is_text_byte b ≡ true → to_ascii_lowercase b ≡ b
text_lower b h = grind (arith, nat_tests)

text_no_return : (b : ℕ) → is_text_byte b ≡ true → nat_eq b 13 ≡ false
text_no_return b h = grind (arith, nat_tests)

text_no_feed : (b : ℕ) → is_text_byte b ≡ true → nat_eq b 10 ≡ false
text_no_feed b h = grind (arith, nat_tests)

field_no_space : (b : ℕ) → is_field_byte b ≡ true → nat_eq b 32 ≡ false
field_no_space b h = grind (arith, nat_tests)

field_text : (b : ℕ) → is_field_byte b ≡ true → is_text_byte b ≡ true
field_text b h = grind (arith, nat_tests)

word_field : (b : ℕ) → is_word_byte b ≡ true → is_field_byte b ≡ true
word_field b h = grind (arith, nat_tests)

digit_field : (b : ℕ) → is_ascii_digit b ≡ true → is_field_byte b ≡ true
digit_field b h = grind (arith, nat_tests)

-- from one test to another, item by item
pub list_all-map : (p q : ℕ → Bool) → ((b : ℕ) → p b ≡ true → q b ≡ true) → (xs : Bytes) → list_all p xs ≡ true → list_all q xs ≡ true
list_all-map p q f [] h = refl
list_all-map p q f (x ∷ xs) h = let parts = and_parts (p x) (list_all p xs) h in and_from (q x) (list_all q xs) (f x parts.0) (list_all-map p q f xs parts.1)

pub list_all-join : (p : ℕ → Bool) (xs ys : Bytes) → list_all p xs ≡ true → list_all p ys ≡ true → list_all p (xs ++ ys) ≡ true
list_all-join p [] ys h g = g
list_all-join p (x ∷ xs) ys h g = let parts = and_parts (p x) (list_all p xs) h in and_from (p x) (list_all p (xs ++ ys)) parts.0 (list_all-join p xs ys parts.1 g)

pub plain-printable : (t : Bytes) → is_plain t ≡ true → list_all is_printable t ≡ true
plain-printable t h = list_all-map is_text_byte is_printable text_printable t h

pub plain-lower : (t : Bytes) → is_plain t ≡ true → map to_ascii_lowercase t ≡ t
plain-lower [] h = refl
plain-lower (b ∷ bs) h =
    let parts = and_parts (is_text_byte b) (list_all is_text_byte bs) h in
    ap (λ (c : ℕ). c ∷ map to_ascii_lowercase bs) (text_lower b parts.0) ∙ ap (λ (l : Bytes). b ∷ l) (plain-lower bs parts.1)

no_return_at : (t : Bytes) (k : ℕ) → is_plain t ≡ true → nat_eq (get_or t k 0) 13 ≡ false
no_return_at [] k h = refl
no_return_at (b ∷ bs) zero h = text_no_return b (and_parts (is_text_byte b) (list_all is_text_byte bs) h).0
no_return_at (b ∷ bs) (suc k) h = no_return_at bs k (and_parts (is_text_byte b) (list_all is_text_byte bs) h).1

pub plain-strip : (t : Bytes) → is_plain t ≡ true → strip_carriage_return t ≡ t
plain-strip t h = ap (λ (b : Bool). cond b (take (length t - 1) t) t) (no_return_at t (length t - 1) h)

-- pieces: a text without a line feed, and its line feed
pub pieces-line : (t rest : Bytes) → is_plain t ≡ true → pieces (t ++ line_feed ∷ rest) ≡ t ∷ pieces rest
unfolding pieces
pieces-line [] rest h = refl
pieces-line (b ∷ bs) rest h =
    let parts = and_parts (is_text_byte b) (list_all is_text_byte bs) h in
    ap (λ (c : Bool). cond c ([] ∷ pieces (bs ++ line_feed ∷ rest)) (onto_first b (pieces (bs ++ line_feed ∷ rest)))) (text_no_feed b parts.0)
    ∙ ap (onto_first b) (pieces-line bs rest parts.1)

-- fields: one text behind another with a space between
abbrev at_space : ℕ → Bool
at_space b = nat_eq b 32

split_some : (t : Bytes) → (first : Bytes) × (rest : List Bytes) × (slice_split at_space t ≡ first ∷ rest)
split_some [] = ([], [], refl)
split_some (b ∷ bs) = by (at_space b) (split_some bs)
  where
    by : (c : Bool) → (first : Bytes) × (rest : List Bytes) × (slice_split at_space bs ≡ first ∷ rest)
        → (first : Bytes) × (rest : List Bytes) × (cond c ([] ∷ slice_split at_space bs) (onto_first b (slice_split at_space bs)) ≡ first ∷ rest)
    by true found = ([], slice_split at_space bs, refl)
    by false found = (b ∷ found.0, found.1, ap (onto_first b) found.2)

split-join : (xs ys : Bytes) → slice_split at_space (xs ++ 32 ∷ ys) ≡ slice_split at_space xs ++ slice_split at_space ys
split-join [] ys = refl
split-join (b ∷ bs) ys = by (at_space b) (split-join bs ys) (split_some bs)
  where
    by : (c : Bool) → slice_split at_space (bs ++ 32 ∷ ys) ≡ slice_split at_space bs ++ slice_split at_space ys → (first : Bytes) × (rest : List Bytes) × (slice_split at_space bs ≡ first ∷ rest)
        → cond c ([] ∷ slice_split at_space (bs ++ 32 ∷ ys)) (onto_first b (slice_split at_space (bs ++ 32 ∷ ys)))
        ≡ cond c ([] ∷ slice_split at_space bs) (onto_first b (slice_split at_space bs)) ++ slice_split at_space ys
    by true e found = ap (λ (l : List Bytes). [] ∷ l) e
    by false e found =
        ap (onto_first b) (e ∙ ap (λ (l : List Bytes). l ++ slice_split at_space ys) found.2)
        ∙ sym (ap (λ (l : List Bytes). onto_first b l ++ slice_split at_space ys) found.2)

pub fields-join : (xs ys : Bytes) → fields (xs ++ 32 ∷ ys) ≡ fields xs ++ fields ys
unfolding fields
fields-join xs ys = ap (filter is_some_text) (split-join xs ys) ∙ filter-append is_some_text (slice_split at_space xs) (slice_split at_space ys)

split-field : (t : Bytes) → list_all is_field_byte t ≡ true → slice_split at_space t ≡ t ∷ []
split-field [] h = refl
split-field (b ∷ bs) h =
    let parts = and_parts (is_field_byte b) (list_all is_field_byte bs) h in
    ap (λ (c : Bool). cond c ([] ∷ slice_split at_space bs) (onto_first b (slice_split at_space bs))) (field_no_space b parts.0)
    ∙ ap (onto_first b) (split-field bs parts.1)

pub fields-field : (t : Bytes) → is_field t ≡ true → fields t ≡ t ∷ []
unfolding fields
fields-field t h =
    let parts = and_parts (nat_lt 0 (length t)) (list_all is_field_byte t) h in
    ap (filter is_some_text) (split-field t parts.1) ∙ ap (λ (c : Bool). cond c (t ∷ []) []) parts.0

abbrev pub AllFields : List Bytes → Type 0
AllFields fs = AllByRecursion (λ f. is_field f ≡ true) fs

-- fields parted by spaces, and a text behind them
pub fields-join_with : (fs : List Bytes) (text : Bytes) → AllFields fs → fields (join_with_byte 32 (fs ++ text ∷ [])) ≡ fs ++ fields text
fields-join_with [] text h = refl
fields-join_with (f ∷ []) text h = fields-join f text ∙ ap (λ (l : List Bytes). l ++ fields text) (fields-field f h.0)
fields-join_with (f ∷ (g ∷ fs)) text h =
    fields-join f (join_with_byte 32 ((g ∷ fs) ++ text ∷ []))
    ∙ (ap (λ (l : List Bytes). l ++ fields (join_with_byte 32 ((g ∷ fs) ++ text ∷ []))) (fields-field f h.0)
    ∙ ap (λ (l : List Bytes). f ∷ l) (fields-join_with (g ∷ fs) text h.1))

-- fields parted by spaces
pub fields-join_all : (fs : List Bytes) → AllFields fs → fields (join_with_byte 32 fs) ≡ fs
unfolding fields
fields-join_all [] h = refl
fields-join_all (f ∷ []) h = fields-field f h.0
fields-join_all (f ∷ (g ∷ fs)) h =
    fields-join f (join_with_byte 32 (g ∷ fs))
    ∙ (ap (λ (l : List Bytes). l ++ fields (join_with_byte 32 (g ∷ fs))) (fields-field f h.0)
    ∙ ap (λ (l : List Bytes). f ∷ l) (fields-join_all (g ∷ fs) h.1))

pub field-plain : (f : Bytes) → is_field f ≡ true → is_plain f ≡ true
field-plain f h = list_all-map is_field_byte is_text_byte field_text f (and_parts (nat_lt 0 (length f)) (list_all is_field_byte f) h).1

-- texts parted by spaces are plain
pub plain-join_with : (fs : List Bytes) → AllByRecursion (λ f. is_plain f ≡ true) fs → is_plain (join_with_byte 32 fs) ≡ true
plain-join_with [] h = refl
plain-join_with (f ∷ []) h = h.0
plain-join_with (f ∷ (g ∷ fs)) h = list_all-join is_text_byte f (32 ∷ join_with_byte 32 (g ∷ fs)) h.0 (plain-join_with (g ∷ fs) h.1)

-- words and numbers are fields
pub field-word : (w : Bytes) → is_word w ≡ true → is_field w ≡ true
field-word w h =
    let parts = and_parts (nat_le 1 (length w)) (nat_le (length w) 32 && list_all is_word_byte w) h in
    let bytes = and_parts (nat_le (length w) 32) (list_all is_word_byte w) parts.1 in
    and_from (nat_lt 0 (length w)) (list_all is_field_byte w) parts.0 (list_all-map is_word_byte is_field_byte word_field w bytes.1)

numeral_digit : (c : ℕ) → digit_value c < 10 → is_ascii_digit c ≡ true
numeral_digit c h = grind (arith, nat_tests)

numeral-digits : (cs : Bytes) → AllDigits 10 cs → list_all is_ascii_digit cs ≡ true
numeral-digits [] h = refl
numeral-digits (c ∷ cs) h = and_from (is_ascii_digit c) (list_all is_ascii_digit cs) (numeral_digit c h.0) (numeral-digits cs h.1)

-- what a number is written as
pub record IsWritten (n : ℕ) : Type 0 where
  pub number : is_number (decimal n) ≡ true
  pub value : number_of (decimal n) ≡ n
  pub field : is_field (decimal n) ≡ true

pub is_written : (n : ℕ) → n ≤ 4294967295 → IsWritten n
is_written n h =
    let is = decimal_is_IsNumeral n (omega arith) in
    let digits = numeral-digits (decimal n) is.0.1 in
    let some = lt-ltb 0 (length (decimal n)) is.0.0 in
    record {
      number = and_from (nat_lt 0 (length (decimal n))) (list_all is_ascii_digit (decimal n)) some digits;
      value = is.1;
      field = and_from (nat_lt 0 (length (decimal n))) (list_all is_field_byte (decimal n)) some (list_all-map is_ascii_digit is_field_byte digit_field (decimal n) digits);
    }

pub written_number : (low high n : ℕ) → low ≤ n → n ≤ high → high ≤ 4294967295 → IsNumber low high (decimal n) n
written_number low high n above below top =
    let is = is_written n (omega arith) in
    record { digits = is.number; value = is.value; above = above; below = below }
