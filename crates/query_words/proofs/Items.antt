-- What the word between two items is, by the items of the grammar.
use Rattle.std.proofs.Common.{◌≡◌, ◌<◌, ◌+◌, ℕ, suc, Bool, true, false, ◌&&◌, ◌==◌, nat_lt, nat_le, [], ◌∷◌, ◌++◌, length, take, drop, get_or, position, Option, Some, None, codes, if◌then◌else◌, refl, ap, sym, ◌∙◌, arith, add-one, drop-cons}
use Rattle.std.specs.Char.{is_ascii_digit}
use Rattle.std.specs.List.{list_all, position_or_len}
use Rattle.std.specs.Str.{bytes_eq}
use Rattle.std.proofs.lemmas.Bool.{and_parts, eqb-true}
use Rattle.std.proofs.lemmas.Bool.Decides.{nat_tests}
use Rattle.std.proofs.lemmas.List.{take-append-drop}
use Rattle.std.proofs.lemmas.List.Quantifiers.{position-Some}
use Rattle.std.proofs.lemmas.Slice.Eq.{bytes_eq-Decides}
use Rattle.query_words.specs.declared.given.Given.{Given}
use Rattle.query_words.specs.declared.name.OptionName.{OptionName}
use Rattle.query_words.specs.declared.name.OptionName.TheVariants as option
use Rattle.query_words.specs.declared.reader.Place.{Place}
use Rattle.query_words.specs.declared.reader.Place.TheVariants as place
use Rattle.query_words.specs.declared.reader.Progress.{Progress}
use Rattle.query_words.specs.declared.reader.Progress.TheVariants as progress
use Rattle.query_words.specs.declared.reader.Reader.{Reader}
use Rattle.query_words.specs.Numbers.{is_number, number_of, number_in}
use Rattle.query_words.specs.Options.{text_of}
use Rattle.query_words.specs.Grammar.{Bytes}
use Rattle.query_words.specs.Steps.{name_of, is_equals, give, count_on, with_option, with_number, with_cut, with_named, with_item}
use Rattle.query_words.proofs.Options.{and_then-Some, same_Some}

abbrev pub reader_at : Place → Given → Progress → Reader
reader_at at given progress = record { place = at; given = given; progress = progress }

pub data IsItem (word : Bytes) (given : Given) (before : Progress) (next : Reader) : Type 0 where
  at_dashes : word ≡ codes "--" → next ≡ reader_at place.Behind given before → IsItem word given before next
  at_name : (name : OptionName) → word ≡ text_of name → next ≡ reader_at (place.Before name) given before → IsItem word given before next
  at_joined : (name : OptionName) (value : Bytes) (more : Given) → word ≡ text_of name ++ (codes "=" ++ value) → give name value given ≡ Some more
      → next ≡ reader_at place.Between more before → IsItem word given before next
  at_number : (after : Progress) → count_on before word ≡ Some after → next ≡ reader_at place.Between given after → IsItem word given before next

-- The name of an option is its text.
name_by : (word : Bytes) (name : OptionName) (a b c d : Bool)
    → bytes_eq word (codes "--workers") ≡ a → bytes_eq word (codes "--bases") ≡ b → bytes_eq word (codes "--shards") ≡ c → bytes_eq word (codes "--stop-at") ≡ d
    → (if a then Some option.Workers else (if b then Some option.Bases else (if c then Some option.Shards else (if d then Some option.StopAt else None)))) ≡ Some name
    → word ≡ text_of name
name_by word name true b c d ea eb ec ed e = (bytes_eq-Decides word (codes "--workers")).0 ea ∙ ap text_of (same_Some _ _ e)
name_by word name false true c d ea eb ec ed e = (bytes_eq-Decides word (codes "--bases")).0 eb ∙ ap text_of (same_Some _ _ e)
name_by word name false false true d ea eb ec ed e = (bytes_eq-Decides word (codes "--shards")).0 ec ∙ ap text_of (same_Some _ _ e)
name_by word name false false false true ea eb ec ed e = (bytes_eq-Decides word (codes "--stop-at")).0 ed ∙ ap text_of (same_Some _ _ e)
name_by word name false false false false ea eb ec ed e = cc

pub name_of-Some : (word : Bytes) (name : OptionName) → name_of word ≡ Some name → word ≡ text_of name
name_of-Some word name e = name_by word name _ _ _ _ refl refl refl refl e

-- a word is what stands before its first `=`, that byte, and what stands behind it
cut_at : (word : Bytes) (end : ℕ) → position is_equals word ≡ Some end → word ≡ take end word ++ (codes "=" ++ drop (end + 1) word)
cut_at word end e =
    let at = position-Some is_equals word end 0 e in
    let byte : get_or word end 0 ≡ 61 = eqb-true (get_or word end 0) 61 at.1 in
    let rest : drop end word ≡ 61 ∷ drop (end + 1) word = drop-cons word end 0 at.0 ∙ (ap (λ (b : ℕ). b ∷ drop (suc end) word) byte ∙ ap (λ (n : ℕ). 61 ∷ drop n word) (sym (add-one end))) in
    sym (take-append-drop end word) ∙ ap (λ (l : Bytes). take end word ++ l) rest

-- A word that can be read between two items is an item or `--`.
is_number_by : (word : Bytes) (given : Given) (before : Progress) (next : Reader) → with_number word (reader_at place.Between given before) ≡ Some next → IsItem word given before next
is_number_by word given before next e =
    let found = and_then-Some (λ (counted : Progress). Some (reader_at place.Between given counted)) (count_on before word) next e in
    IsItem.at_number found.0 found.1 (same_Some _ _ (sym found.2))

is_option_by : (word value : Bytes) (given : Given) (before : Progress) (next : Reader) (named : Option OptionName) (text : Bytes) → name_of text ≡ named → word ≡ text ++ (codes "=" ++ value)
    → with_option named value (reader_at place.Between given before) ≡ Some next → IsItem word given before next
is_option_by word value given before next None text is cut e = cc
is_option_by word value given before next (Some name) text is cut e =
    let found = and_then-Some (λ (more : Given). Some (reader_at place.Between more before)) (give name value given) next e in
    IsItem.at_joined name value found.0 (cut ∙ ap (λ (t : Bytes). t ++ (codes "=" ++ value)) (name_of-Some text name is)) found.1 (same_Some _ _ (sym found.2))

is_plain_by : (word : Bytes) (given : Given) (before : Progress) (next : Reader) (cut : Option ℕ) → position is_equals word ≡ cut
    → with_cut cut word (reader_at place.Between given before) ≡ Some next → IsItem word given before next
is_plain_by word given before next None is e = is_number_by word given before next e
is_plain_by word given before next (Some end) is e =
    is_option_by word (drop (end + 1) word) given before next (name_of (take end word)) (take end word) refl (cut_at word end is) e

is_named_by : (word : Bytes) (given : Given) (before : Progress) (next : Reader) (named : Option OptionName) → name_of word ≡ named
    → with_named named word (reader_at place.Between given before) ≡ Some next → IsItem word given before next
is_named_by word given before next (Some name) is e = IsItem.at_name name (name_of-Some word name is) (same_Some _ _ (sym e))
is_named_by word given before next None is e = is_plain_by word given before next (position is_equals word) refl e

is_item_by : (word : Bytes) (given : Given) (before : Progress) (next : Reader) (dashes : Bool) → bytes_eq word (codes "--") ≡ dashes
    → (if dashes then Some (reader_at place.Behind given before) else with_named (name_of word) word (reader_at place.Between given before)) ≡ Some next → IsItem word given before next
is_item_by word given before next true is e = IsItem.at_dashes ((bytes_eq-Decides word (codes "--")).0 is) (same_Some _ _ (sym e))
is_item_by word given before next false is e = is_named_by word given before next (name_of word) refl e

pub is_item : (word : Bytes) (given : Given) (before : Progress) (next : Reader) → with_item word (reader_at place.Between given before) ≡ Some next → IsItem word given before next
is_item word given before next e = is_item_by word given before next (bytes_eq word (codes "--")) refl e

-- the way back: `--`, a name, and a name with its value
pub with_item-dashes : (given : Given) (before : Progress) → with_item (codes "--") (reader_at place.Between given before) ≡ Some (reader_at place.Behind given before)
with_item-dashes given before = refl

pub with_item-name : (name : OptionName) (given : Given) (before : Progress) → with_item (text_of name) (reader_at place.Between given before) ≡ Some (reader_at (place.Before name) given before)
with_item-name option.Workers given before = refl
with_item-name option.Bases given before = refl
with_item-name option.Shards given before = refl
with_item-name option.StopAt given before = refl

position_found : (word : Bytes) (i : ℕ) → position_or_len is_equals word ≡ i → i < length word → position is_equals word ≡ Some i
position_found word i e h = rw e (grind (arith, nat_tests))

position-joined : (name : OptionName) (value : Bytes) → position is_equals (text_of name ++ (codes "=" ++ value)) ≡ Some (length (text_of name))
position-joined option.Workers value = position_found (text_of option.Workers ++ (codes "=" ++ value)) 9 refl (omega arith)
position-joined option.Bases value = position_found (text_of option.Bases ++ (codes "=" ++ value)) 7 refl (omega arith)
position-joined option.Shards value = position_found (text_of option.Shards ++ (codes "=" ++ value)) 8 refl (omega arith)
position-joined option.StopAt value = position_found (text_of option.StopAt ++ (codes "=" ++ value)) 9 refl (omega arith)

pub with_item-joined : (name : OptionName) (value : Bytes) (given : Given) (before : Progress)
    → with_item (text_of name ++ (codes "=" ++ value)) (reader_at place.Between given before) ≡ with_option (Some name) value (reader_at place.Between given before)
with_item-joined option.Workers value given before = ap (λ (cut : Option ℕ). with_cut cut (text_of option.Workers ++ (codes "=" ++ value)) (reader_at place.Between given before)) (position-joined option.Workers value)
with_item-joined option.Bases value given before = ap (λ (cut : Option ℕ). with_cut cut (text_of option.Bases ++ (codes "=" ++ value)) (reader_at place.Between given before)) (position-joined option.Bases value)
with_item-joined option.Shards value given before = ap (λ (cut : Option ℕ). with_cut cut (text_of option.Shards ++ (codes "=" ++ value)) (reader_at place.Between given before)) (position-joined option.Shards value)
with_item-joined option.StopAt value given before = ap (λ (cut : Option ℕ). with_cut cut (text_of option.StopAt ++ (codes "=" ++ value)) (reader_at place.Between given before)) (position-joined option.StopAt value)

-- and a number
number_in-Some : (least most n : ℕ) (word : Bytes) → number_in least most word ≡ Some n → is_number word ≡ true
number_in-Some least most n word e = by (is_number word) (nat_le least (number_of word) && nat_le (number_of word) most) e
  where
    by : (b c : Bool) → (if b && c then Some (number_of word) else None) ≡ Some n → b ≡ true
    by true c e = refl
    by false c e = cc

pub is_number-count_on : (before after : Progress) (word : Bytes) → count_on before word ≡ Some after → is_number word ≡ true
is_number-count_on progress.Run after word e = cc
is_number-count_on progress.Generate after word e =
    let found = and_then-Some (λ (s : ℕ). Some (progress.Seed s)) (number_in 0 18446744073709551615 word) after e in number_in-Some 0 18446744073709551615 found.0 word found.1
is_number-count_on (progress.Seed seed) after word e =
    let found = and_then-Some (λ (d : ℕ). Some (progress.Docs seed d)) (number_in 0 20000 word) after e in number_in-Some 0 20000 found.0 word found.1
is_number-count_on (progress.Docs seed docs) after word e =
    let found = and_then-Some (λ (q : ℕ). Some (progress.Queries (record { seed = seed; docs = docs; queries = q }))) (number_in 0 4096 word) after e in number_in-Some 0 4096 found.0 word found.1
is_number-count_on (progress.Queries generation) after word e = cc

is_not_dash : (b : ℕ) → is_ascii_digit b ≡ true → (b == 45) ≡ false
is_not_dash b h = grind (arith, nat_tests)

is_not_equals : (b : ℕ) → is_ascii_digit b ≡ true → is_equals b ≡ false
is_not_equals b h = grind (arith, nat_tests)

-- digits have no `=`
position_or_len-digits : (word : Bytes) → list_all is_ascii_digit word ≡ true → position_or_len is_equals word ≡ length word
position_or_len-digits [] h = refl
position_or_len-digits (b ∷ bs) h =
    let parts = and_parts (is_ascii_digit b) (list_all is_ascii_digit bs) h in
    let rest = position_or_len-digits bs parts.1 in
    rw (is_not_equals b parts.0) (omega arith)

position-digits : (word : Bytes) → list_all is_ascii_digit word ≡ true → position is_equals word ≡ None
position-digits word h = let e = position_or_len-digits word h in rw e (grind (arith, nat_tests))

pub with_item-number : (before after : Progress) (word : Bytes) (given : Given) → count_on before word ≡ Some after
    → with_item word (reader_at place.Between given before) ≡ Some (reader_at place.Between given after)
with_item-number before after [] given e =
    let no = is_number-count_on before after [] e in cc
with_item-number before after (b ∷ bs) given e =
    let digits = (and_parts (nat_lt 0 (length (b ∷ bs))) (list_all is_ascii_digit (b ∷ bs)) (is_number-count_on before after (b ∷ bs) e)).1 in
    let first = (and_parts (is_ascii_digit b) (list_all is_ascii_digit bs) digits).0 in
    rw (is_not_dash b first, position-digits (b ∷ bs) digits, e) refl
