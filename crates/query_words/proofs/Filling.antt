-- What the values that are given to the options, one after the other, leave of what was given before.
use Rattle.std.proofs.Common.{◌≡◌, ℕ, List, [], ◌∷◌, ◌++◌, Option, Some, None, refl, sym, subst, if◌then◌else◌}
use Rattle.query_words.specs.declared.given.Given.{Given}
use Rattle.query_words.specs.declared.name.OptionName.{OptionName}
use Rattle.query_words.specs.declared.name.OptionName.TheVariants as option
use Rattle.query_words.specs.Numbers.{number_in}
use Rattle.query_words.specs.Options.{least_of, most_of, is_same}
use Rattle.query_words.specs.Grammar.{Bytes, IsGiven}
use Rattle.query_words.specs.Steps.{value_at, with_value, give, give_first}
use Rattle.query_words.proofs.Options.{and_then-Some}

-- the word is this number in the range of the option
abbrev pub IsValue : OptionName → Bytes → ℕ → Type 0
IsValue name word n = number_in (least_of name) (most_of name) word ≡ Some n

-- The words, in their order, lead from one thing given to another: an option that has a value takes no further one.
abbrev pub Fills : OptionName → Option ℕ → List Bytes → Option ℕ → Type 0
Fills name before [] after = after ≡ before
Fills name (Some n) (word ∷ words) after = ⊥
Fills name None (word ∷ words) after = (n : ℕ) × IsValue name word n × Fills name (Some n) words after

pub IsGiven-from_Fills : (name : OptionName) (words : List Bytes) (after : Option ℕ) → Fills name None words after → IsGiven name words after
IsGiven-from_Fills name [] after h = h
IsGiven-from_Fills name (word ∷ []) after h = (h.0, h.2, h.1)
IsGiven-from_Fills name (word ∷ (another ∷ more)) after h = h.2

pub Fills-from_IsGiven : (name : OptionName) (words : List Bytes) (after : Option ℕ) → IsGiven name words after → Fills name None words after
Fills-from_IsGiven name [] after h = h
Fills-from_IsGiven name (word ∷ []) after h = (h.0, h.2, h.1)
Fills-from_IsGiven name (word ∷ (another ∷ more)) after h = absurd h

-- what a word gives to an option
pub record Gives (name : OptionName) (word : Bytes) (given next : Given) : Type 0 where
  pub n : ℕ
  pub had_none : value_at name given ≡ None
  pub value : IsValue name word n
  pub next_is : next ≡ with_value name n given

Gives-first : (name : OptionName) (word : Bytes) (given next : Given) (before : Option ℕ) → value_at name given ≡ before → give_first before name word given ≡ Some next → Gives name word given next
Gives-first name word given next (Some n) is e = cc
Gives-first name word given next None is e =
    let found = and_then-Some (λ (n : ℕ). Some (with_value name n given)) (number_in (least_of name) (most_of name) word) next e in
    record { n = found.0; had_none = is; value = found.1; next_is = cc found.2 }

pub Gives-from_give : (name : OptionName) (word : Bytes) (given next : Given) → give name word given ≡ Some next → Gives name word given next
Gives-from_give name word given next e = Gives-first name word given next (value_at name given) refl e

pub give-from_parts : (name : OptionName) (word : Bytes) (given : Given) (n : ℕ) → value_at name given ≡ None → IsValue name word n → give name word given ≡ Some (with_value name n given)
give-from_parts name word given n had_none value = rw had_none (rw value refl)

-- the values that one item gives to an option
abbrev pub values_by : OptionName → OptionName → Bytes → List Bytes
values_by other name word = if is_same other name then word ∷ [] else []

abbrev OneFill : OptionName → OptionName → Bytes → Given → ℕ → Type 0
OneFill other name word given n = (words : List Bytes) (after : Option ℕ) → value_at name given ≡ None → IsValue name word n
    → Fills other (value_at other (with_value name n given)) words after → Fills other (value_at other given) (values_by other name word ++ words) after

-- the option itself
own_fill : (name : OptionName) (before : Option ℕ) (word : Bytes) (n : ℕ) (words : List Bytes) (after : Option ℕ) → before ≡ None → IsValue name word n
    → Fills name (Some n) words after → Fills name before (word ∷ words) after
own_fill name before word n words after e value h = subst (λ (o : Option ℕ). Fills name o (word ∷ words) after) (sym e) (n, value, h)

pub fill_one : (other name : OptionName) (word : Bytes) (given : Given) (n : ℕ) → OneFill other name word given n
fill_one option.Workers option.Workers word given n = λ words after e value h. own_fill option.Workers given.workers word n words after e value h
fill_one option.Workers option.Bases word given n = λ words after e value h. h
fill_one option.Workers option.Shards word given n = λ words after e value h. h
fill_one option.Workers option.StopAt word given n = λ words after e value h. h
fill_one option.Bases option.Workers word given n = λ words after e value h. h
fill_one option.Bases option.Bases word given n = λ words after e value h. own_fill option.Bases given.bases word n words after e value h
fill_one option.Bases option.Shards word given n = λ words after e value h. h
fill_one option.Bases option.StopAt word given n = λ words after e value h. h
fill_one option.Shards option.Workers word given n = λ words after e value h. h
fill_one option.Shards option.Bases word given n = λ words after e value h. h
fill_one option.Shards option.Shards word given n = λ words after e value h. own_fill option.Shards given.shards word n words after e value h
fill_one option.Shards option.StopAt word given n = λ words after e value h. h
fill_one option.StopAt option.Workers word given n = λ words after e value h. h
fill_one option.StopAt option.Bases word given n = λ words after e value h. h
fill_one option.StopAt option.Shards word given n = λ words after e value h. h
fill_one option.StopAt option.StopAt word given n = λ words after e value h. own_fill option.StopAt given.stop_at word n words after e value h

-- the way back
pub first_fill : (name : OptionName) (before : Option ℕ) (word : Bytes) (words : List Bytes) (after : Option ℕ) → Fills name before (word ∷ words) after
    → (before ≡ None) × ((n : ℕ) × IsValue name word n × Fills name (Some n) words after)
first_fill name None word words after h = (refl, h)
first_fill name (Some n) word words after h = absurd h

pub own_values : (name : OptionName) (word : Bytes) (words : List Bytes) → values_by name name word ++ words ≡ word ∷ words
own_values option.Workers word words = refl
own_values option.Bases word words = refl
own_values option.Shards word words = refl
own_values option.StopAt word words = refl

-- What is left to be given behind the first value of an option.
abbrev OneLeft : OptionName → OptionName → Bytes → Given → ℕ → Type 0
OneLeft other name word given n = (values : OptionName → List Bytes) (after : Given)
    → ((o : OptionName) → Fills o (value_at o given) (values_by o name word ++ values o) (value_at o after))
    → Fills name (Some n) (values name) (value_at name after)
    → Fills other (value_at other (with_value name n given)) (values other) (value_at other after)

left_one : (other name : OptionName) (word : Bytes) (given : Given) (n : ℕ) → OneLeft other name word given n
left_one option.Workers option.Workers word given n = λ values after all own. own
left_one option.Workers option.Bases word given n = λ values after all own. all option.Workers
left_one option.Workers option.Shards word given n = λ values after all own. all option.Workers
left_one option.Workers option.StopAt word given n = λ values after all own. all option.Workers
left_one option.Bases option.Workers word given n = λ values after all own. all option.Bases
left_one option.Bases option.Bases word given n = λ values after all own. own
left_one option.Bases option.Shards word given n = λ values after all own. all option.Bases
left_one option.Bases option.StopAt word given n = λ values after all own. all option.Bases
left_one option.Shards option.Workers word given n = λ values after all own. all option.Shards
left_one option.Shards option.Bases word given n = λ values after all own. all option.Shards
left_one option.Shards option.Shards word given n = λ values after all own. own
left_one option.Shards option.StopAt word given n = λ values after all own. all option.Shards
left_one option.StopAt option.Workers word given n = λ values after all own. all option.StopAt
left_one option.StopAt option.Bases word given n = λ values after all own. all option.StopAt
left_one option.StopAt option.Shards word given n = λ values after all own. all option.StopAt
left_one option.StopAt option.StopAt word given n = λ values after all own. own

-- The values with one more in front, which is given to one option.
abbrev pub Added : OptionName → Bytes → (OptionName → List Bytes) → OptionName → List Bytes
Added name word values other = values_by other name word ++ values other

-- each option is led from the one to the other by its values
abbrev pub EachFills : Given → (OptionName → List Bytes) → Given → Type 0
EachFills before values after = (name : OptionName) → Fills name (value_at name before) (values name) (value_at name after)

pub EachFills-more : (name : OptionName) (word : Bytes) (given next after : Given) (values : OptionName → List Bytes)
    → Gives name word given next → EachFills next values after → EachFills given (Added name word values) after
EachFills-more name word given next after values g h = λ other.
    fill_one other name word given g.n (values other) (value_at other after) g.had_none g.value
    (subst (λ (x : Given). Fills other (value_at other x) (values other) (value_at other after)) g.next_is (h other))

pub EachFills-first : (name : OptionName) (word : Bytes) (given after : Given) (values : OptionName → List Bytes)
    → EachFills given (Added name word values) after → (n : ℕ) × (value_at name given ≡ None) × IsValue name word n × EachFills (with_value name n given) values after
EachFills-first name word given after values h =
    let own = first_fill name (value_at name given) word (values name) (value_at name after)
    (subst (λ (ws : List Bytes). Fills name (value_at name given) ws (value_at name after)) (own_values name word (values name)) (h name)) in
    (own.1.0, own.0, own.1.1, λ other. left_one other name word given own.1.0 values after h own.1.2)
