-- The canonical text of an expression has the canonical tokens of its tree.
use Rattle.std.proofs.Common.{◌≡◌, ℕ, List, [], ◌∷◌, ◌++◌, length, Bool, true, false, ◌&&◌, ◌||◌, cond, nat_eq, Result, Ok, refl, sym, ap, ◌∙◌, subst, arith, append-nil}
use Rattle.std.specs.Prelude.{nat_le, map, filter, codes, ◌==◌}
use Rattle.std.specs.Cmp.Lexicographic.{pointwise}
use Rattle.std.specs.List.{list_all, slice_split, join_with_byte, flat_map, AllByRecursion}
use Rattle.std.proofs.lemmas.Bool.{and_parts, and_from, both_ways, eqb-true, lt-ltb}
use Rattle.std.proofs.lemmas.Bool.Decides.{nat_tests}
use Rattle.std.proofs.lemmas.List.Splits.{join_with_byte-slice_split}
use Rattle.std.proofs.lemmas.List.{map-append}
use Rattle.std.proofs.lemmas.Grind.{flat_map-append}
use Rattle.fan_base.specs.Word.{is_word, is_word_byte}
use Rattle.query_grammar.specs.declared.token.Token.{Token}
use Rattle.query_grammar.specs.declared.token.Token.TheVariants as token
use Rattle.query_grammar.specs.Tree.{Tree}
use Rattle.query_grammar.specs.Grammar.{Kind, Phrase}
use Rattle.query_grammar.specs.Grammar as grammar
use Rattle.query_model.specs.Results.{◌>>=◌, check}
use Rattle.query_model.specs.Pieces.{Bytes, fields, is_some_text, is_text}
use Rattle.query_model.specs.declared.fault.BadKind.{BadKind}
use Rattle.query_model.specs.declared.fault.BadKind.TheVariants.{BadWord}
use Rattle.query_model.specs.Expressions.{is_sign, apart, parts, parts_of, is_token, token_of, tokens_of}
use Rattle.query_grammar.specs.Canonical.{phrases_of, canonical_tokens}
use Rattle.query_model.specs.Canonical.{in_brackets, as_fact, as_both, expr_text}
use Rattle.query_model.specs.Written.{HasWords}
use Rattle.query_model.proofs.ListLaws.{all-append, all-left, all-right}
use Rattle.query_model.proofs.TextFacts.{is_field, fields-join, fields-field, field-word}

-- each word of tokens is a word
abbrev pub IsGood : Token → Type 0
IsGood (token.Word w) = is_word w ≡ true
IsGood token.Bar = Unit {0}
IsGood token.Bang = Unit {0}
IsGood token.Left = Unit {0}
IsGood token.Right = Unit {0}

pub words_from_tokens : {kind : Kind} (p : Phrase kind) → AllByRecursion IsGood (grammar.tokens_of p) → HasWords (grammar.tree_of p)
words_from_tokens (Phrase.word w) h = h.0
words_from_tokens (Phrase.bang f) h = words_from_tokens f h.1
words_from_tokens (Phrase.brackets e) h = words_from_tokens e (all-left IsGood (grammar.tokens_of e) (token.Right ∷ []) h.1)
words_from_tokens (Phrase.one_fact f) h = words_from_tokens f h
words_from_tokens (Phrase.beside b f) h =
    (words_from_tokens b (all-left IsGood (grammar.tokens_of b) (grammar.tokens_of f) h), words_from_tokens f (all-right IsGood (grammar.tokens_of b) (grammar.tokens_of f) h))
words_from_tokens (Phrase.one_both b) h = words_from_tokens b h
words_from_tokens (Phrase.bar e b) h =
    (words_from_tokens e (all-left IsGood (grammar.tokens_of e) (token.Bar ∷ grammar.tokens_of b) h), words_from_tokens b ((all-right IsGood (grammar.tokens_of e) (token.Bar ∷ grammar.tokens_of b) h).1))

-- tokens that are read have words that are words
good_token : (part : Bytes) → is_token part ≡ true → IsGood (token_of part)
good_token part h = bar (is_text (codes "|") part) (is_text (codes "!") part) (is_text (codes "(") part) (is_text (codes ")") part) refl refl refl refl
  where
    word_by : is_text (codes "|") part ≡ false → is_text (codes "!") part ≡ false → is_text (codes "(") part ≡ false → is_text (codes ")") part ≡ false → is_word part ≡ true
    word_by a b c d =
        sym (ap (λ (x : Bool). (x || (is_text (codes "!") part || (is_text (codes "(") part || is_text (codes ")") part))) || is_word part) a
        ∙ (ap (λ (x : Bool). (x || (is_text (codes "(") part || is_text (codes ")") part)) || is_word part) b
        ∙ (ap (λ (x : Bool). (x || is_text (codes ")") part) || is_word part) c ∙ ap (λ (x : Bool). x || is_word part) d))) ∙ h

    bar : (a b c d : Bool) → is_text (codes "|") part ≡ a → is_text (codes "!") part ≡ b → is_text (codes "(") part ≡ c → is_text (codes ")") part ≡ d
        → IsGood (cond a token.Bar (cond b token.Bang (cond c token.Left (cond d token.Right (token.Word part)))))
    bar true b c d ea eb ec ed = tt
    bar false true c d ea eb ec ed = tt
    bar false false true d ea eb ec ed = tt
    bar false false false true ea eb ec ed = tt
    bar false false false false ea eb ec ed = word_by ea eb ec ed

good_tokens : (texts : List Bytes) → list_all is_token texts ≡ true → AllByRecursion IsGood (map token_of texts)
good_tokens [] h = tt
good_tokens (t ∷ ts) h = let parts = and_parts (is_token t) (list_all is_token ts) h in (good_token t parts.0, good_tokens ts parts.1)

pub read_tokens : (texts : List Bytes) (tokens : List Token) → tokens_of texts ≡ Ok tokens → AllByRecursion IsGood tokens
read_tokens texts tokens e = by (list_all is_token (parts_of texts)) refl e
  where
    by : (b : Bool) → list_all is_token (parts_of texts) ≡ b → (check b BadWord >>= λ u. Ok (map token_of (parts_of texts))) ≡ Ok tokens → AllByRecursion IsGood tokens
    by true is e =
        let one : Result (List Token) BadKind = Ok (map token_of (parts_of texts)) in
        let other : Result (List Token) BadKind = Ok tokens in
        let same_result : one ≡ other = e in
        let same : map token_of (parts_of texts) ≡ tokens = cc in
        subst (λ (ts : List Token). AllByRecursion IsGood ts) same (good_tokens (parts_of texts) is)
    by false is e = absurd cc

-- how a token is written
abbrev pub token_text : Token → Bytes
token_text (token.Word w) = w
token_text token.Bar = codes "|"
token_text token.Bang = codes "!"
token_text token.Left = codes "("
token_text token.Right = codes ")"

-- a text is read as its tokens
no_sign : (w : Bytes) (sign : ℕ) → is_word_byte sign ≡ false → is_word w ≡ true → is_text (sign ∷ []) w ≡ false
no_sign [] sign s h = refl
no_sign (b ∷ bs) sign s h =
    let bytes = (and_parts (nat_le (length (b ∷ bs)) 32) (list_all is_word_byte (b ∷ bs)) (and_parts (nat_le 1 (length (b ∷ bs))) (nat_le (length (b ∷ bs)) 32 && list_all is_word_byte (b ∷ bs)) h).1).1 in
    let first = (and_parts (is_word_byte b) (list_all is_word_byte bs) bytes).0 in
    by (nat_eq b sign) refl first
  where
    by : (e : Bool) → nat_eq b sign ≡ e → is_word_byte b ≡ true → is_text (sign ∷ []) (b ∷ bs) ≡ false
    by true is first =
        let same : b ≡ sign = eqb-true b sign is in
        absurd (both_ways (is_word_byte sign) s (subst (λ (c : ℕ). is_word_byte c ≡ true) same first))
    by false is first = ap (λ (e : Bool). e && pointwise ◌==◌ bs []) is

word_is_token : (w : Bytes) → is_word w ≡ true → (token_of w ≡ token.Word w) × (is_token w ≡ true)
word_is_token w h =
    let bar = no_sign w 124 refl h in
    let bang = no_sign w 33 refl h in
    let left = no_sign w 40 refl h in
    let right = no_sign w 41 refl h in (
      ap (λ (x : Bool). cond x token.Bar (cond (is_text (codes "!") w) token.Bang (cond (is_text (codes "(") w) token.Left (cond (is_text (codes ")") w) token.Right (token.Word w))))) bar
          ∙ (ap (λ (x : Bool). cond x token.Bang (cond (is_text (codes "(") w) token.Left (cond (is_text (codes ")") w) token.Right (token.Word w)))) bang
          ∙ (ap (λ (x : Bool). cond x token.Left (cond (is_text (codes ")") w) token.Right (token.Word w))) left
          ∙ ap (λ (x : Bool). cond x token.Right (token.Word w)) right)),
      ap (λ (x : Bool). (x || (is_text (codes "!") w || (is_text (codes "(") w || is_text (codes ")") w))) || is_word w) bar
          ∙ (ap (λ (x : Bool). (x || (is_text (codes "(") w || is_text (codes ")") w)) || is_word w) bang
          ∙ (ap (λ (x : Bool). (x || is_text (codes ")") w) || is_word w) left
          ∙ (ap (λ (x : Bool). x || is_word w) right ∙ h))),
    )

token_is_read : (t : Token) → IsGood t → (token_of (token_text t) ≡ t) × (is_token (token_text t) ≡ true)
token_is_read (token.Word w) h = word_is_token w h
token_is_read token.Bar h = (refl, refl)
token_is_read token.Bang h = (refl, refl)
token_is_read token.Left h = (refl, refl)
token_is_read token.Right h = (refl, refl)

pub tokens_are_read : (ts : List Token) → AllByRecursion IsGood ts → (map token_of (map token_text ts) ≡ ts) × (list_all is_token (map token_text ts) ≡ true)
tokens_are_read [] h = (refl, refl)
tokens_are_read (t ∷ ts) h =
    let one = token_is_read t h.0 in
    let rest = tokens_are_read ts h.1 in (
      ap (λ (x : Token). x ∷ map token_of (map token_text ts)) one.0 ∙ ap (λ (xs : List Token). t ∷ xs) rest.0,
      and_from (is_token (token_text t)) (list_all is_token (map token_text ts)) one.1 rest.1,
    )

-- the parts of a text, whichever way it is cut
abbrev cut_apart : Bytes → List Bytes
cut_apart text = fields (flat_map apart text)

cut-join : (x y : Bytes) → cut_apart (x ++ 32 ∷ y) ≡ cut_apart x ++ cut_apart y
cut-join x y = ap fields (flat_map-append apart x (32 ∷ y)) ∙ fields-join (flat_map apart x) (flat_map apart y)

parts-join : (ps : List Bytes) → parts_of (filter is_some_text ps) ≡ cut_apart (join_with_byte 32 ps)
unfolding parts fields
parts-join [] = refl
parts-join ([] ∷ []) = refl
parts-join ((b ∷ bs) ∷ []) =
    ap (λ (c : Bool). parts_of (cond c ((b ∷ bs) ∷ []) [])) (lt-ltb 0 (length (b ∷ bs)) (omega arith)) ∙ append-nil (parts (b ∷ bs))
parts-join ([] ∷ (p ∷ ps)) = parts-join (p ∷ ps) ∙ sym (cut-join [] (join_with_byte 32 (p ∷ ps)))
parts-join ((b ∷ bs) ∷ (p ∷ ps)) =
    ap (λ (c : Bool). parts_of (cond c ((b ∷ bs) ∷ filter is_some_text (p ∷ ps)) (filter is_some_text (p ∷ ps)))) (lt-ltb 0 (length (b ∷ bs)) (omega arith))
    ∙ (ap (λ (l : List Bytes). parts (b ∷ bs) ++ l) (parts-join (p ∷ ps))
    ∙ sym (cut-join (b ∷ bs) (join_with_byte 32 (p ∷ ps))))

pub parts_of-fields : (text : Bytes) → parts_of (fields text) ≡ cut_apart text
unfolding fields
parts_of-fields text = parts-join (slice_split (λ b. nat_eq b 32) text) ∙ ap cut_apart (join_with_byte-slice_split 32 text)

-- signs and words
word_no_sign : (b : ℕ) → is_word_byte b ≡ true → is_sign b ≡ false
word_no_sign b h = grind (arith, nat_tests)

apart-word : (w : Bytes) → list_all is_word_byte w ≡ true → flat_map apart w ≡ w
apart-word [] h = refl
apart-word (b ∷ bs) h =
    let parts = and_parts (is_word_byte b) (list_all is_word_byte bs) h in
    ap (λ (c : Bool). cond c (32 ∷ (b ∷ (32 ∷ []))) (b ∷ []) ++ flat_map apart bs) (word_no_sign b parts.0) ∙ ap (λ (l : Bytes). b ∷ l) (apart-word bs parts.1)

cut-word : (w : Bytes) → is_word w ≡ true → cut_apart w ≡ w ∷ []
cut-word w h =
    let bytes = (and_parts (nat_le (length w) 32) (list_all is_word_byte w) (and_parts (nat_le 1 (length w)) (nat_le (length w) 32 && list_all is_word_byte w) h).1).1 in
    ap fields (apart-word w bytes) ∙ fields-field w (field-word w h)

fields-front : (sign : ℕ) (x : Bytes) → is_field (sign ∷ []) ≡ true → fields (32 ∷ (sign ∷ (32 ∷ x))) ≡ (sign ∷ []) ∷ fields x
unfolding fields
fields-front sign x h = fields-join [] (sign ∷ (32 ∷ x)) ∙ (fields-join (sign ∷ []) x ∙ ap (λ (l : List Bytes). l ++ fields x) (fields-field (sign ∷ []) h))

cut-bang : (text : Bytes) → cut_apart (codes "!" ++ text) ≡ codes "!" ∷ cut_apart text
cut-bang text = fields-front 33 (flat_map apart text) refl

cut-brackets : (text : Bytes) → cut_apart (in_brackets text) ≡ codes "(" ∷ (cut_apart text ++ codes ")" ∷ [])
unfolding fields
cut-brackets text =
    fields-front 40 (flat_map apart (text ++ codes ")")) refl
    ∙ ap (λ (l : List Bytes). codes "(" ∷ l) (ap fields (flat_map-append apart text (codes ")")) ∙ fields-join (flat_map apart text) (41 ∷ (32 ∷ [])))

cut-bar : (x y : Bytes) → cut_apart (x ++ (codes " | " ++ y)) ≡ cut_apart x ++ (codes "|" ∷ cut_apart y)
unfolding fields
cut-bar x y =
    cut-join x (124 ∷ (32 ∷ y))
    ∙ ap (λ (l : List Bytes). cut_apart x ++ l) (fields-front 124 (32 ∷ flat_map apart y) refl ∙ ap (λ (l : List Bytes). codes "|" ∷ l) (fields-join [] (flat_map apart y)))

-- the text of a tree, at each level
record IsCut (e : Tree) : Type 0 where
  either : cut_apart (expr_text e) ≡ map token_text (grammar.tokens_of (phrases_of e).either)
  both : cut_apart (as_both e (expr_text e)) ≡ map token_text (grammar.tokens_of (phrases_of e).both)
  fact : cut_apart (as_fact e (expr_text e)) ≡ map token_text (grammar.tokens_of (phrases_of e).fact)

brackets_text : (tokens : List Token) (text : Bytes) → cut_apart text ≡ map token_text tokens → cut_apart (in_brackets text) ≡ map token_text (token.Left ∷ (tokens ++ token.Right ∷ []))
brackets_text tokens text e =
    cut-brackets text ∙ (ap (λ (l : List Bytes). codes "(" ∷ (l ++ codes ")" ∷ [])) e ∙ ap (λ (l : List Bytes). codes "(" ∷ l) (sym (map-append token_text tokens (token.Right ∷ []))))

is_cut : (e : Tree) → HasWords e → IsCut e
is_cut (Tree.word w) h = record { either = cut-word w h; both = cut-word w h; fact = cut-word w h }
is_cut (Tree.not e) h =
    let inner = is_cut e h in
    let here = cut-bang (as_fact e (expr_text e)) ∙ ap (λ (l : List Bytes). codes "!" ∷ l) inner.fact in
    record { either = here; both = here; fact = here }
is_cut (Tree.both a b) h =
    let left = is_cut a h.0 in
    let right = is_cut b h.1 in
    let tokens = grammar.tokens_of (phrases_of a).both ++ grammar.tokens_of (phrases_of b).fact in
    let here : cut_apart (expr_text (Tree.both a b)) ≡ map token_text (grammar.tokens_of (phrases_of a).both ++ grammar.tokens_of (phrases_of b).fact) =
    cut-join (as_both a (expr_text a)) (as_fact b (expr_text b))
    ∙ (ap (λ (l : List Bytes). l ++ cut_apart (as_fact b (expr_text b))) left.both
    ∙ (ap (λ (l : List Bytes). map token_text (grammar.tokens_of (phrases_of a).both) ++ l) right.fact
    ∙ sym (map-append token_text (grammar.tokens_of (phrases_of a).both) (grammar.tokens_of (phrases_of b).fact)))) in
    record { either = here; both = here; fact = brackets_text (grammar.tokens_of (phrases_of a).both ++ grammar.tokens_of (phrases_of b).fact) (expr_text (Tree.both a b)) here }
is_cut (Tree.either a b) h =
    let left = is_cut a h.0 in
    let right = is_cut b h.1 in
    let here : cut_apart (expr_text (Tree.either a b)) ≡ map token_text (grammar.tokens_of (phrases_of a).either ++ (token.Bar ∷ grammar.tokens_of (phrases_of b).both)) =
    cut-bar (expr_text a) (as_both b (expr_text b))
    ∙ (ap (λ (l : List Bytes). l ++ (codes "|" ∷ cut_apart (as_both b (expr_text b)))) left.either
    ∙ (ap (λ (l : List Bytes). map token_text (grammar.tokens_of (phrases_of a).either) ++ (codes "|" ∷ l)) right.both
    ∙ sym (map-append token_text (grammar.tokens_of (phrases_of a).either) (token.Bar ∷ grammar.tokens_of (phrases_of b).both)))) in
    let closed = brackets_text (grammar.tokens_of (phrases_of a).either ++ (token.Bar ∷ grammar.tokens_of (phrases_of b).both)) (expr_text (Tree.either a b)) here in
    record { either = here; both = closed; fact = closed }

-- the canonical tokens of a tree with words
record AreGood (e : Tree) : Type 0 where
  either : AllByRecursion IsGood (grammar.tokens_of (phrases_of e).either)
  both : AllByRecursion IsGood (grammar.tokens_of (phrases_of e).both)
  fact : AllByRecursion IsGood (grammar.tokens_of (phrases_of e).fact)

are_good : (e : Tree) → HasWords e → AreGood e
are_good (Tree.word w) h = record { either = (h, tt); both = (h, tt); fact = (h, tt) }
are_good (Tree.not e) h = let inner = (are_good e h).fact in record { either = (tt, inner); both = (tt, inner); fact = (tt, inner) }
are_good (Tree.both a b) h =
    let here = all-append IsGood (grammar.tokens_of (phrases_of a).both) (grammar.tokens_of (phrases_of b).fact) (are_good a h.0).both (are_good b h.1).fact in
    record { either = here; both = here; fact = (tt, all-append IsGood (grammar.tokens_of (phrases_of a).both ++ grammar.tokens_of (phrases_of b).fact) (token.Right ∷ []) here (tt, tt)) }
are_good (Tree.either a b) h =
    let here = all-append IsGood (grammar.tokens_of (phrases_of a).either) (token.Bar ∷ grammar.tokens_of (phrases_of b).both) (are_good a h.0).either (tt, (are_good b h.1).both) in
    let closed : AllByRecursion IsGood (token.Left ∷ ((grammar.tokens_of (phrases_of a).either ++ (token.Bar ∷ grammar.tokens_of (phrases_of b).both)) ++ token.Right ∷ [])) =
    (tt, all-append IsGood (grammar.tokens_of (phrases_of a).either ++ (token.Bar ∷ grammar.tokens_of (phrases_of b).both)) (token.Right ∷ []) here (tt, tt)) in
    record { either = here; both = closed; fact = closed }

abbrev given_tokens : List Token → Result (List Token) BadKind
given_tokens ts = Ok ts

abbrev tokens_by : List Bytes → Result (List Token) BadKind
tokens_by ps = Ok (map token_of ps)

-- the fields of the canonical text are read as the canonical tokens
pub text_is_read : (e : Tree) → HasWords e → tokens_of (fields (expr_text e)) ≡ Ok (canonical_tokens e)
text_is_read e h =
    let cut : parts_of (fields (expr_text e)) ≡ map token_text (canonical_tokens e) = parts_of-fields (expr_text e) ∙ (is_cut e h).either in
    let read = tokens_are_read (canonical_tokens e) (are_good e h).either in
    ap (λ (ps : List Bytes). check (list_all is_token ps) BadWord >>= λ u. tokens_by ps) cut
    ∙ (ap (λ (b : Bool). check b BadWord >>= λ u. tokens_by (map token_text (canonical_tokens e))) read.1
    ∙ ap (λ (ts : List Token). given_tokens ts) read.0)
