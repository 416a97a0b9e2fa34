-- Reading parts one by one gives the first tokens of all.
use Rattle.std.proofs.Common.{◌≡◌, ℕ, zero, suc, ◌<◌, ◌≤◌, arith, length-append, List, [], ◌∷◌, ◌++◌, length, take, Bool, true, false, ◌&&◌, Result, Ok, Err, refl, sym, ap, ◌∙◌, append_assoc, append-nil}
use Rattle.std.specs.Prelude.{map}
use Rattle.std.specs.List.{list_all}
use Rattle.std.proofs.lemmas.List.{take_all}
use Rattle.std.proofs.Math.Seq.{take-append_seam}
use Rattle.std.proofs.lemmas.List.Folds.{list_all-append}
use Rattle.query_grammar.specs.declared.token.Token.{Token}
use Rattle.query_model.specs.declared.fault.BadKind.{BadKind}
use Rattle.query_model.specs.declared.fault.BadKind.TheVariants.{BadWord}
use Rattle.query_model.specs.Results.{◌>>=◌, check}
use Rattle.query_model.specs.Pieces.{Bytes}
use Rattle.query_model.specs.Expressions.{is_token, token_of, parts_of}
use Rattle.query_text.specs.Sayings.{first_tokens, most_kept, token_in, tokens_behind}

abbrev checked : Bool → List Token → Result (List Token) BadKind
checked good tokens = check good BadWord >>= λ u. Ok tokens

take-over : (n : ℕ) (xs ys : List Token) → take n (take n xs ++ ys) ≡ take n (xs ++ ys)
take-over zero xs ys = refl
take-over (suc n) [] ys = refl
take-over (suc n) (x ∷ xs) ys = ap (λ ts. x ∷ ts) (take-over n xs ys)

one_more : (n : ℕ) (good : Bool) (taken new more : List Token) (t u : Token) → u ≡ t → new ≡ take n (taken ++ t ∷ []) → checked good (take n (taken ++ u ∷ more)) ≡ checked good (take n (new ++ more))
one_more n true taken new more t u same is =
    ap (λ ts. Ok ts) (ap (take n) (ap (λ v. taken ++ v ∷ more) same ∙ sym (append_assoc taken (t ∷ []) more))
    ∙ (sym (take-over n (taken ++ t ∷ []) more) ∙ ap (λ ts. take n (ts ++ more)) (sym is)))
one_more n false taken new more t u same is = refl

-- one part more
pub token_ok : (taken new : List Token) (part : Bytes) (rest all : List Bytes) (t : Token) → all ≡ part ∷ rest → token_in part ≡ Ok t → new ≡ take most_kept (taken ++ t ∷ [])
    → tokens_behind new rest ≡ tokens_behind taken all
token_ok taken new part rest all t front is kept = by (is_token part) refl is
  where
    by : (good : Bool) → is_token part ≡ good → (check good BadWord >>= λ u. Ok (token_of part)) ≡ Ok t → tokens_behind new rest ≡ tokens_behind taken all
    by true good e =
        let same : token_of part ≡ t = cc in
        sym (ap (tokens_behind taken) front ∙ (ap (λ b. checked (b && list_all is_token rest) (take most_kept (taken ++ token_of part ∷ map token_of rest))) good
        ∙ one_more most_kept (list_all is_token rest) taken new (map token_of rest) t (token_of part) same kept))
    by false good e = absurd cc

-- a part that is no token
pub token_bad : (taken : List Token) (part : Bytes) (rest all : List Bytes) (kind : BadKind) → all ≡ part ∷ rest → token_in part ≡ Err kind → tokens_behind taken all ≡ Err kind
token_bad taken part rest all kind front is = by (is_token part) refl is
  where
    by : (good : Bool) → is_token part ≡ good → (check good BadWord >>= λ u. Ok (token_of part)) ≡ Err kind → tokens_behind taken all ≡ Err kind
    by true good e = absurd cc
    by false good e =
        let same : BadWord ≡ kind = cc in
        ap (tokens_behind taken) front ∙ (ap (λ b. checked (b && list_all is_token rest) (take most_kept (taken ++ token_of part ∷ map token_of rest))) good ∙ ap (λ k. Err k) same)

all_kept : (n : ℕ) (taken : List Token) → length taken ≤ n → take n (taken ++ []) ≡ taken
all_kept n taken few = ap (take n) (append-nil taken) ∙ take_all n taken few

pub tokens_none : (taken : List Token) → length taken ≤ most_kept → tokens_behind taken [] ≡ Ok taken
tokens_none taken few = ap (λ ts. Ok ts) (all_kept most_kept taken few)

map-append : (xs ys : List Bytes) → map token_of (xs ++ ys) ≡ map token_of xs ++ map token_of ys
map-append [] ys = refl
map-append (x ∷ xs) ys = ap (λ ts. token_of x ∷ ts) (map-append xs ys)

join_ok : (n : ℕ) (b c : Bool) (taken x y new : List Token) → checked b (take n (taken ++ x)) ≡ Ok new → checked (b && c) (take n (taken ++ (x ++ y))) ≡ checked c (take n (new ++ y))
join_ok n true true taken x y new e =
    let same : take n (taken ++ x) ≡ new = cc in
    ap (λ ts. Ok ts) (ap (take n) (sym (append_assoc taken x y)) ∙ (sym (take-over n (taken ++ x) y) ∙ ap (λ ts. take n (ts ++ y)) same))
join_ok n true false taken x y new e = refl
join_ok n false c taken x y new e = absurd cc

join_bad : (n : ℕ) (b c : Bool) (taken x y : List Token) (kind : BadKind) → checked b (take n (taken ++ x)) ≡ Err kind → checked (b && c) (take n (taken ++ (x ++ y))) ≡ Err kind
join_bad n true c taken x y kind e = absurd cc
join_bad n false c taken x y kind e = e

split : (taken : List Token) (ps qs : List Bytes) → tokens_behind taken (ps ++ qs) ≡ checked (list_all is_token ps && list_all is_token qs) (take most_kept (taken ++ (map token_of ps ++ map token_of qs)))
split taken ps qs =
    ap (λ b. checked b (take most_kept (taken ++ map token_of (ps ++ qs)))) (list_all-append is_token ps qs)
    ∙ ap (λ ts. checked (list_all is_token ps && list_all is_token qs) (take most_kept (taken ++ ts))) (map-append ps qs)

-- the parts of one field, and then those of the others
pub tokens_ok : (taken new : List Token) (ps qs all : List Bytes) → all ≡ ps ++ qs → tokens_behind taken ps ≡ Ok new → tokens_behind new qs ≡ tokens_behind taken all
tokens_ok taken new ps qs all cut is =
    sym (ap (tokens_behind taken) cut ∙ (split taken ps qs ∙ join_ok most_kept (list_all is_token ps) (list_all is_token qs) taken (map token_of ps) (map token_of qs) new is))

pub tokens_bad : (taken : List Token) (ps qs all : List Bytes) (kind : BadKind) → all ≡ ps ++ qs → tokens_behind taken ps ≡ Err kind → tokens_behind taken all ≡ Err kind
tokens_bad taken ps qs all kind cut is =
    ap (tokens_behind taken) cut ∙ (split taken ps qs ∙ join_bad most_kept (list_all is_token ps) (list_all is_token qs) taken (map token_of ps) (map token_of qs) kind is)

-- the first tokens of all parts are those of the text
pub first_of_parts : (texts : List Bytes) → tokens_behind [] (parts_of texts) ≡ first_tokens texts
first_of_parts texts = by (list_all is_token (parts_of texts))
  where
    by : (b : Bool) → checked b (take most_kept ([] ++ map token_of (parts_of texts)))
        ≡ ((check b BadWord >>= λ u. Ok (map token_of (parts_of texts))) >>= λ tokens. Ok (take most_kept tokens))
    by true = refl
    by false = refl

-- one token more is kept below the limit, and none at it
kept_below : (n : ℕ) (taken : List Token) (t : Token) → length taken < n → taken ++ t ∷ [] ≡ take n (taken ++ t ∷ [])
kept_below n taken t few = sym (take_all n (taken ++ t ∷ []) (omega (arith, few, length-append taken (t ∷ []))))

pub one_kept : (taken : List Token) (t : Token) → length taken < most_kept → taken ++ t ∷ [] ≡ take most_kept (taken ++ t ∷ [])
one_kept taken t few = kept_below most_kept taken t few

kept_at : (n : ℕ) (taken : List Token) (t : Token) → length taken ≡ n → taken ≡ take n (taken ++ t ∷ [])
kept_at n taken t full = sym (take-append_seam taken (t ∷ [])) ∙ ap (λ m. take m (taken ++ t ∷ [])) full

pub none_kept : (taken : List Token) (t : Token) → length taken ≡ most_kept → taken ≡ take most_kept (taken ++ t ∷ [])
none_kept taken t full = kept_at most_kept taken t full
