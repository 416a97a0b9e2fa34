-- What the plain program may conclude from one way to form a phrase.
use Rattle.std.proofs.Common.{◌≡◌, ◌≢◌, ℕ, ◌+◌, ◌<◌, ◌≤◌, List, [], ◌∷◌, ◌++◌, length, take, drop, get_or, Option, Some, None, refl, sym, ap, ◌∙◌, arith, length-append, inl, inr, ◌⊎◌}
use Rattle.std.proofs.lemmas.List.{take-append-drop, take_at, drop_at, drop_more, append_cancel_right}
use Rattle.fan_base.specs.declared.word.Word.{Word}
use Rattle.query_grammar.specs.declared.token.Token.{Token}
use Rattle.query_grammar.specs.declared.token.Token.TheVariants as token
use Rattle.query_grammar.specs.Tree.{Tree}
use Rattle.query_grammar.specs.Grammar.{Kind, Phrase, word, bang, brackets, one_fact, beside, one_both, bar, tokens_of, tree_of}
use Rattle.text_tests.specs.Slow.{Finds, FindsBeside, FindsBar}
use Rattle.query_expr.proofs.Nesting.{some_tokens}

pub nothing_is_no_fact : (tokens : List Token) → length tokens ≡ 0 → Finds Kind.fact tokens None
nothing_is_no_fact tokens none p e = let some : 0 < length (tokens_of p) = some_tokens p in absurd (omega (arith, ap length e))

-- A fact that begins with a word.
pub word_alone : (tokens rest : List Token) (w : Word) → tokens ≡ token.Word w ∷ rest → length rest ≡ 0 → Finds Kind.fact tokens (Some (Tree.word w))
word_alone tokens [] w e none = (word w, sym e, refl)
word_alone tokens (t ∷ rest) w e none = absurd (omega arith)

pub word_and_more : (tokens rest : List Token) (w : Word) → tokens ≡ token.Word w ∷ rest → 0 < length rest → Finds Kind.fact tokens None
word_and_more tokens [] w e some p h = absurd (omega arith)
word_and_more tokens (t ∷ rest) w e some (word v) h = cc
word_and_more tokens (t ∷ rest) w e some (bang f) h = cc
word_and_more tokens (t ∷ rest) w e some (brackets p) h = cc

-- One that begins with a bang.
pub bang_found : (tokens rest : List Token) (tree : Tree) → tokens ≡ token.Bang ∷ rest → Finds Kind.fact rest (Some tree) → Finds Kind.fact tokens (Some (Tree.not tree))
bang_found tokens rest tree e h = (bang h.0, ap (λ (ts : List Token). token.Bang ∷ ts) h.1 ∙ sym e, ap Tree.not h.2)

pub bang_not_found : (tokens rest : List Token) → tokens ≡ token.Bang ∷ rest → Finds Kind.fact rest None → Finds Kind.fact tokens None
bang_not_found tokens rest e none (word w) h = cc
bang_not_found tokens rest e none (bang f) h = let same : tokens_of f ≡ rest = cc in none f same
bang_not_found tokens rest e none (brackets p) h = cc

-- One that begins with a bracket.
pub left_alone : (tokens rest : List Token) → tokens ≡ token.Left ∷ rest → length rest ≡ 0 → Finds Kind.fact tokens None
left_alone tokens rest e none (word w) h = cc
left_alone tokens rest e none (bang f) h = cc
left_alone tokens rest e none (brackets p) h =
    let same : tokens_of p ++ token.Right ∷ [] ≡ rest = cc in
    absurd (omega (arith, ap length same, length-append (tokens_of p) (token.Right ∷ [])))

not_in_brackets : (tokens rest inner : List Token) → tokens ≡ token.Left ∷ rest → rest ≡ inner ++ token.Right ∷ [] → Finds Kind.either inner None → (p : Phrase Kind.fact) → tokens_of p ≢ tokens
not_in_brackets tokens rest inner e f none (word w) h = cc
not_in_brackets tokens rest inner e f none (bang g) h = cc
not_in_brackets tokens rest inner e f none (brackets p) h =
    let same : tokens_of p ++ token.Right ∷ [] ≡ rest = cc in
    none p (append_cancel_right (tokens_of p) inner (token.Right ∷ []) (same ∙ f))

pub in_brackets : (tokens rest inner : List Token) (found : Option Tree) → tokens ≡ token.Left ∷ rest → rest ≡ inner ++ token.Right ∷ [] → Finds Kind.either inner found → Finds Kind.fact tokens found
in_brackets tokens rest inner (Some tree) e f h =
    (brackets h.0, ap (λ (ts : List Token). token.Left ∷ (ts ++ token.Right ∷ [])) h.1 ∙ sym (e ∙ ap (λ (ts : List Token). token.Left ∷ ts) f), h.2)
in_brackets tokens rest inner None e f none = not_in_brackets tokens rest inner e f none

last_token : (xs ys : List Token) (s t : Token) → xs ++ s ∷ [] ≡ ys ++ t ∷ [] → s ≡ t
last_token [] [] s t e = cc
last_token [] (y ∷ ys) s t e = absurd (omega (arith, ap length e, length-append ys (t ∷ [])))
last_token (x ∷ xs) [] s t e = absurd (omega (arith, ap length e, length-append xs (s ∷ [])))
last_token (x ∷ xs) (y ∷ ys) s t e = let same : xs ++ s ∷ [] ≡ ys ++ t ∷ [] = cc in last_token xs ys s t same

pub no_bracket_closes : (tokens rest inner : List Token) (t : Token) → tokens ≡ token.Left ∷ rest → rest ≡ inner ++ t ∷ [] → t ≢ token.Right → Finds Kind.fact tokens None
no_bracket_closes tokens rest inner t e f other (word w) h = cc
no_bracket_closes tokens rest inner t e f other (bang g) h = cc
no_bracket_closes tokens rest inner t e f other (brackets p) h =
    let same : tokens_of p ++ token.Right ∷ [] ≡ rest = cc in
    absurd (other (sym (last_token (tokens_of p) inner token.Right t (same ∙ f))))

pub mark_is_no_fact : (tokens rest : List Token) (t : Token) → tokens ≡ t ∷ rest → (t ≡ token.Bar) ⊎ (t ≡ token.Right) → Finds Kind.fact tokens None
mark_is_no_fact tokens rest t e (inl is) (word w) h = cc
mark_is_no_fact tokens rest t e (inl is) (bang f) h = cc
mark_is_no_fact tokens rest t e (inl is) (brackets p) h = cc
mark_is_no_fact tokens rest t e (inr is) (word w) h = cc
mark_is_no_fact tokens rest t e (inr is) (bang f) h = cc
mark_is_no_fact tokens rest t e (inr is) (brackets p) h = cc

-- Facts beside one.
pub beside_found : (tokens : List Token) (place : ℕ) (a b : Tree) → Finds Kind.both (take place tokens) (Some a) → Finds Kind.fact (drop place tokens) (Some b)
    → FindsBeside place tokens (Some (Tree.both a b))
beside_found tokens place a b h k =
    (h.0, k.0, h.1, k.1, ap (λ (x : Tree). Tree.both x (tree_of k.0)) h.2 ∙ ap (λ (x : Tree). Tree.both a x) k.2)

pub no_facts_before : (tokens : List Token) (place : ℕ) → Finds Kind.both (take place tokens) None → FindsBeside place tokens None
no_facts_before tokens place none b f h k = none b h

pub no_fact_behind : (tokens : List Token) (place : ℕ) → Finds Kind.fact (drop place tokens) None → FindsBeside place tokens None
no_fact_behind tokens place none b f h k = none f k

pub both_found : (tokens : List Token) (place : ℕ) (tree : Tree) → FindsBeside place tokens (Some tree) → Finds Kind.both tokens (Some tree)
both_found tokens place tree h =
    (beside h.0 h.1, ap (λ (ts : List Token). ts ++ tokens_of h.1) h.2 ∙ (ap (λ (ts : List Token). take place tokens ++ ts) h.3 ∙ take-append-drop place tokens), h.4)

not_both : (tokens : List Token) (place : ℕ) → length tokens ≤ place → ((k : ℕ) → 0 < k → k < place → FindsBeside k tokens None)
    → Finds Kind.fact tokens None → (p : Phrase Kind.both) → tokens_of p ≢ tokens
not_both tokens place le none h (one_fact f) e = h f e
not_both tokens place le none h (beside b f) e =
    let k : ℕ = length (tokens_of b) in
    let front : take k tokens ≡ tokens_of b = ap (λ (ts : List Token). take k ts) (sym e) ∙ take_at (tokens_of b) (tokens_of f) k refl in
    let behind : drop k tokens ≡ tokens_of f = ap (λ (ts : List Token). drop k ts) (sym e) ∙ drop_at (tokens_of b) (tokens_of f) k refl in
    none k (some_tokens b) (omega (arith, some_tokens f, length-append (tokens_of b) (tokens_of f), ap length e)) b f (sym front) (sym behind)

pub both_from_fact : (tokens : List Token) (place : ℕ) (found : Option Tree) → length tokens ≤ place → ((k : ℕ) → 0 < k → k < place → FindsBeside k tokens None)
    → Finds Kind.fact tokens found → Finds Kind.both tokens found
both_from_fact tokens place (Some tree) le none h = (one_fact h.0, h.1, h.2)
both_from_fact tokens place None le none h = not_both tokens place le none h

-- An expression and facts behind a bar.
pub bar_found : (tokens : List Token) (place : ℕ) (t : Token) (a b : Tree) → place < length tokens → t ≡ get_or tokens place t → t ≡ token.Bar
    → Finds Kind.either (take place tokens) (Some a) → Finds Kind.both (drop (place + 1) tokens) (Some b) → FindsBar place tokens (Some (Tree.either a b))
bar_found tokens place t a b lt at is h k =
    let split : drop place tokens ≡ token.Bar ∷ drop (place + 1) tokens = drop_more tokens place t lt ∙ ap (λ (x : Token). x ∷ drop (place + 1) tokens) (sym at ∙ is) in
    (h.0, k.0, h.1, ap (λ (ts : List Token). token.Bar ∷ ts) k.1 ∙ sym split, ap (λ (x : Tree). Tree.either x (tree_of k.0)) h.2 ∙ ap (λ (x : Tree). Tree.either a x) k.2)

pub no_bar_here : (tokens : List Token) (place : ℕ) (t : Token) → place < length tokens → t ≡ get_or tokens place t → t ≢ token.Bar → FindsBar place tokens None
no_bar_here tokens place t lt at other e b h k =
    let split : drop place tokens ≡ t ∷ drop (place + 1) tokens = drop_more tokens place t lt ∙ ap (λ (x : Token). x ∷ drop (place + 1) tokens) (sym at) in
    let heads : token.Bar ∷ tokens_of b ≡ t ∷ drop (place + 1) tokens = k ∙ split in
    let same : t ≡ token.Bar = cc in
    absurd (other same)

pub nothing_before_bar : (tokens : List Token) (place : ℕ) → Finds Kind.either (take place tokens) None → FindsBar place tokens None
nothing_before_bar tokens place none e b h k = none e h

pub nothing_behind_bar : (tokens : List Token) (place : ℕ) (t : Token) → place < length tokens → Finds Kind.both (drop (place + 1) tokens) None → FindsBar place tokens None
nothing_behind_bar tokens place t lt none e b h k =
    let split : drop place tokens ≡ get_or tokens place t ∷ drop (place + 1) tokens = drop_more tokens place t lt in
    let whole : token.Bar ∷ tokens_of b ≡ get_or tokens place t ∷ drop (place + 1) tokens = k ∙ split in
    let same : tokens_of b ≡ drop (place + 1) tokens = cc in
    none b same

pub either_found : (tokens : List Token) (place : ℕ) (tree : Tree) → FindsBar place tokens (Some tree) → Finds Kind.either tokens (Some tree)
either_found tokens place tree h =
    (bar h.0 h.1, ap (λ (ts : List Token). ts ++ token.Bar ∷ tokens_of h.1) h.2 ∙ (ap (λ (ts : List Token). take place tokens ++ ts) h.3 ∙ take-append-drop place tokens), h.4)

not_either : (tokens : List Token) (place : ℕ) → length tokens ≤ place → ((k : ℕ) → k < place → FindsBar k tokens None)
    → Finds Kind.both tokens None → (p : Phrase Kind.either) → tokens_of p ≢ tokens
not_either tokens place le none h (one_both b) e = h b e
not_either tokens place le none h (bar p b) e =
    let k : ℕ = length (tokens_of p) in
    let front : take k tokens ≡ tokens_of p = ap (λ (ts : List Token). take k ts) (sym e) ∙ take_at (tokens_of p) (token.Bar ∷ tokens_of b) k refl in
    let behind : drop k tokens ≡ token.Bar ∷ tokens_of b = ap (λ (ts : List Token). drop k ts) (sym e) ∙ drop_at (tokens_of p) (token.Bar ∷ tokens_of b) k refl in
    none k (omega (arith, length-append (tokens_of p) (token.Bar ∷ tokens_of b), ap length e)) p b (sym front) (sym behind)

pub either_from_both : (tokens : List Token) (place : ℕ) (found : Option Tree) → length tokens ≤ place → ((k : ℕ) → k < place → FindsBar k tokens None)
    → Finds Kind.both tokens found → Finds Kind.either tokens found
either_from_both tokens place (Some tree) le none h = (one_both h.0, h.1, h.2)
either_from_both tokens place None le none h = not_either tokens place le none h
