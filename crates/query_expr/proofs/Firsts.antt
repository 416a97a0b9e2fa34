-- The first fault is one, and there is one wherever no tree is.
use Rattle.std.proofs.Common.{◌≡◌, ℕ, suc, ◌+◌, ◌<◌, ◌≤◌, List, [], ◌∷◌, ◌++◌, length, take, drop, get_or, Option, Some, None, refl, sym, ap, ◌∙◌, subst, arith, inl, inr, ◌⊎◌, append_assoc}
use Rattle.std.proofs.lemmas.Bool.{cases_lt}
use Rattle.std.proofs.lemmas.List.{append-nil, take_more, take_all, take-take, take-append-drop, length-take}
use Rattle.query_grammar.specs.declared.token.Token.{Token}
use Rattle.query_grammar.specs.declared.token.Token.TheVariants as token
use Rattle.query_grammar.specs.declared.fault.ExprFault.{ExprFault}
use Rattle.query_grammar.specs.declared.fault.ExprFault.TheVariants as fault
use Rattle.query_grammar.specs.Tree.{Tree}
use Rattle.query_grammar.specs.Grammar.{Kind, Phrase, tokens_of, tree_of, Reads, CanGoOn}
use Rattle.query_grammar.specs.Depth.{IsOpener, IsOpen, HasDepth, IsWithinDepth}
use Rattle.query_grammar.specs.Faults.{Accepts, IsFaultlessTo, Refuses}
use Rattle.query_expr.proofs.Machine.{State, start, next, run, run_whole, frame_of}
use Rattle.query_expr.proofs.Texts.{text, text-next}
use Rattle.query_expr.proofs.Answering.{CanGoOn-text, one_phrase}
use Rattle.query_expr.proofs.Depths.{frames_depth, HasDepth-text, word_opens, right_opens, bar_opens}

-- Tokens from which an expression goes on take the machine to a state.
run-append : (o : Option State) (xs ys : List Token) → run o (xs ++ ys) ≡ run (run o xs) ys
run-append None xs ys = refl
run-append (Some s) [] ys = refl
run-append (Some s) (x ∷ xs) ys = run-append (next s x) xs ys

run-text : (xs : List Token) (s new : State) → run (Some s) xs ≡ Some new → text new ≡ text s ++ xs
run-text [] s new h = let same : s ≡ new = cc in ap (λ (x : State). text x) (sym same) ∙ sym (append-nil (text s))
run-text (x ∷ xs) s new h = go (next s x) refl h (run-text xs)
  where
    go : (o : Option State) → next s x ≡ o → run o xs ≡ Some new → ((mid end : State) → run (Some mid) xs ≡ Some end → text end ≡ text mid ++ xs) → text new ≡ text s ++ (x ∷ xs)
    go None e none more = cc
    go (Some mid) e some more = more mid new some ∙ (ap (λ (ts : List Token). ts ++ xs) (text-next s x mid e) ∙ append_assoc (text s) (x ∷ []) xs)

pub state_of : (tokens : List Token) → CanGoOn tokens → (s : State) × (text s ≡ tokens)
state_of tokens h = go (run (Some start) tokens) refl
  where
    there : run (run (Some start) tokens) (h.1 ++ []) ≡ Some (record { top = frame_of h.0; below = [] })
    there =
        sym (run-append (Some start) tokens (h.1 ++ []))
        ∙ (ap (λ (ts : List Token). run (Some start) ts) (sym (append_assoc tokens h.1 []) ∙ ap (λ (ts : List Token). ts ++ []) (sym h.2))
        ∙ run_whole h.0 [])

    go : (o : Option State) → run (Some start) tokens ≡ o → (s : State) × (text s ≡ tokens)
    go None e =
        let nothing : Option State = None in
        let whole_state : State = record { top = frame_of h.0; below = [] } in
        let clash : nothing ≡ Some whole_state = sym (ap (λ (o : Option State). run o (h.1 ++ [])) e) ∙ there in
        cc
    go (Some s) e = (s, run-text tokens start s e)

-- A Left or a Bang may stand wherever an expression goes on.
pub goes_on_at_left : (tokens : List Token) → CanGoOn tokens → CanGoOn (tokens ++ token.Left ∷ [])
goes_on_at_left tokens h =
    let found : (s : State) × (text s ≡ tokens) = state_of tokens h in
    let new : State = record { top = record { alternatives = None; facts = None; bangs = 0 }; below = found.0.top ∷ found.0.below } in
    subst (λ (ts : List Token). CanGoOn ts) (text-next found.0 token.Left new refl ∙ ap (λ (ts : List Token). ts ++ token.Left ∷ []) found.1) (CanGoOn-text new)

pub goes_on_at_bang : (tokens : List Token) → CanGoOn tokens → CanGoOn (tokens ++ token.Bang ∷ [])
goes_on_at_bang tokens h =
    let found : (s : State) × (text s ≡ tokens) = state_of tokens h in
    let new : State = record { top = record { alternatives = found.0.top.alternatives; facts = found.0.top.facts; bangs = suc found.0.top.bangs }; below = found.0.below } in
    subst (λ (ts : List Token). CanGoOn ts) (text-next found.0 token.Bang new refl ∙ ap (λ (ts : List Token). ts ++ token.Bang ∷ []) found.1) (CanGoOn-text new)

-- What is open with a token more is open without it.
still_open : (x : Token) (xs : List Token) (t : Token) → IsOpen x (xs ++ t ∷ []) → IsOpen x xs
still_open x xs t h =
    (h.0, λ p more e. h.1 p (more ++ t ∷ []) (sym (append_assoc (tokens_of p) more (t ∷ [])) ∙ ap (λ (ts : List Token). ts ++ t ∷ []) e))

-- Only a Left or a Bang makes it deeper.
no_deeper : (tokens : List Token) (t : Token) (n m : ℕ) → ¬ IsOpener t → HasDepth tokens n → HasDepth (tokens ++ t ∷ []) m → m ≤ n
no_deeper [] t n m none here (inl h) = absurd (none h.0.0)
no_deeper [] t n m none here (inr h) = omega (arith, h.1)
no_deeper (x ∷ xs) t n m none (inl a) (inl b) =
    let less : b.1.0 ≤ a.1.0 = no_deeper xs t a.1.0 b.1.0 none a.1.2 b.1.2 in omega (arith, a.1.1, b.1.1)
no_deeper (x ∷ xs) t n m none (inl a) (inr b) =
    let less : m ≤ a.1.0 = no_deeper xs t a.1.0 m none a.1.2 b.1 in omega (arith, a.1.1)
no_deeper (x ∷ xs) t n m none (inr a) (inl b) = absurd (a.0 (still_open x xs t b.0))
no_deeper (x ∷ xs) t n m none (inr a) (inr b) = no_deeper xs t n m none a.1 b.1

-- What is faultless to a place is faultless to each place before it.
front_of : (tokens : List Token) (i j : ℕ) → i ≤ j → take j tokens ≡ take i tokens ++ drop i (take j tokens)
front_of tokens i j le = sym (take-append-drop i (take j tokens)) ∙ ap (λ (ts : List Token). ts ++ drop i (take j tokens)) (take-take i j tokens le)

pub CanGoOn-front : (xs ys : List Token) → CanGoOn (xs ++ ys) → CanGoOn xs
CanGoOn-front xs ys h = (h.0, ys ++ h.1, h.2 ∙ append_assoc xs ys h.1)

IsWithinDepth-front : (tokens : List Token) (i j : ℕ) → i ≤ j → IsWithinDepth 64 (take j tokens) → IsWithinDepth 64 (take i tokens)
IsWithinDepth-front tokens i j le h place n here = go (cases_lt i place)
  where
    go : (i < place) ⊎ (place ≤ i) → n ≤ 64
    go (inl far) =
        h i n (subst (λ (ts : List Token). HasDepth ts n)
        (take_all place (take i tokens) (let short : length (take i tokens) ≤ i = omega (arith, length-take i tokens) in omega arith) ∙ sym (take-take i j tokens le)) here)
    go (inr near) =
        let within : place ≤ j = omega arith in
        h place n (subst (λ (ts : List Token). HasDepth ts n) (take-take place i tokens near ∙ sym (take-take place j tokens within)) here)

pub faultless_before : (tokens : List Token) (i j : ℕ) → i ≤ j → IsFaultlessTo tokens j → IsFaultlessTo tokens i
faultless_before tokens i j le h = record {
  some = h.some;
  goes_on = CanGoOn-front (take i tokens) (drop i (take j tokens)) (subst (λ (ts : List Token). CanGoOn ts) (front_of tokens i j le) h.goes_on);
  shallow = IsWithinDepth-front tokens i j le h.shallow;
}

accepted_faultless : (tokens : List Token) (tree : Tree) (place : ℕ) → Accepts tokens tree → place ≤ length tokens → IsFaultlessTo tokens place
accepted_faultless tokens tree place h le =
    let all : take (length tokens) tokens ≡ tokens = take_all (length tokens) tokens (omega arith) in
    let whole : IsFaultlessTo tokens (length tokens) = record {
      some = h.some;
      goes_on = (h.reads.0, [], h.reads.1 ∙ (sym all ∙ sym (append-nil (take (length tokens) tokens))));
      shallow = subst (λ (ts : List Token). IsWithinDepth 64 ts) (sym all) h.shallow;
    } in
    faultless_before tokens place (length tokens) le whole

-- With the token of a fault nothing is faultless.
deep_ends : (tokens : List Token) (i : ℕ) → Refuses tokens (fault.TooDeep i) → ¬ IsFaultlessTo tokens (i + 1)
deep_ends tokens i h faultless =
    let all : take (i + 1) (take (i + 1) tokens) ≡ take (i + 1) tokens = take-take (i + 1) (i + 1) tokens (omega arith) in
    let bound : 65 ≤ 64 = faultless.shallow (i + 1) 65 (subst (λ (ts : List Token). HasDepth ts 65) (sym all) h.2) in
    absurd (omega arith)

unexpected_ends : (tokens : List Token) (i : ℕ) → Refuses tokens (fault.Unexpected i) → ¬ IsFaultlessTo tokens (i + 1)
unexpected_ends tokens i h faultless = h.2 faultless.goes_on

-- the token at a place
at_place : (tokens : List Token) (i : ℕ) → i < length tokens → take (i + 1) tokens ≡ take i tokens ++ get_or tokens i token.Bar ∷ []
at_place tokens i lt = take_more tokens i token.Bar lt

too_deep_at : (tokens : List Token) (i : ℕ) (t : Token) → IsFaultlessTo tokens i → HasDepth (take i tokens ++ t ∷ []) 65 → ¬ IsOpener t → ⊥
too_deep_at tokens i t faultless deep none =
    let found : (s : State) × (text s ≡ take i tokens) = state_of (take i tokens) faultless.goes_on in
    let n : ℕ = found.0.top.bangs + frames_depth found.0.below in
    let depth : HasDepth (take i tokens) n = subst (λ (ts : List Token). HasDepth ts n) found.1 (HasDepth-text found.0) in
    let all : take i (take i tokens) ≡ take i tokens = take-take i i tokens (omega arith) in
    let within : n ≤ 64 = faultless.shallow i n (subst (λ (ts : List Token). HasDepth ts n) (sym all) depth) in
    let more : 65 ≤ n = no_deeper (take i tokens) t n 65 none depth deep in
    absurd (omega arith)

opener_of : (t : Token) → (¬ IsOpener t → ⊥) → IsOpener t
opener_of (token.Word w) h = absurd (h (word_opens w))
opener_of token.Bar h = absurd (h bar_opens)
opener_of token.Bang h = inr refl
opener_of token.Left h = inl refl
opener_of token.Right h = absurd (h right_opens)

-- TooDeep stands at a Left or a Bang.
pub deep_at_opener : (tokens : List Token) (i : ℕ) → Refuses tokens (fault.TooDeep i) → IsOpener (get_or tokens i token.Bar)
deep_at_opener tokens i h =
    opener_of (get_or tokens i token.Bar)
    (too_deep_at tokens i (get_or tokens i token.Bar) h.0 (subst (λ (ts : List Token). HasDepth ts 65) (at_place tokens i h.1) h.2))

-- No fault stands at a token at which another one does.
not_both_at : (tokens : List Token) (i : ℕ) (t : Token) → CanGoOn (take i tokens) → take (i + 1) tokens ≡ take i tokens ++ t ∷ [] → IsOpener t → CanGoOn (take (i + 1) tokens)
not_both_at tokens i t go e (inl left) =
    subst (λ (ts : List Token). CanGoOn ts) (sym (e ∙ ap (λ (x : Token). take i tokens ++ x ∷ []) left)) (goes_on_at_left (take i tokens) go)
not_both_at tokens i t go e (inr bang) =
    subst (λ (ts : List Token). CanGoOn ts) (sym (e ∙ ap (λ (x : Token). take i tokens ++ x ∷ []) bang)) (goes_on_at_bang (take i tokens) go)

deep_and_unexpected : (tokens : List Token) (i : ℕ) → Refuses tokens (fault.TooDeep i) → Refuses tokens (fault.Unexpected i) → ⊥
deep_and_unexpected tokens i deep unexpected =
    unexpected.2 (not_both_at tokens i (get_or tokens i token.Bar) deep.0.goes_on (at_place tokens i deep.1) (deep_at_opener tokens i deep))

-- Two places at which a fault ends what is faultless are one.
one_place : (tokens : List Token) (i j : ℕ) → IsFaultlessTo tokens i → ¬ IsFaultlessTo tokens (i + 1) → IsFaultlessTo tokens j → ¬ IsFaultlessTo tokens (j + 1) → i ≡ j
one_place tokens i j at_i past_i at_j past_j = go (cases_lt i j) (cases_lt j i)
  where
    go : (i < j) ⊎ (j ≤ i) → (j < i) ⊎ (i ≤ j) → i ≡ j
    go (inl less) other = absurd (past_i (faultless_before tokens (i + 1) j (omega arith) at_j))
    go (inr le) (inl less) = absurd (past_j (faultless_before tokens (j + 1) i (omega arith) at_i))
    go (inr le) (inr ge) = omega arith

before_end : (tokens : List Token) (i : ℕ) → i < length tokens → ¬ IsFaultlessTo tokens (i + 1) → ¬ IsFaultlessTo tokens (length tokens)
before_end tokens i lt past whole = past (faultless_before tokens (i + 1) (length tokens) (omega arith) whole)

empty_only : (tokens : List Token) (f : ExprFault) → length tokens ≡ 0 → Refuses tokens f → fault.Empty ≡ f
empty_only tokens fault.Empty e h = refl
empty_only tokens fault.TooLong e h = absurd (omega (arith, e, h))
empty_only tokens (fault.TooDeep j) e h = absurd (omega (arith, e, h.0.some.0))
empty_only tokens (fault.Unexpected j) e h = absurd (omega (arith, e, h.0.some.0))
empty_only tokens fault.Unclosed e h = absurd (omega (arith, e, h.0.some.0))
empty_only tokens fault.Memory e h = absurd h

long_only : (tokens : List Token) (f : ExprFault) → 1024 < length tokens → Refuses tokens f → fault.TooLong ≡ f
long_only tokens fault.Empty e h = absurd (omega (arith, e, h))
long_only tokens fault.TooLong e h = refl
long_only tokens (fault.TooDeep j) e h = absurd (omega (arith, e, h.0.some.1))
long_only tokens (fault.Unexpected j) e h = absurd (omega (arith, e, h.0.some.1))
long_only tokens fault.Unclosed e h = absurd (omega (arith, e, h.0.some.1))
long_only tokens fault.Memory e h = absurd h

deep_only : (tokens : List Token) (i : ℕ) (f : ExprFault) → Refuses tokens (fault.TooDeep i) → Refuses tokens f → fault.TooDeep i ≡ f
deep_only tokens i fault.Empty e h = absurd (omega (arith, h, e.1))
deep_only tokens i fault.TooLong e h = absurd (omega (arith, h, e.0.some.1))
deep_only tokens i (fault.TooDeep j) e h =
    ap (λ (k : ℕ). fault.TooDeep k) (one_place tokens i j e.0 (deep_ends tokens i e) h.0 (deep_ends tokens j h))
deep_only tokens i (fault.Unexpected j) e h =
    let same : j ≡ i = one_place tokens j i h.0 (unexpected_ends tokens j h) e.0 (deep_ends tokens i e) in
    absurd (deep_and_unexpected tokens i e (subst (λ (k : ℕ). Refuses tokens (fault.Unexpected k)) same h))
deep_only tokens i fault.Unclosed e h = absurd (before_end tokens i e.1 (deep_ends tokens i e) h.0)
deep_only tokens i fault.Memory e h = absurd h

unexpected_only : (tokens : List Token) (i : ℕ) (f : ExprFault) → Refuses tokens (fault.Unexpected i) → Refuses tokens f → fault.Unexpected i ≡ f
unexpected_only tokens i fault.Empty e h = absurd (omega (arith, h, e.1))
unexpected_only tokens i fault.TooLong e h = absurd (omega (arith, h, e.0.some.1))
unexpected_only tokens i (fault.TooDeep j) e h =
    let same : i ≡ j = one_place tokens i j e.0 (unexpected_ends tokens i e) h.0 (deep_ends tokens j h) in
    absurd (deep_and_unexpected tokens j h (subst (λ (k : ℕ). Refuses tokens (fault.Unexpected k)) same e))
unexpected_only tokens i (fault.Unexpected j) e h =
    ap (λ (k : ℕ). fault.Unexpected k) (one_place tokens i j e.0 (unexpected_ends tokens i e) h.0 (unexpected_ends tokens j h))
unexpected_only tokens i fault.Unclosed e h = absurd (before_end tokens i e.1 (unexpected_ends tokens i e) h.0)
unexpected_only tokens i fault.Memory e h = absurd h

unclosed_only : (tokens : List Token) (f : ExprFault) → Refuses tokens fault.Unclosed → Refuses tokens f → fault.Unclosed ≡ f
unclosed_only tokens fault.Empty e h = absurd (omega (arith, h, e.0.some.0))
unclosed_only tokens fault.TooLong e h = absurd (omega (arith, h, e.0.some.1))
unclosed_only tokens (fault.TooDeep j) e h = absurd (before_end tokens j h.1 (deep_ends tokens j h) e.0)
unclosed_only tokens (fault.Unexpected j) e h = absurd (before_end tokens j h.1 (unexpected_ends tokens j h) e.0)
unclosed_only tokens fault.Unclosed e h = refl
unclosed_only tokens fault.Memory e h = absurd h

-- There is one first fault at most.
pub one_fault : (tokens : List Token) (a b : ExprFault) → Refuses tokens a → Refuses tokens b → a ≡ b
one_fault tokens fault.Empty b e h = empty_only tokens b e h
one_fault tokens fault.TooLong b e h = long_only tokens b e h
one_fault tokens (fault.TooDeep i) b e h = deep_only tokens i b e h
one_fault tokens (fault.Unexpected i) b e h = unexpected_only tokens i b e h
one_fault tokens fault.Unclosed b e h = unclosed_only tokens b e h
one_fault tokens fault.Memory b e h = absurd e

-- What is accepted isn't refused.
pub not_both : (tokens : List Token) (tree : Tree) (f : ExprFault) → Accepts tokens tree → ¬ Refuses tokens f
not_both tokens tree fault.Empty e h = absurd (omega (arith, h, e.some.0))
not_both tokens tree fault.TooLong e h = absurd (omega (arith, h, e.some.1))
not_both tokens tree (fault.TooDeep i) e h = deep_ends tokens i h (accepted_faultless tokens tree (i + 1) e (omega (arith, h.1)))
not_both tokens tree (fault.Unexpected i) e h = unexpected_ends tokens i h (accepted_faultless tokens tree (i + 1) e (omega (arith, h.1)))
not_both tokens tree fault.Unclosed e h = h.1 tree e.reads
not_both tokens tree fault.Memory e h = absurd h

-- Tokens have one tree at most.
pub one_tree : (tokens : List Token) (a b : Tree) → Reads tokens a → Reads tokens b → a ≡ b
one_tree tokens a b e h =
    let same : e.0 ≡ h.0 = one_phrase e.0 h.0 (e.1 ∙ sym h.1) in
    sym e.2 ∙ (ap (λ (p : Phrase Kind.either). tree_of p) same ∙ h.2)
