-- The reader in the middle of the tokens.
use Rattle.std.proofs.Common.{◌≡◌, ◌≢◌, ℕ, zero, suc, ◌+◌, ◌<◌, ◌≤◌, List, [], ◌∷◌, ◌++◌, length, take, get_or, Some, None, Result, Ok, Err, IfOk, IfErr, refl, sym, ap, ◌∙◌, subst, arith, inl, inr, ◌⊎◌, length-append}
use Rattle.std.proofs.lemmas.Bool.{cases_lt}
use Rattle.std.proofs.lemmas.List.{take_more, take_all, take-append-le}
use Rattle.query_grammar.specs.declared.token.Token.{Token}
use Rattle.query_grammar.specs.declared.fault.ExprFault.{ExprFault}
use Rattle.query_grammar.specs.declared.fault.ExprFault.TheVariants as fault
use Rattle.query_grammar.specs.Tree.{Tree}
use Rattle.query_grammar.specs.Grammar.{CanGoOn}
use Rattle.query_grammar.specs.Depth.{HasDepth, IsWithinDepth}
use Rattle.query_grammar.specs.Faults.{AreSome, Accepts, IsFaultlessTo, Refuses}
use Rattle.query_expr.specs.Steps.{Reading, empty, step, finish, depth_of}
use Rattle.query_expr.specs.Readers.{StopsAt}
use Rattle.query_expr.proofs.Depths.{one_depth}
use Rattle.query_expr.proofs.Trees.{Stands, stands_start, stands_step, stands_stuck, stands_CanGoOn, stands_depth, stands_finish, stands_unfinished}

-- The reading has read these tokens, and nowhere were they too deep.
pub record Reached (r : Reading) (tokens : List Token) : Type 0 where
  pub stands : Stands r tokens
  pub shallow : IsWithinDepth 64 tokens

-- With a token more they are nowhere too deep, where they aren't at their end.
IsWithinDepth-more : (tokens : List Token) (t : Token) (d : ℕ) → IsWithinDepth 64 tokens → HasDepth (tokens ++ t ∷ []) d → d ≤ 64 → IsWithinDepth 64 (tokens ++ t ∷ [])
IsWithinDepth-more tokens t d shallow now fits place n h = go (cases_lt (length tokens) place)
  where
    go : (length tokens < place) ⊎ (place ≤ length tokens) → n ≤ 64
    go (inl far) =
        let all : take place (tokens ++ t ∷ []) ≡ tokens ++ t ∷ [] = take_all place (tokens ++ t ∷ []) (omega (arith, length-append tokens (t ∷ []))) in
        let same : n ≡ d = one_depth (tokens ++ t ∷ []) n d (subst (λ (ts : List Token). HasDepth ts n) all h) now in
        omega arith
    go (inr near) = shallow place n (subst (λ (ts : List Token). HasDepth ts n) (take-append-le place tokens (t ∷ []) near) h)

IsWithinDepth-nothing : IsWithinDepth 64 []
IsWithinDepth-nothing zero n h = omega arith
IsWithinDepth-nothing (suc place) n h = omega arith

pub reached_start : (r : Reading) → r ≡ record { top = empty; below = [] } → Reached r []
reached_start r e = subst (λ (x : Reading). Reached x []) (sym e) (record { stands = stands_start; shallow = IsWithinDepth-nothing })

-- one token more
front : (tokens : List Token) (place : ℕ) (t : Token) → place < length tokens → t ≡ get_or tokens place t → take (place + 1) tokens ≡ take place tokens ++ t ∷ []
front tokens place t lt e = take_more tokens place t lt ∙ ap (λ (x : Token). take place tokens ++ x ∷ []) (sym e)

pub reached_step : (tokens : List Token) (place : ℕ) (t : Token) (r new : Reading) → place < length tokens → t ≡ get_or tokens place t
    → Reached r (take place tokens) → step r t ≡ Some new → depth_of new ≤ 64 → Reached new (take (place + 1) tokens)
reached_step tokens place t r new lt e reached is fits =
    let stands : Stands new (take place tokens ++ t ∷ []) = stands_step r (take place tokens) t new reached.stands is in
    let depth : HasDepth (take place tokens ++ t ∷ []) (depth_of new) = stands_depth new (take place tokens ++ t ∷ []) stands in
    let made : Reached new (take place tokens ++ t ∷ []) = record { stands = stands; shallow = IsWithinDepth-more (take place tokens) t (depth_of new) reached.shallow depth fits } in
    subst (λ (ts : List Token). Reached new ts) (sym (front tokens place t lt e)) made

faultless : (tokens : List Token) (place : ℕ) (r : Reading) → AreSome tokens → Reached r (take place tokens) → IsFaultlessTo tokens place
faultless tokens place r some reached = record { some = some; goes_on = stands_CanGoOn r (take place tokens) reached.stands; shallow = reached.shallow }

-- where the reader stops
pub too_deep : (tokens : List Token) (place : ℕ) (t : Token) (r new : Reading) → AreSome tokens → place < length tokens → t ≡ get_or tokens place t
    → Reached r (take place tokens) → step r t ≡ Some new → depth_of new ≡ 65 → Refuses tokens (fault.TooDeep place)
too_deep tokens place t r new some lt e reached is deep =
    let stands : Stands new (take place tokens ++ t ∷ []) = stands_step r (take place tokens) t new reached.stands is in
    let depth : HasDepth (take place tokens ++ t ∷ []) 65 = subst (λ (n : ℕ). HasDepth (take place tokens ++ t ∷ []) n) deep (stands_depth new (take place tokens ++ t ∷ []) stands) in
    (faultless tokens place r some reached, lt, subst (λ (ts : List Token). HasDepth ts 65) (sym (front tokens place t lt e)) depth)

pub unexpected : (tokens : List Token) (place : ℕ) (t : Token) (r : Reading) → AreSome tokens → place < length tokens → t ≡ get_or tokens place t
    → Reached r (take place tokens) → step r t ≡ None → Refuses tokens (fault.Unexpected place)
unexpected tokens place t r some lt e reached is =
    let stuck : ¬ CanGoOn (take place tokens ++ t ∷ []) = stands_stuck r (take place tokens) t reached.stands is in
    (faultless tokens place r some reached, lt, λ go. stuck (subst (λ (ts : List Token). CanGoOn ts) (front tokens place t lt e) go))

pub stops : (tokens : List Token) (place : ℕ) (t : Token) (r : Reading) (f : ExprFault) → AreSome tokens → place < length tokens → t ≡ get_or tokens place t
    → Reached r (take place tokens) → StopsAt place r t f → f ≢ fault.Memory → Refuses tokens f
stops tokens place t r (fault.TooDeep i) some lt e reached h no_want =
    subst (λ (i : ℕ). Refuses tokens (fault.TooDeep i)) (sym h.0) (too_deep tokens place t r h.1.0 some lt e reached h.1.1 h.1.2)
stops tokens place t r (fault.Unexpected i) some lt e reached h no_want =
    subst (λ (i : ℕ). Refuses tokens (fault.Unexpected i)) (sym h.0) (unexpected tokens place t r some lt e reached h.1)
stops tokens place t r fault.Memory some lt e reached h no_want = absurd (no_want refl)
stops tokens place t r fault.Empty some lt e reached h no_want = absurd h
stops tokens place t r fault.TooLong some lt e reached h no_want = absurd h
stops tokens place t r fault.Unclosed some lt e reached h no_want = absurd h

-- where the tokens end
pub finished : (tokens : List Token) (place : ℕ) (r : Reading) (found : Result Tree ExprFault) → AreSome tokens → length tokens ≤ place → Reached r (take place tokens)
    → IfOk found (λ e. finish r ≡ Some e) → IfOk found (λ e. Accepts tokens e)
finished tokens place r (Ok e) some le reached is =
    let here : Reached r tokens = subst (λ (ts : List Token). Reached r ts) (take_all place tokens le) reached in
    record { some = some; shallow = here.shallow; reads = stands_finish r tokens e here.stands is }
finished tokens place r (Err f) some le reached is = tt

pub unfinished : (tokens : List Token) (place : ℕ) (r : Reading) (found : Result Tree ExprFault) → AreSome tokens → length tokens ≤ place → Reached r (take place tokens)
    → (found ≡ Err fault.Unclosed → finish r ≡ None) → IfErr found (λ f. (f ≡ fault.Unclosed) ⊎ (f ≡ fault.Memory)) → IfErr found (λ f. f ≢ fault.Memory → Refuses tokens f)
unfinished tokens place r (Ok e) some le reached none kinds = tt
unfinished tokens place r (Err f) some le reached none (inr memory) = λ no_want. absurd (no_want memory)
unfinished tokens place r (Err f) some le reached none (inl is) = λ no_want.
    let here : Reached r tokens = subst (λ (ts : List Token). Reached r ts) (take_all place tokens le) reached in
    let all : take (length tokens) tokens ≡ tokens = take_all (length tokens) tokens (omega arith) in
    let at_end : Reached r (take (length tokens) tokens) = subst (λ (ts : List Token). Reached r ts) (sym all) here in
    let refused : Refuses tokens fault.Unclosed =
    (faultless tokens (length tokens) r some at_end, λ e. stands_unfinished r tokens e here.stands (none (ap (λ (x : ExprFault). Err x) is))) in
    subst (λ (x : ExprFault). Refuses tokens x) (sym is) refused
