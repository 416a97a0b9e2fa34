-- Every list of tokens is accepted or refused.
use Rattle.std.proofs.Common.{◌≡◌, ◌≢◌, ℕ, zero, suc, ◌+◌, ◌<◌, ◌≤◌, List, [], ◌∷◌, ◌++◌, length, take, get_or, Option, Some, None, Result, Ok, Err, IfOk, IfErr, refl, sym, ap, subst, arith, inl, inr, ◌⊎◌, ◌↔◌}
use Rattle.std.proofs.lemmas.Bool.{cases_lt}
use Rattle.std.proofs.lemmas.List.{get_or_default, take-take}
use Rattle.std.proofs.lemmas.Option.{slice_get-get_or}
use Rattle.query_grammar.specs.declared.token.Token.{Token}
use Rattle.query_grammar.specs.declared.token.Token.TheVariants as token
use Rattle.query_grammar.specs.declared.fault.ExprFault.{ExprFault}
use Rattle.query_grammar.specs.declared.fault.ExprFault.TheVariants as fault
use Rattle.query_grammar.specs.Tree.{Tree}
use Rattle.query_grammar.specs.Grammar.{Reads, CanGoOn, tree_of}
use Rattle.query_grammar.specs.Depth.{HasDepth}
use Rattle.query_grammar.specs.Faults.{AreSome, Accepts, Refuses}
use Rattle.query_grammar.specs.Laws.{HasAnswer, IsUnexpected, HasOpener, IsUnlessMemory}
use Rattle.query_expr.specs.declared.open.Open.{Open}
use Rattle.query_expr.specs.Steps.{Reading, empty, with_fact, whole_of, at_bar, at_right, step, finish, depth_below, depth_of}
use Rattle.query_expr.proofs.Machine.{State}
use Rattle.query_expr.proofs.Texts.{text}
use Rattle.query_expr.proofs.Depths.{frames_depth, HasDepth-text}
use Rattle.query_expr.proofs.Trees.{stands_depth}
use Rattle.query_expr.proofs.Fronts.{Reached, reached_start, reached_step, too_deep, unexpected, finished, unfinished}
use Rattle.query_expr.proofs.Firsts.{state_of, one_tree, one_fault, not_both, faultless_before, deep_at_opener}

-- One token makes it deeper by one at most.
at_bar-depth : (w : Option Tree) (below : List Open) (new : Reading) → at_bar w below ≡ Some new → depth_of new ≤ depth_below below
at_bar-depth None below new h = cc
at_bar-depth (Some e) below new h =
    let made : Reading = record { top = record { alternatives = Some e; facts = None; bangs = 0 }; below = below } in
    let same : made ≡ new = cc in
    subst (λ (x : Reading). depth_of x ≤ depth_below below) same (omega arith)

at_right-depth : (w : Option Tree) (below : List Open) (new : Reading) → at_right w below ≡ Some new → depth_of new ≤ depth_below below
at_right-depth w [] new h = cc
at_right-depth None (outer ∷ below) new h = cc
at_right-depth (Some e) (outer ∷ below) new h =
    let made : Reading = record { top = with_fact outer e; below = below } in
    let same : made ≡ new = cc in
    subst (λ (x : Reading). depth_of x ≤ depth_below (outer ∷ below)) same (omega arith)

step-depth : (r : Reading) (t : Token) (new : Reading) → step r t ≡ Some new → depth_of new ≤ suc (depth_of r)
step-depth r (token.Word w) new h =
    let made : Reading = record { top = with_fact r.top (Tree.word w); below = r.below } in
    let same : made ≡ new = cc in
    subst (λ (x : Reading). depth_of x ≤ suc (depth_of r)) same (omega arith)
step-depth r token.Bang new h =
    let made : Reading = record { top = record { alternatives = r.top.alternatives; facts = r.top.facts; bangs = suc r.top.bangs }; below = r.below } in
    let same : made ≡ new = cc in
    subst (λ (x : Reading). depth_of x ≤ suc (depth_of r)) same (omega arith)
step-depth r token.Left new h =
    let made : Reading = record { top = empty; below = r.top ∷ r.below } in
    let same : made ≡ new = cc in
    subst (λ (x : Reading). depth_of x ≤ suc (depth_of r)) same (omega arith)
step-depth r token.Bar new h = let less : depth_of new ≤ depth_below r.below = at_bar-depth (whole_of r.top) r.below new h in omega arith
step-depth r token.Right new h = let less : depth_of new ≤ depth_below r.below = at_right-depth (whole_of r.top) r.below new h in omega arith

reached-depth : (tokens : List Token) (place : ℕ) (r : Reading) → Reached r (take place tokens) → depth_of r ≤ 64
reached-depth tokens place r h =
    let all : take place (take place tokens) ≡ take place tokens = take-take place place tokens (omega arith) in
    h.shallow place (depth_of r) (subst (λ (ts : List Token). HasDepth ts (depth_of r)) (sym all) (stands_depth r (take place tokens) h.stands))

at_end : (tokens : List Token) (place : ℕ) (r : Reading) → AreSome tokens → length tokens ≤ place → Reached r (take place tokens)
    → (o : Option Tree) → finish r ≡ o → HasAnswer tokens
at_end tokens place r some le reached (Some e) is = inl (e, finished tokens place r (Ok e) some le reached is)
at_end tokens place r some le reached None is =
    inr (fault.Unclosed, unfinished tokens place r (Err fault.Unclosed) some le reached (λ _. is) (inl refl) (λ e. cc))

from_place : (n place : ℕ) (tokens : List Token) (r : Reading) → place + n ≡ length tokens → AreSome tokens → Reached r (take place tokens) → HasAnswer tokens
from_place zero place tokens r e some reached = at_end tokens place r some (omega arith) reached (finish r) refl
from_place (suc n) place tokens r e some reached = go (step r t) refl (λ new h. from_place n (place + 1) tokens new (omega arith) some h)
  where
    t : Token
    t = get_or tokens place token.Bar

    lt : place < length tokens
    lt = omega arith

    here : get_or tokens place token.Bar ≡ get_or tokens place (get_or tokens place token.Bar)
    here = get_or_default tokens place token.Bar (get_or tokens place token.Bar) lt

    go : (o : Option Reading) → step r t ≡ o → ((new : Reading) → Reached new (take (place + 1) tokens) → HasAnswer tokens) → HasAnswer tokens
    go None is more = inr (fault.Unexpected place, unexpected tokens place t r some lt here reached is)
    go (Some new) is more = deep (cases_lt 64 (depth_of new))
      where
        deep : (64 < depth_of new) ⊎ (depth_of new ≤ 64) → HasAnswer tokens
        deep (inl above) =
            let step_up : depth_of new ≤ suc (depth_of r) = step-depth r t new is in
            let before : depth_of r ≤ 64 = reached-depth tokens place r reached in
            let exact : depth_of new ≡ 65 = omega arith in
            inr (fault.TooDeep place, too_deep tokens place t r new some lt here reached is exact)
        deep (inr fits) = more new (reached_step tokens place t r new lt here reached is fits)

pub answered : (tokens : List Token) → HasAnswer tokens
answered tokens = go (cases_lt 0 (length tokens)) (cases_lt 1024 (length tokens))
  where
    go : (0 < length tokens) ⊎ (length tokens ≤ 0) → (1024 < length tokens) ⊎ (length tokens ≤ 1024) → HasAnswer tokens
    go (inr none) other = let is : length tokens ≡ 0 = omega arith in inr (fault.Empty, is)
    go (inl some) (inl long) = inr (fault.TooLong, long)
    go (inl some) (inr fits) = from_place (length tokens) 0 tokens (record { top = empty; below = [] }) (omega arith) (some, fits) (reached_start (record { top = empty; below = [] }) refl)

-- What was found by the grammar is what the grammar says.
pub finds_tree : (tokens : List Token) (found : Result Tree ExprFault) → IfOk found (λ e. Accepts tokens e) → IfErr found (λ f. f ≢ fault.Memory → Refuses tokens f)
    → (tree : Tree) → Accepts tokens tree → IsUnlessMemory found (Ok tree)
finds_tree tokens (Ok e) ok err tree h = inl (ap (λ (x : Tree). Ok x) (one_tree tokens e tree ok.reads h.reads))
finds_tree tokens (Err fault.Memory) ok err tree h = inr refl
finds_tree tokens (Err fault.Empty) ok err tree h = absurd (not_both tokens tree fault.Empty h (err (λ e. cc)))
finds_tree tokens (Err fault.TooLong) ok err tree h = absurd (not_both tokens tree fault.TooLong h (err (λ e. cc)))
finds_tree tokens (Err (fault.TooDeep i)) ok err tree h = absurd (not_both tokens tree (fault.TooDeep i) h (err (λ e. cc)))
finds_tree tokens (Err (fault.Unexpected i)) ok err tree h = absurd (not_both tokens tree (fault.Unexpected i) h (err (λ e. cc)))
finds_tree tokens (Err fault.Unclosed) ok err tree h = absurd (not_both tokens tree fault.Unclosed h (err (λ e. cc)))

other_fault : (tokens : List Token) (f g : ExprFault) → Refuses tokens f → Refuses tokens g → IsUnlessMemory (Err f) (Err g)
other_fault tokens f g a b = inl (ap (λ (x : ExprFault). Err x) (one_fault tokens f g a b))

pub finds_fault : (tokens : List Token) (found : Result Tree ExprFault) → IfOk found (λ e. Accepts tokens e) → IfErr found (λ f. f ≢ fault.Memory → Refuses tokens f)
    → (f : ExprFault) → Refuses tokens f → IsUnlessMemory found (Err f)
finds_fault tokens (Ok e) ok err f h = absurd (not_both tokens e f ok h)
finds_fault tokens (Err fault.Memory) ok err f h = inr refl
finds_fault tokens (Err fault.Empty) ok err f h = other_fault tokens fault.Empty f (err (λ e. cc)) h
finds_fault tokens (Err fault.TooLong) ok err f h = other_fault tokens fault.TooLong f (err (λ e. cc)) h
finds_fault tokens (Err (fault.TooDeep i)) ok err f h = other_fault tokens (fault.TooDeep i) f (err (λ e. cc)) h
finds_fault tokens (Err (fault.Unexpected i)) ok err f h = other_fault tokens (fault.Unexpected i) f (err (λ e. cc)) h
finds_fault tokens (Err fault.Unclosed) ok err f h = other_fault tokens fault.Unclosed f (err (λ e. cc)) h

-- Unexpected stands at the first token with which nothing that follows makes an expression.
reads_more : (tokens : List Token) → CanGoOn tokens → (more : List Token) × (tree : Tree) × Reads (tokens ++ more) tree
reads_more tokens h = (h.1, tree_of h.0, (h.0, h.2, refl))

goes_on : (tokens more : List Token) (tree : Tree) → Reads (tokens ++ more) tree → CanGoOn tokens
goes_on tokens more tree h = (h.0, more, h.1)

pub unexpected_first : (tokens : List Token) (place : ℕ) → Refuses tokens (fault.Unexpected place) ↔ IsUnexpected tokens place
unexpected_first tokens place = (there, back)
  where
    there : Refuses tokens (fault.Unexpected place) → IsUnexpected tokens place
    there h = (
      h.0.some,
      h.0.shallow,
      record {
        within = h.1;
        none = λ more tree reads. h.2 (goes_on (take (place + 1) tokens) more tree reads);
        earlier = λ n le. reads_more (take n tokens) (faultless_before tokens n place le h.0).goes_on;
      },
    )

    back : IsUnexpected tokens place → Refuses tokens (fault.Unexpected place)
    back h =
        let at : (more : List Token) × (tree : Tree) × Reads (take place tokens ++ more) tree = h.2.earlier place (omega arith) in (
          record { some = h.0; goes_on = goes_on (take place tokens) at.0 at.1 at.2; shallow = h.1 },
          h.2.within,
          λ go. let next : (more : List Token) × (tree : Tree) × Reads (take (place + 1) tokens ++ more) tree = reads_more (take (place + 1) tokens) go in h.2.none next.0 next.1 next.2,
        )

pub deep_at : (tokens : List Token) (place : ℕ) → Refuses tokens (fault.TooDeep place) → HasOpener tokens place
deep_at tokens place h = (get_or tokens place token.Bar, slice_get-get_or tokens place token.Bar h.1, deep_at_opener tokens place h)

pub some_depth : (tokens : List Token) → CanGoOn tokens → (n : ℕ) × HasDepth tokens n
some_depth tokens h =
    let found : (s : State) × (text s ≡ tokens) = state_of tokens h in
    (found.0.top.bangs + frames_depth found.0.below, subst (λ (ts : List Token). HasDepth ts (found.0.top.bangs + frames_depth found.0.below)) found.1 (HasDepth-text found.0))
