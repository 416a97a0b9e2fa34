-- Which tokens go on to an expression, and which are one.
use Rattle.std.proofs.Common.{◌≡◌, List, [], ◌∷◌, ◌++◌, Option, Some, None, refl, sym, ap, ◌∙◌, append_assoc, codes}
use Rattle.std.proofs.lemmas.List.{append-nil}
use Rattle.query_grammar.specs.declared.token.Token.{Token}
use Rattle.query_grammar.specs.declared.token.Token.TheVariants as token
use Rattle.query_grammar.specs.Grammar.{Kind, Phrase, word, brackets, tokens_of, CanGoOn}
use Rattle.query_expr.proofs.Machine.{Frame, State, start, banged, both_of, either_of, whole, next, run, last, end, frame_of, whole-frame_of, run_whole}
use Rattle.query_expr.proofs.Texts.{alternatives_text, facts_text, bangs_text, frame_text, below_text, text, tokens_of-either_of, tokens_of-put, whole-text, run_text}

-- What completes a state: a fact, and a bracket for each that is open.
abbrev pub completed : Frame → List Frame → Phrase Kind.fact → Phrase Kind.either
completed o [] f = either_of o.alternatives (both_of o.facts (banged o.bangs f))
completed o (outer ∷ below) f = completed outer below (brackets (either_of o.alternatives (both_of o.facts (banged o.bangs f))))

abbrev pub rights : List Frame → List Token
rights [] = []
rights (outer ∷ below) = token.Right ∷ rights below

tokens_of-filled : (o : Frame) (f : Phrase Kind.fact) → tokens_of (either_of o.alternatives (both_of o.facts (banged o.bangs f))) ≡ frame_text o ++ tokens_of f
tokens_of-filled o f =
    tokens_of-either_of o.alternatives (both_of o.facts (banged o.bangs f))
    ∙ (ap (λ (ts : List Token). alternatives_text o.alternatives ++ ts) (tokens_of-put o f)
    ∙ sym (append_assoc (alternatives_text o.alternatives) (facts_text o.facts ++ bangs_text o.bangs) (tokens_of f)))

filled_brackets : (below outer inner fact rest : List Token)
    → (below ++ outer) ++ ((token.Left ∷ ((inner ++ fact) ++ token.Right ∷ [])) ++ rest) ≡ ((below ++ (outer ++ token.Left ∷ [])) ++ inner) ++ (fact ++ token.Right ∷ rest)
filled_brackets below outer inner fact rest = simp append_assoc

pub tokens_of-completed : (below : List Frame) (o : Frame) (f : Phrase Kind.fact)
    → tokens_of (completed o below f) ≡ (below_text below ++ frame_text o) ++ (tokens_of f ++ rights below)
tokens_of-completed [] o f = tokens_of-filled o f ∙ ap (λ (ts : List Token). frame_text o ++ ts) (sym (append-nil (tokens_of f)))
tokens_of-completed (outer ∷ below) o f =
    tokens_of-completed below outer (brackets (either_of o.alternatives (both_of o.facts (banged o.bangs f))))
    ∙ (ap (λ (ts : List Token). (below_text below ++ frame_text outer) ++ ((token.Left ∷ (ts ++ token.Right ∷ [])) ++ rights below)) (tokens_of-filled o f)
    ∙ filled_brackets (below_text below) (frame_text outer) (frame_text o) (tokens_of f) (rights below))

-- An expression can go on from every state.
pub CanGoOn-text : (s : State) → CanGoOn (text s)
CanGoOn-text s =
    let f : Phrase Kind.fact = word (codes "a") in
    (completed s.top s.below f, tokens_of f ++ rights s.below, tokens_of-completed s.below s.top f)

-- Where an expression goes on, so does the machine.
stuck : (s : State) (t : Token) (p : Phrase Kind.either) (more : List Token) (new : Option State) → next s t ≡ new → new ≡ None
    → tokens_of p ≡ (text s ++ t ∷ []) ++ more → ⊥
stuck s t p more new e none h =
    let there : run (Some start) (tokens_of p ++ []) ≡ Some (record { top = frame_of p; below = [] }) = run_whole p [] in
    let here : run (Some start) (text s ++ (t ∷ more)) ≡ run (next s t) more = run_text s (t ∷ more) in
    let nowhere : run (next s t) more ≡ None = ap (λ (o : Option State). run o more) (e ∙ none) in
    let same : tokens_of p ++ [] ≡ text s ++ (t ∷ more) = append-nil (tokens_of p) ∙ (h ∙ append_assoc (text s) (t ∷ []) more) in
    let both : run (Some start) (tokens_of p ++ []) ≡ run (Some start) (text s ++ (t ∷ more)) = ap (λ (ts : List Token). run (Some start) ts) same in
    let there_state : State = record { top = frame_of p; below = [] } in
    let nothing : Option State = None in
    let clash : Some there_state ≡ nothing = sym there ∙ (both ∙ (here ∙ nowhere)) in
    cc

pub stuck_CanGoOn : (s : State) (t : Token) → next s t ≡ None → ¬ CanGoOn (text s ++ t ∷ [])
stuck_CanGoOn s t none h = stuck s t h.0 h.1 (next s t) refl none h.2

-- The tokens of a state are an expression exactly where it ends with it.
last-text : (o : Frame) (below : List Frame) (p : Phrase Kind.either) → last (whole o) below ≡ Some p → tokens_of p ≡ below_text below ++ frame_text o
last-text o [] p h = whole-text o p h
last-text o (outer ∷ below) p h = cc

pub end-text : (s : State) (p : Phrase Kind.either) → end s ≡ Some p → tokens_of p ≡ text s
end-text s p h = last-text s.top s.below p h

pub end-whole : (s : State) (p : Phrase Kind.either) → tokens_of p ≡ text s → end s ≡ Some p
end-whole s p h =
    let there : run (Some start) (tokens_of p ++ []) ≡ Some (record { top = frame_of p; below = [] }) = run_whole p [] in
    let here : run (Some start) (text s ++ []) ≡ Some s = run_text s [] in
    let both : run (Some start) (tokens_of p ++ []) ≡ run (Some start) (text s ++ []) = ap (λ (ts : List Token). run (Some start) (ts ++ [])) h in
    let equal : Some s ≡ Some (record { top = frame_of p; below = [] }) = sym here ∙ (sym both ∙ there) in
    let same : s ≡ record { top = frame_of p; below = [] } = cc in
    ap (λ (x : State). end x) same ∙ whole-frame_of p

-- Phrases with one text are one.
pub one_phrase : (p q : Phrase Kind.either) → tokens_of p ≡ tokens_of q → p ≡ q
one_phrase p q h =
    let at_p : run (Some start) (tokens_of p ++ []) ≡ Some (record { top = frame_of p; below = [] }) = run_whole p [] in
    let at_q : run (Some start) (tokens_of q ++ []) ≡ Some (record { top = frame_of q; below = [] }) = run_whole q [] in
    let both : run (Some start) (tokens_of p ++ []) ≡ run (Some start) (tokens_of q ++ []) = ap (λ (ts : List Token). run (Some start) (ts ++ [])) h in
    let there : State = record { top = frame_of p; below = [] } in
    let here : State = record { top = frame_of q; below = [] } in
    let equal : Some there ≡ Some here = sym at_p ∙ (both ∙ at_q) in
    let same : there ≡ here = cc in
    let wholes : Some p ≡ Some q = sym (whole-frame_of p) ∙ (ap (λ (s : State). whole s.top) same ∙ whole-frame_of q) in
    cc
