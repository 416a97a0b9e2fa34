-- The tokens that a state of the machine has read.
use Rattle.std.proofs.Common.{◌≡◌, ℕ, zero, suc, ◌+◌, List, [], ◌∷◌, ◌++◌, Option, Some, None, refl, sym, ap, ◌∙◌, append_assoc, arith}
use Rattle.std.proofs.lemmas.List.{append-nil}
use Rattle.query_grammar.specs.declared.token.Token.{Token}
use Rattle.query_grammar.specs.declared.token.Token.TheVariants as token
use Rattle.query_grammar.specs.Grammar.{Kind, Phrase, word, brackets, tokens_of}
use Rattle.query_expr.proofs.Machine.{Frame, State, blank, start, banged, both_of, either_of, put, whole_in, whole, after_bar, after_right, next, run, passes, whole-frame_of}

abbrev pub alternatives_text : Option (Phrase Kind.either) → List Token
alternatives_text None = []
alternatives_text (Some e) = tokens_of e ++ token.Bar ∷ []

abbrev pub facts_text : Option (Phrase Kind.both) → List Token
facts_text None = []
facts_text (Some b) = tokens_of b

abbrev pub bangs_text : ℕ → List Token
bangs_text zero = []
bangs_text (suc n) = token.Bang ∷ bangs_text n

abbrev pub frame_text : Frame → List Token
frame_text o = alternatives_text o.alternatives ++ (facts_text o.facts ++ bangs_text o.bangs)

abbrev pub below_text : List Frame → List Token
below_text [] = []
below_text (o ∷ below) = below_text below ++ (frame_text o ++ token.Left ∷ [])

abbrev pub text : State → List Token
text s = below_text s.below ++ frame_text s.top

-- What is put behind the bangs stands behind them.
tokens_of-banged : (n : ℕ) (f : Phrase Kind.fact) → tokens_of (banged n f) ≡ bangs_text n ++ tokens_of f
tokens_of-banged zero f = refl
tokens_of-banged (suc n) f = ap (λ (ts : List Token). token.Bang ∷ ts) (tokens_of-banged n f)

tokens_of-both_of : (facts : Option (Phrase Kind.both)) (f : Phrase Kind.fact) → tokens_of (both_of facts f) ≡ facts_text facts ++ tokens_of f
tokens_of-both_of None f = refl
tokens_of-both_of (Some b) f = refl

pub tokens_of-either_of : (alternatives : Option (Phrase Kind.either)) (b : Phrase Kind.both) → tokens_of (either_of alternatives b) ≡ alternatives_text alternatives ++ tokens_of b
tokens_of-either_of None b = refl
tokens_of-either_of (Some e) b = sym (append_assoc (tokens_of e) (token.Bar ∷ []) (tokens_of b))

pub tokens_of-put : (o : Frame) (f : Phrase Kind.fact) → tokens_of (both_of o.facts (banged o.bangs f)) ≡ (facts_text o.facts ++ bangs_text o.bangs) ++ tokens_of f
tokens_of-put o f =
    tokens_of-both_of o.facts (banged o.bangs f)
    ∙ (ap (λ (ts : List Token). facts_text o.facts ++ ts) (tokens_of-banged o.bangs f)
    ∙ sym (append_assoc (facts_text o.facts) (bangs_text o.bangs) (tokens_of f)))

pub frame_text-put : (o : Frame) (f : Phrase Kind.fact) → frame_text (put o f) ≡ frame_text o ++ tokens_of f
frame_text-put o f =
    ap (λ (ts : List Token). alternatives_text o.alternatives ++ ts) (append-nil (tokens_of (both_of o.facts (banged o.bangs f))) ∙ tokens_of-put o f)
    ∙ sym (append_assoc (alternatives_text o.alternatives) (facts_text o.facts ++ bangs_text o.bangs) (tokens_of f))

-- The tokens of a whole frame are those of its expression.
whole_in-text : (alternatives : Option (Phrase Kind.either)) (facts : Option (Phrase Kind.both)) (n : ℕ) (e : Phrase Kind.either)
    → whole_in alternatives facts n ≡ Some e → tokens_of e ≡ alternatives_text alternatives ++ (facts_text facts ++ bangs_text n)
whole_in-text alternatives None n e h = cc
whole_in-text alternatives (Some b) zero e h =
    let same : either_of alternatives b ≡ e = cc in
    ap (λ (x : Phrase Kind.either). tokens_of x) (sym same)
    ∙ (tokens_of-either_of alternatives b
    ∙ ap (λ (ts : List Token). alternatives_text alternatives ++ ts) (sym (append-nil (tokens_of b))))
whole_in-text alternatives (Some b) (suc n) e h = cc

pub whole-text : (o : Frame) (e : Phrase Kind.either) → whole o ≡ Some e → tokens_of e ≡ frame_text o
whole-text o e h = whole_in-text o.alternatives o.facts o.bangs e h

-- One step reads one token.
bangs_text-more : (n : ℕ) → token.Bang ∷ bangs_text n ≡ bangs_text n ++ token.Bang ∷ []
bangs_text-more zero = refl
bangs_text-more (suc n) = ap (λ (ts : List Token). token.Bang ∷ ts) (bangs_text-more n)

frame_text-bang : (a : Option (Phrase Kind.either)) (f : Option (Phrase Kind.both)) (n : ℕ)
    → alternatives_text a ++ (facts_text f ++ bangs_text (suc n)) ≡ (alternatives_text a ++ (facts_text f ++ bangs_text n)) ++ token.Bang ∷ []
frame_text-bang a f n =
    ap (λ (ts : List Token). alternatives_text a ++ ts)
    (ap (λ (ts : List Token). facts_text f ++ ts) (bangs_text-more n) ∙ sym (append_assoc (facts_text f) (bangs_text n) (token.Bang ∷ [])))
    ∙ sym (append_assoc (alternatives_text a) (facts_text f ++ bangs_text n) (token.Bang ∷ []))

read_at_bar : (o : Frame) (below : List Frame) (new : State) (w : Option (Phrase Kind.either)) → whole o ≡ w → after_bar w below ≡ Some new
    → text new ≡ (below_text below ++ frame_text o) ++ token.Bar ∷ []
read_at_bar o below new None e h = cc
read_at_bar o below new (Some p) e h =
    let made : State = record { top = record { alternatives = Some p; facts = None; bangs = 0 }; below = below } in
    let same : made ≡ new = cc in
    ap (λ (s : State). text s) (sym same)
    ∙ (ap (λ (ts : List Token). below_text below ++ ts) (append-nil (tokens_of p ++ token.Bar ∷ []) ∙ ap (λ (ts : List Token). ts ++ token.Bar ∷ []) (whole-text o p e))
    ∙ sym (append_assoc (below_text below) (frame_text o) (token.Bar ∷ [])))

in_brackets : (below : List Token) (outer inner : List Token)
    → below ++ (outer ++ (token.Left ∷ (inner ++ token.Right ∷ []))) ≡ ((below ++ (outer ++ token.Left ∷ [])) ++ inner) ++ token.Right ∷ []
in_brackets below outer inner = sym (simp append_assoc)

read_at_right : (o : Frame) (below : List Frame) (new : State) (w : Option (Phrase Kind.either)) → whole o ≡ w → after_right w below ≡ Some new
    → text new ≡ (below_text below ++ frame_text o) ++ token.Right ∷ []
read_at_right o [] new w e h = cc
read_at_right o (outer ∷ below) new None e h = cc
read_at_right o (outer ∷ below) new (Some p) e h =
    let made : State = record { top = put outer (brackets p); below = below } in
    let same : made ≡ new = cc in
    ap (λ (s : State). text s) (sym same)
    ∙ (ap (λ (ts : List Token). below_text below ++ ts)
    (frame_text-put outer (brackets p) ∙ ap (λ (ts : List Token). frame_text outer ++ (token.Left ∷ (ts ++ token.Right ∷ []))) (whole-text o p e))
    ∙ in_brackets (below_text below) (frame_text outer) (frame_text o))

pub text-next : (s : State) (t : Token) (new : State) → next s t ≡ Some new → text new ≡ text s ++ t ∷ []
text-next s (token.Word w) new h =
    let made : State = record { top = put s.top (word w); below = s.below } in
    let same : made ≡ new = cc in
    ap (λ (x : State). text x) (sym same)
    ∙ (ap (λ (ts : List Token). below_text s.below ++ ts) (frame_text-put s.top (word w)) ∙ sym (append_assoc (below_text s.below) (frame_text s.top) (token.Word w ∷ [])))
text-next s token.Bang new h =
    let made : State = record { top = record { alternatives = s.top.alternatives; facts = s.top.facts; bangs = suc s.top.bangs }; below = s.below } in
    let same : made ≡ new = cc in
    ap (λ (x : State). text x) (sym same)
    ∙ (ap (λ (ts : List Token). below_text s.below ++ ts) (frame_text-bang s.top.alternatives s.top.facts s.top.bangs) ∙ sym (append_assoc (below_text s.below) (frame_text s.top) (token.Bang ∷ [])))
text-next s token.Left new h =
    let made : State = record { top = blank; below = s.top ∷ s.below } in
    let same : made ≡ new = cc in
    ap (λ (x : State). text x) (sym same)
    ∙ (append-nil (below_text s.below ++ (frame_text s.top ++ token.Left ∷ [])) ∙ sym (append_assoc (below_text s.below) (frame_text s.top) (token.Left ∷ [])))
text-next s token.Bar new h = read_at_bar s.top s.below new (whole s.top) refl h
text-next s token.Right new h = read_at_right s.top s.below new (whole s.top) refl h

-- The tokens of a state take the machine from the start to it.
run_bangs : (a : Option (Phrase Kind.either)) (f : Option (Phrase Kind.both)) (below : List Frame) (rest : List Token) (n k : ℕ)
    → run (Some (record { top = record { alternatives = a; facts = f; bangs = k }; below = below })) (bangs_text n ++ rest)
    ≡ run (Some (record { top = record { alternatives = a; facts = f; bangs = k + n }; below = below })) rest
run_bangs a f below rest zero k =
    let same : k ≡ k + 0 = omega arith in
    ap (λ (m : ℕ). run (Some (record { top = record { alternatives = a; facts = f; bangs = m }; below = below })) rest) same
run_bangs a f below rest (suc n) k =
    let same : suc k + n ≡ k + suc n = omega arith in
    run_bangs a f below rest n (suc k)
    ∙ ap (λ (m : ℕ). run (Some (record { top = record { alternatives = a; facts = f; bangs = m }; below = below })) rest) same

run_facts : (a : Option (Phrase Kind.either)) (f : Option (Phrase Kind.both)) (below : List Frame) (rest : List Token)
    → run (Some (record { top = record { alternatives = a; facts = None; bangs = 0 }; below = below })) (facts_text f ++ rest)
    ≡ run (Some (record { top = record { alternatives = a; facts = f; bangs = 0 }; below = below })) rest
run_facts a None below rest = refl
run_facts a (Some b) below rest = passes b a below rest

run_alternatives : (a : Option (Phrase Kind.either)) (below : List Frame) (rest : List Token)
    → run (Some (record { top = blank; below = below })) (alternatives_text a ++ rest)
    ≡ run (Some (record { top = record { alternatives = a; facts = None; bangs = 0 }; below = below })) rest
run_alternatives None below rest = refl
run_alternatives (Some e) below rest =
    ap (λ (ts : List Token). run (Some (record { top = blank; below = below })) ts) (append_assoc (tokens_of e) (token.Bar ∷ []) rest)
    ∙ (passes e below (token.Bar ∷ rest)
    ∙ ap (λ (w : Option (Phrase Kind.either)). run (after_bar w below) rest) (whole-frame_of e))

run_frame : (o : Frame) (below : List Frame) (rest : List Token)
    → run (Some (record { top = blank; below = below })) (frame_text o ++ rest) ≡ run (Some (record { top = o; below = below })) rest
run_frame o below rest =
    ap (λ (ts : List Token). run (Some (record { top = blank; below = below })) ts)
    (append_assoc (alternatives_text o.alternatives) (facts_text o.facts ++ bangs_text o.bangs) rest
    ∙ ap (λ (ts : List Token). alternatives_text o.alternatives ++ ts) (append_assoc (facts_text o.facts) (bangs_text o.bangs) rest))
    ∙ (run_alternatives o.alternatives below (facts_text o.facts ++ (bangs_text o.bangs ++ rest))
    ∙ (run_facts o.alternatives o.facts below (bangs_text o.bangs ++ rest)
    ∙ (run_bangs o.alternatives o.facts below rest o.bangs 0
    ∙ ap (λ (m : ℕ). run (Some (record { top = record { alternatives = o.alternatives; facts = o.facts; bangs = m }; below = below })) rest) (let same : 0 + o.bangs ≡ o.bangs = omega arith in same))))

run_to : (below : List Frame) (o : Frame) (rest : List Token)
    → run (Some start) ((below_text below ++ frame_text o) ++ rest) ≡ run (Some (record { top = o; below = below })) rest
run_to [] o rest = run_frame o [] rest
run_to (outer ∷ below) o rest =
    let regrouped : ((below_text below ++ (frame_text outer ++ token.Left ∷ [])) ++ frame_text o) ++ rest ≡ (below_text below ++ frame_text outer) ++ (token.Left ∷ (frame_text o ++ rest)) = simp append_assoc in
    ap (λ (ts : List Token). run (Some start) ts) regrouped
    ∙ (run_to below outer (token.Left ∷ (frame_text o ++ rest))
    ∙ run_frame o (outer ∷ below) rest)

pub run_text : (s : State) (rest : List Token) → run (Some start) (text s ++ rest) ≡ run (Some s) rest
run_text s rest = run_to s.below s.top rest
