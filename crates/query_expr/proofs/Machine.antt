-- The machine of `parse` over phrases in place of trees, and that it reads every phrase.
use Rattle.std.proofs.Common.{◌≡◌, ℕ, zero, suc, List, [], ◌∷◌, ◌++◌, Option, Some, None, refl, sym, ap, ◌∙◌, append_assoc}
use Rattle.query_grammar.specs.declared.token.Token.{Token}
use Rattle.query_grammar.specs.declared.token.Token.TheVariants as token
use Rattle.query_grammar.specs.Grammar.{Kind, Phrase, word, bang, brackets, one_fact, beside, one_both, bar, tokens_of}

-- what was read behind an open bracket, or behind the start
pub record Frame : Type 0 where
  pub alternatives : Option (Phrase Kind.either)
  pub facts : Option (Phrase Kind.both)
  pub bangs : ℕ

pub record State : Type 0 where
  pub top : Frame
  pub below : List Frame

abbrev pub blank : Frame
blank = record { alternatives = None; facts = None; bangs = 0 }

abbrev pub start : State
start = record { top = blank; below = [] }

abbrev pub banged : ℕ → Phrase Kind.fact → Phrase Kind.fact
banged zero f = f
banged (suc n) f = bang (banged n f)

abbrev pub both_of : Option (Phrase Kind.both) → Phrase Kind.fact → Phrase Kind.both
both_of None f = one_fact f
both_of (Some b) f = beside b f

abbrev pub either_of : Option (Phrase Kind.either) → Phrase Kind.both → Phrase Kind.either
either_of None b = one_both b
either_of (Some e) b = bar e b

abbrev pub put : Frame → Phrase Kind.fact → Frame
put o f = record { alternatives = o.alternatives; facts = Some (both_of o.facts (banged o.bangs f)); bangs = 0 }

abbrev pub whole_in : Option (Phrase Kind.either) → Option (Phrase Kind.both) → ℕ → Option (Phrase Kind.either)
whole_in alternatives None bangs = None
whole_in alternatives (Some b) zero = Some (either_of alternatives b)
whole_in alternatives (Some b) (suc n) = None

abbrev pub whole : Frame → Option (Phrase Kind.either)
whole o = whole_in o.alternatives o.facts o.bangs

abbrev pub after_bar : Option (Phrase Kind.either) → List Frame → Option State
after_bar None below = None
after_bar (Some e) below = Some (record { top = record { alternatives = Some e; facts = None; bangs = 0 }; below = below })

abbrev pub after_right : Option (Phrase Kind.either) → List Frame → Option State
after_right w [] = None
after_right None (outer ∷ below) = None
after_right (Some e) (outer ∷ below) = Some (record { top = put outer (brackets e); below = below })

abbrev pub next : State → Token → Option State
next s (token.Word w) = Some (record { top = put s.top (word w); below = s.below })
next s token.Bang = Some (record { top = record { alternatives = s.top.alternatives; facts = s.top.facts; bangs = suc s.top.bangs }; below = s.below })
next s token.Left = Some (record { top = blank; below = s.top ∷ s.below })
next s token.Bar = after_bar (whole s.top) s.below
next s token.Right = after_right (whole s.top) s.below

abbrev pub run : Option State → List Token → Option State
run None tokens = None
run (Some s) [] = Some s
run (Some s) (t ∷ tokens) = run (next s t) tokens

abbrev pub last : Option (Phrase Kind.either) → List Frame → Option (Phrase Kind.either)
last w [] = w
last w (outer ∷ below) = None

abbrev pub end : State → Option (Phrase Kind.either)
end s = last (whole s.top) s.below

-- The frame in which an expression stands, behind nothing.
abbrev pub frame_of : Phrase Kind.either → Frame
frame_of (one_both b) = record { alternatives = None; facts = Some b; bangs = 0 }
frame_of (bar e b) = record { alternatives = Some e; facts = Some b; bangs = 0 }

pub whole-frame_of : (e : Phrase Kind.either) → whole (frame_of e) ≡ Some e
whole-frame_of (one_both b) = refl
whole-frame_of (bar e b) = refl

banged-bang : (n : ℕ) (f : Phrase Kind.fact) → banged n (bang f) ≡ bang (banged n f)
banged-bang zero f = refl
banged-bang (suc n) f = ap bang (banged-bang n f)

-- The machine goes through a phrase, wherever one of its kind may stand, and has it then.
abbrev Passes : (kind : Kind) → Phrase kind → Type 0
Passes Kind.fact f =
    (s : State) (rest : List Token) → run (Some s) (tokens_of f ++ rest) ≡ run (Some (record { top = put s.top f; below = s.below })) rest
Passes Kind.both b =
    (alternatives : Option (Phrase Kind.either)) (below : List Frame) (rest : List Token)
    → run (Some (record { top = record { alternatives = alternatives; facts = None; bangs = 0 }; below = below })) (tokens_of b ++ rest)
    ≡ run (Some (record { top = record { alternatives = alternatives; facts = Some b; bangs = 0 }; below = below })) rest
Passes Kind.either e =
    (below : List Frame) (rest : List Token)
    → run (Some (record { top = blank; below = below })) (tokens_of e ++ rest) ≡ run (Some (record { top = frame_of e; below = below })) rest

pub passes : {kind : Kind} (p : Phrase kind) → Passes kind p
passes (word w) = λ s rest. refl
passes (bang f) = λ s rest.
    let deeper : State = record { top = record { alternatives = s.top.alternatives; facts = s.top.facts; bangs = suc s.top.bangs }; below = s.below } in
    passes f deeper rest
    ∙ ap (λ (g : Phrase Kind.fact). run (Some (record { top = record { alternatives = s.top.alternatives; facts = Some (both_of s.top.facts g); bangs = 0 }; below = s.below })) rest) (sym (banged-bang s.top.bangs f))
passes (brackets e) = λ s rest.
    ap (λ (ts : List Token). run (Some (record { top = blank; below = s.top ∷ s.below })) ts) (append_assoc (tokens_of e) (token.Right ∷ []) rest)
    ∙ (passes e (s.top ∷ s.below) (token.Right ∷ rest)
    ∙ ap (λ (w : Option (Phrase Kind.either)). run (after_right w (s.top ∷ s.below)) rest) (whole-frame_of e))
passes (one_fact f) = λ alternatives below rest.
    passes f (record { top = record { alternatives = alternatives; facts = None; bangs = 0 }; below = below }) rest
passes (beside b f) = λ alternatives below rest.
    ap (λ (ts : List Token). run (Some (record { top = record { alternatives = alternatives; facts = None; bangs = 0 }; below = below })) ts) (append_assoc (tokens_of b) (tokens_of f) rest)
    ∙ (passes b alternatives below (tokens_of f ++ rest)
    ∙ passes f (record { top = record { alternatives = alternatives; facts = Some b; bangs = 0 }; below = below }) rest)
passes (one_both b) = λ below rest. passes b None below rest
passes (bar e b) = λ below rest.
    ap (λ (ts : List Token). run (Some (record { top = blank; below = below })) ts) (append_assoc (tokens_of e) (token.Bar ∷ tokens_of b) rest)
    ∙ (passes e below (token.Bar ∷ (tokens_of b ++ rest))
    ∙ (ap (λ (w : Option (Phrase Kind.either)). run (after_bar w below) (tokens_of b ++ rest)) (whole-frame_of e)
    ∙ passes b (Some e) below rest))

-- An expression takes the machine from the start to its frame.
pub run_whole : (e : Phrase Kind.either) (rest : List Token) → run (Some start) (tokens_of e ++ rest) ≡ run (Some (record { top = frame_of e; below = [] })) rest
run_whole e rest = passes e [] rest
