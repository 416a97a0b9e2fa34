-- How deep the tokens of a state are.
use Rattle.std.proofs.Common.{◌≡◌, ℕ, zero, suc, ◌+◌, List, [], ◌∷◌, ◌++◌, Option, Some, None, refl, sym, ap, ◌∙◌, subst, append_assoc, arith, inl, inr}
use Rattle.std.proofs.lemmas.List.{append-nil}
use Rattle.query_grammar.specs.declared.token.Token.{Token}
use Rattle.query_grammar.specs.declared.token.Token.TheVariants as token
use Rattle.query_grammar.specs.Grammar.{Kind, Phrase, word, bang, brackets, one_fact, beside, one_both, bar, tokens_of}
use Rattle.query_grammar.specs.Depth.{IsOpener, HasNoFact, HasDepth}
use Rattle.query_expr.proofs.Machine.{Frame, State, start, run, run_whole}
use Rattle.query_expr.proofs.Texts.{alternatives_text, facts_text, bangs_text, frame_text, below_text, text, run_text}

-- Of some tokens there is one depth.
pub one_depth : (tokens : List Token) (m n : ℕ) → HasDepth tokens m → HasDepth tokens n → m ≡ n
one_depth [] m n a b = a ∙ sym b
one_depth (t ∷ tokens) m n (inl a) (inl b) = a.1.1 ∙ (ap suc (one_depth tokens a.1.0 b.1.0 a.1.2 b.1.2) ∙ sym b.1.1)
one_depth (t ∷ tokens) m n (inl a) (inr b) = absurd (b.0 a.0)
one_depth (t ∷ tokens) m n (inr a) (inl b) = absurd (a.0 b.0)
one_depth (t ∷ tokens) m n (inr a) (inr b) = one_depth tokens m n a.1 b.1

-- Nothing in a phrase is open.
pub word_opens : (w : _) → ¬ IsOpener (token.Word w)
word_opens w (inl e) = cc
word_opens w (inr e) = cc

pub right_opens : ¬ IsOpener token.Right
right_opens (inl e) = cc
right_opens (inr e) = cc

pub bar_opens : ¬ IsOpener token.Bar
bar_opens (inl e) = cc
bar_opens (inr e) = cc

pub HasDepth-phrase : {kind : Kind} (p : Phrase kind) (rest : List Token) (n : ℕ) → HasDepth rest n → HasDepth (tokens_of p ++ rest) n
HasDepth-phrase (word w) rest n h = inr (λ is. word_opens w is.0, h)
HasDepth-phrase (bang f) rest n h = inr (λ is. is.1 (bang f) rest refl, HasDepth-phrase f rest n h)
HasDepth-phrase (brackets e) rest n h =
    inr (
      λ is. is.1 (brackets e) rest refl,
      subst (λ (ts : List Token). HasDepth ts n) (sym (append_assoc (tokens_of e) (token.Right ∷ []) rest))
          (HasDepth-phrase e (token.Right ∷ rest) n (inr (λ is. right_opens is.0, h))),
    )
HasDepth-phrase (one_fact f) rest n h = HasDepth-phrase f rest n h
HasDepth-phrase (beside b f) rest n h =
    subst (λ (ts : List Token). HasDepth ts n) (sym (append_assoc (tokens_of b) (tokens_of f) rest))
    (HasDepth-phrase b (tokens_of f ++ rest) n (HasDepth-phrase f rest n h))
HasDepth-phrase (one_both b) rest n h = HasDepth-phrase b rest n h
HasDepth-phrase (bar e b) rest n h =
    subst (λ (ts : List Token). HasDepth ts n) (sym (append_assoc (tokens_of e) (token.Bar ∷ tokens_of b) rest))
    (HasDepth-phrase e (token.Bar ∷ (tokens_of b ++ rest)) n (inr (λ is. bar_opens is.0, HasDepth-phrase b rest n h)))

-- No fact begins with nothing, none is whole behind a bang and no whole fact, and none at a bracket behind which no bracket
-- is left over.
pub no_fact_in_nothing : HasNoFact []
no_fact_in_nothing (word w) more h = cc
no_fact_in_nothing (bang f) more h = cc
no_fact_in_nothing (brackets e) more h = cc

pub no_fact_at_bang : (tokens : List Token) → HasNoFact tokens → HasNoFact (token.Bang ∷ tokens)
no_fact_at_bang tokens none (word w) more h = cc
no_fact_at_bang tokens none (bang f) more h = let e : tokens_of f ++ more ≡ tokens = cc in none f more e
no_fact_at_bang tokens none (brackets p) more h = cc

unclosed : (s : State) (e : Phrase Kind.either) (more : List Token) → tokens_of e ++ (token.Right ∷ more) ≡ text s → ⊥
unclosed s e more h =
    let nothing : Option State = None in
    let there : run (Some start) (tokens_of e ++ (token.Right ∷ more)) ≡ nothing = run_whole e (token.Right ∷ more) in
    let here : run (Some start) (text s ++ []) ≡ Some s = run_text s [] in
    let both : run (Some start) (tokens_of e ++ (token.Right ∷ more)) ≡ run (Some start) (text s ++ []) = ap (λ (ts : List Token). run (Some start) ts) (h ∙ sym (append-nil (text s))) in
    let clash : nothing ≡ Some s = sym there ∙ (both ∙ here) in
    cc

pub no_fact_at_left : (s : State) → HasNoFact (token.Left ∷ text s)
no_fact_at_left s (word w) more h = cc
no_fact_at_left s (bang f) more h = cc
no_fact_at_left s (brackets e) more h =
    let rest : (tokens_of e ++ token.Right ∷ []) ++ more ≡ text s = cc in
    unclosed s e more (sym (append_assoc (tokens_of e) (token.Right ∷ []) more) ∙ rest)

-- The bangs of a frame are open, where no whole fact stands behind them.
HasDepth-bangs : (k : ℕ) (rest : List Token) (n : ℕ) → HasNoFact rest → HasDepth rest n → HasNoFact (bangs_text k ++ rest) × HasDepth (bangs_text k ++ rest) (k + n)
HasDepth-bangs zero rest n none h = let same : n ≡ 0 + n = omega arith in (none, subst (λ (m : ℕ). HasDepth rest m) same h)
HasDepth-bangs (suc k) rest n none h =
    let inner : HasNoFact (bangs_text k ++ rest) × HasDepth (bangs_text k ++ rest) (k + n) = HasDepth-bangs k rest n none h in
    let none_here : HasNoFact (token.Bang ∷ (bangs_text k ++ rest)) = no_fact_at_bang (bangs_text k ++ rest) inner.0 in
    let same : suc k + n ≡ suc (k + n) = omega arith in
    (none_here, inl ((inr refl, none_here), (k + n, same, inner.1)))

HasDepth-facts : (f : Option (Phrase Kind.both)) (rest : List Token) (n : ℕ) → HasDepth rest n → HasDepth (facts_text f ++ rest) n
HasDepth-facts None rest n h = h
HasDepth-facts (Some b) rest n h = HasDepth-phrase b rest n h

HasDepth-alternatives : (a : Option (Phrase Kind.either)) (rest : List Token) (n : ℕ) → HasDepth rest n → HasDepth (alternatives_text a ++ rest) n
HasDepth-alternatives None rest n h = h
HasDepth-alternatives (Some e) rest n h =
    subst (λ (ts : List Token). HasDepth ts n) (sym (append_assoc (tokens_of e) (token.Bar ∷ []) rest))
    (HasDepth-phrase e (token.Bar ∷ rest) n (inr (λ is. bar_opens is.0, h)))

HasDepth-frame : (o : Frame) (rest : List Token) (n : ℕ) → HasNoFact rest → HasDepth rest n → HasDepth (frame_text o ++ rest) (o.bangs + n)
HasDepth-frame o rest n none h =
    let regrouped : frame_text o ++ rest ≡ alternatives_text o.alternatives ++ (facts_text o.facts ++ (bangs_text o.bangs ++ rest)) = simp append_assoc in
    subst (λ (ts : List Token). HasDepth ts (o.bangs + n)) (sym regrouped)
    (HasDepth-alternatives o.alternatives (facts_text o.facts ++ (bangs_text o.bangs ++ rest)) (o.bangs + n)
    (HasDepth-facts o.facts (bangs_text o.bangs ++ rest) (o.bangs + n)
    (HasDepth-bangs o.bangs rest n none h).1))

-- A state below another one.
abbrev under : List Frame → Frame → List Frame
under [] o = o ∷ []
under (p ∷ below) o = p ∷ under below o

below_text-under : (below : List Frame) (o : Frame) → below_text (under below o) ≡ (frame_text o ++ token.Left ∷ []) ++ below_text below
below_text-under [] o = sym (append-nil (frame_text o ++ token.Left ∷ []))
below_text-under (p ∷ below) o =
    ap (λ (ts : List Token). ts ++ (frame_text p ++ token.Left ∷ [])) (below_text-under below o)
    ∙ append_assoc (frame_text o ++ token.Left ∷ []) (below_text below) (frame_text p ++ token.Left ∷ [])

text-under : (s : State) (o : Frame) → text (record { top = s.top; below = under s.below o }) ≡ frame_text o ++ (token.Left ∷ text s)
text-under s o =
    ap (λ (ts : List Token). ts ++ frame_text s.top) (below_text-under s.below o)
    ∙ (let regrouped : ((frame_text o ++ token.Left ∷ []) ++ below_text s.below) ++ frame_text s.top ≡ frame_text o ++ (token.Left ∷ (below_text s.below ++ frame_text s.top)) = simp append_assoc in regrouped)

abbrev pub frames_depth : List Frame → ℕ
frames_depth [] = 0
frames_depth (o ∷ below) = suc (o.bangs + frames_depth below)

HasDepth-below : (below : List Frame) (s : State) (n : ℕ) → HasDepth (text s) n → HasDepth (below_text below ++ text s) (frames_depth below + n)
HasDepth-below [] s n h = let same : n ≡ 0 + n = omega arith in subst (λ (m : ℕ). HasDepth (text s) m) same h
HasDepth-below (o ∷ below) s n h =
    let none : HasNoFact (token.Left ∷ text s) = no_fact_at_left s in
    let at_left : HasDepth (token.Left ∷ text s) (suc n) = inl ((inl refl, none), (n, refl, h)) in
    let at_frame : HasDepth (frame_text o ++ (token.Left ∷ text s)) (o.bangs + suc n) = HasDepth-frame o (token.Left ∷ text s) (suc n) none at_left in
    let wider : State = record { top = s.top; below = under s.below o } in
    let at_wider : HasDepth (text wider) (o.bangs + suc n) = subst (λ (ts : List Token). HasDepth ts (o.bangs + suc n)) (sym (text-under s o)) at_frame in
    let further : HasDepth (below_text below ++ text wider) (frames_depth below + (o.bangs + suc n)) = HasDepth-below below wider (o.bangs + suc n) at_wider in
    let same_depth : frames_depth below + (o.bangs + suc n) ≡ suc (o.bangs + frames_depth below) + n = omega arith in
    let same_text : below_text below ++ text wider ≡ (below_text below ++ (frame_text o ++ token.Left ∷ [])) ++ text s =
    ap (λ (ts : List Token). below_text below ++ ts) (text-under s o)
    ∙ (ap (λ (ts : List Token). below_text below ++ ts) (sym (append_assoc (frame_text o) (token.Left ∷ []) (text s)))
    ∙ sym (append_assoc (below_text below) (frame_text o ++ token.Left ∷ []) (text s))) in
    subst (λ (m : ℕ). HasDepth ((below_text below ++ (frame_text o ++ token.Left ∷ [])) ++ text s) m) same_depth
    (subst (λ (ts : List Token). HasDepth ts (frames_depth below + (o.bangs + suc n))) same_text further)

pub HasDepth-text : (s : State) → HasDepth (text s) (s.top.bangs + frames_depth s.below)
HasDepth-text s =
    let alone : State = record { top = s.top; below = [] } in
    let at_top : HasDepth (frame_text s.top ++ []) (s.top.bangs + 0) = HasDepth-frame s.top [] 0 no_fact_in_nothing refl in
    let here : HasDepth (text alone) (s.top.bangs + 0) = subst (λ (ts : List Token). HasDepth ts (s.top.bangs + 0)) (append-nil (frame_text s.top)) at_top in
    let same : frames_depth s.below + (s.top.bangs + 0) ≡ s.top.bangs + frames_depth s.below = omega arith in
    subst (λ (m : ℕ). HasDepth (text s) m) same (HasDepth-below s.below alone (s.top.bangs + 0) here)
