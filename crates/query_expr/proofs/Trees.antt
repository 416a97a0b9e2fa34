-- What `parse` keeps is a state of the machine, with trees in place of phrases.
use Rattle.std.proofs.Common.{◌≡◌, ℕ, zero, suc, ◌+◌, List, [], ◌∷◌, ◌++◌, Option, Some, None, refl, sym, ap, ◌∙◌, subst}
use Rattle.query_grammar.specs.declared.token.Token.{Token}
use Rattle.query_grammar.specs.declared.token.Token.TheVariants as token
use Rattle.query_grammar.specs.Tree.{Tree}
use Rattle.query_grammar.specs.Grammar.{Kind, Phrase, word, brackets, tree_of, Reads, CanGoOn}
use Rattle.query_grammar.specs.Depth.{HasDepth}
use Rattle.query_expr.specs.declared.open.Open.{Open}
use Rattle.query_expr.specs.Steps.{Reading, empty, negated, both_with, either_with, with_fact, whole_from, whole_of, at_bar, at_right, step, at_end, finish, depth_below, depth_of}
use Rattle.query_expr.proofs.Machine.{Frame, State, start, banged, both_of, either_of, put, whole_in, whole, after_bar, after_right, next, last, end}
use Rattle.query_expr.proofs.Texts.{text, text-next}
use Rattle.query_expr.proofs.Answering.{CanGoOn-text, stuck_CanGoOn, end-text, end-whole}
use Rattle.query_expr.proofs.Depths.{frames_depth, HasDepth-text}

abbrev tree_in : {kind : Kind} → Option (Phrase kind) → Option Tree
tree_in None = None
tree_in (Some p) = Some (tree_of p)

abbrev open_of : Frame → Open
open_of o = record { alternatives = tree_in o.alternatives; facts = tree_in o.facts; bangs = o.bangs }

abbrev opens_of : List Frame → List Open
opens_of [] = []
opens_of (o ∷ below) = open_of o ∷ opens_of below

abbrev reading_in : State → Reading
reading_in s = record { top = open_of s.top; below = opens_of s.below }

abbrev reading_at : Option State → Option Reading
reading_at None = None
reading_at (Some s) = Some (reading_in s)

-- The two machines make the same steps.
tree_of-banged : (n : ℕ) (f : Phrase Kind.fact) → tree_of (banged n f) ≡ negated n (tree_of f)
tree_of-banged zero f = refl
tree_of-banged (suc n) f = ap Tree.not (tree_of-banged n f)

tree_of-both_of : (facts : Option (Phrase Kind.both)) (f : Phrase Kind.fact) → tree_of (both_of facts f) ≡ both_with (tree_in facts) (tree_of f)
tree_of-both_of None f = refl
tree_of-both_of (Some b) f = refl

tree_of-either_of : (alternatives : Option (Phrase Kind.either)) (b : Phrase Kind.both) → tree_of (either_of alternatives b) ≡ either_with (tree_in alternatives) (tree_of b)
tree_of-either_of None b = refl
tree_of-either_of (Some e) b = refl

open_of-put : (o : Frame) (f : Phrase Kind.fact) → open_of (put o f) ≡ with_fact (open_of o) (tree_of f)
open_of-put o f =
    let made : Tree → Open = λ (e : Tree). record { alternatives = tree_in o.alternatives; facts = Some e; bangs = 0 } in
    ap made (tree_of-both_of o.facts (banged o.bangs f) ∙ ap (λ (e : Tree). both_with (tree_in o.facts) e) (tree_of-banged o.bangs f))

whole_in-trees : (a : Option (Phrase Kind.either)) (f : Option (Phrase Kind.both)) (n : ℕ) → tree_in (whole_in a f n) ≡ whole_from (tree_in a) (tree_in f) n
whole_in-trees a None n = refl
whole_in-trees a (Some b) zero = ap (λ (e : Tree). Some e) (tree_of-either_of a b)
whole_in-trees a (Some b) (suc n) = refl

whole-trees : (o : Frame) → tree_in (whole o) ≡ whole_of (open_of o)
whole-trees o = whole_in-trees o.alternatives o.facts o.bangs

after_bar-trees : (w : Option (Phrase Kind.either)) (below : List Frame) → reading_at (after_bar w below) ≡ at_bar (tree_in w) (opens_of below)
after_bar-trees None below = refl
after_bar-trees (Some e) below = refl

after_right-trees : (w : Option (Phrase Kind.either)) (below : List Frame) → reading_at (after_right w below) ≡ at_right (tree_in w) (opens_of below)
after_right-trees w [] = refl
after_right-trees None (outer ∷ below) = refl
after_right-trees (Some e) (outer ∷ below) =
    ap (λ (o : Open). Some (let r : Reading = record { top = o; below = opens_of below } in r)) (open_of-put outer (brackets e))

next-trees : (s : State) (t : Token) → reading_at (next s t) ≡ step (reading_in s) t
next-trees s (token.Word w) =
    ap (λ (o : Open). Some (let r : Reading = record { top = o; below = opens_of s.below } in r)) (open_of-put s.top (word w))
next-trees s token.Bang = refl
next-trees s token.Left = refl
next-trees s token.Bar = after_bar-trees (whole s.top) s.below ∙ ap (λ (w : Option Tree). at_bar w (opens_of s.below)) (whole-trees s.top)
next-trees s token.Right = after_right-trees (whole s.top) s.below ∙ ap (λ (w : Option Tree). at_right w (opens_of s.below)) (whole-trees s.top)

last-trees : (w : Option (Phrase Kind.either)) (below : List Frame) → tree_in (last w below) ≡ at_end (tree_in w) (opens_of below)
last-trees w [] = refl
last-trees w (outer ∷ below) = refl

end-trees : (s : State) → tree_in (end s) ≡ finish (reading_in s)
end-trees s = last-trees (whole s.top) s.below ∙ ap (λ (w : Option Tree). at_end w (opens_of s.below)) (whole-trees s.top)

depth-trees : (below : List Frame) → frames_depth below ≡ depth_below (opens_of below)
depth-trees [] = refl
depth-trees (o ∷ below) = ap (λ (n : ℕ). suc (o.bangs + n)) (depth-trees below)

-- The reading has read these tokens.
pub record Stands (r : Reading) (tokens : List Token) : Type 0 where
  pub state : State
  pub seen : reading_in state ≡ r
  pub read : text state ≡ tokens

pub stands_start : Stands (record { top = empty; below = [] }) []
stands_start = record { state = start; seen = refl; read = refl }

some_next : (s : State) (t : Token) (new : Reading) (o : Option State) → next s t ≡ o → reading_at o ≡ Some new
    → (s' : State) × (next s t ≡ Some s') × (reading_in s' ≡ new)
some_next s t new None e h = cc
some_next s t new (Some s') e h = let same : reading_in s' ≡ new = cc in (s', e, same)

none_next : (o : Option State) → reading_at o ≡ None → o ≡ None
none_next None h = refl
none_next (Some s) h = cc

pub stands_step : (r : Reading) (tokens : List Token) (t : Token) (new : Reading) → Stands r tokens → step r t ≡ Some new → Stands new (tokens ++ t ∷ [])
stands_step r tokens t new h e =
    let made : reading_at (next h.state t) ≡ Some new = next-trees h.state t ∙ (ap (λ (x : Reading). step x t) h.seen ∙ e) in
    let found : (s' : State) × (next h.state t ≡ Some s') × (reading_in s' ≡ new) = some_next h.state t new (next h.state t) refl made in
    record { state = found.0; seen = found.2; read = text-next h.state t found.0 found.1 ∙ ap (λ (ts : List Token). ts ++ t ∷ []) h.read }

pub stands_stuck : (r : Reading) (tokens : List Token) (t : Token) → Stands r tokens → step r t ≡ None → ¬ CanGoOn (tokens ++ t ∷ [])
stands_stuck r tokens t h e go =
    let nothing : Option Reading = None in
    let made : reading_at (next h.state t) ≡ nothing = next-trees h.state t ∙ (ap (λ (x : Reading). step x t) h.seen ∙ e) in
    stuck_CanGoOn h.state t (none_next (next h.state t) made) (subst (λ (ts : List Token). CanGoOn (ts ++ t ∷ [])) (sym h.read) go)

pub stands_CanGoOn : (r : Reading) (tokens : List Token) → Stands r tokens → CanGoOn tokens
stands_CanGoOn r tokens h = subst (λ (ts : List Token). CanGoOn ts) h.read (CanGoOn-text h.state)

pub stands_depth : (r : Reading) (tokens : List Token) → Stands r tokens → HasDepth tokens (depth_of r)
stands_depth r tokens h =
    let here : HasDepth (text h.state) (h.state.top.bangs + frames_depth h.state.below) = HasDepth-text h.state in
    let same : h.state.top.bangs + frames_depth h.state.below ≡ depth_of r =
    ap (λ (n : ℕ). h.state.top.bangs + n) (depth-trees h.state.below) ∙ ap (λ (x : Reading). depth_of x) h.seen in
    subst (λ (ts : List Token). HasDepth ts (depth_of r)) h.read (subst (λ (n : ℕ). HasDepth (text h.state) n) same here)

some_end : (s : State) (e : Tree) (w : Option (Phrase Kind.either)) → end s ≡ w → tree_in w ≡ Some e → Reads (text s) e
some_end s e None is h = cc
some_end s e (Some p) is h = let same : tree_of p ≡ e = cc in (p, end-text s p is, same)

pub stands_finish : (r : Reading) (tokens : List Token) (e : Tree) → Stands r tokens → finish r ≡ Some e → Reads tokens e
stands_finish r tokens e h is =
    let made : tree_in (end h.state) ≡ Some e = end-trees h.state ∙ (ap (λ (x : Reading). finish x) h.seen ∙ is) in
    subst (λ (ts : List Token). Reads ts e) h.read (some_end h.state e (end h.state) refl made)

pub stands_unfinished : (r : Reading) (tokens : List Token) (e : Tree) → Stands r tokens → finish r ≡ None → ¬ Reads tokens e
stands_unfinished r tokens e h is reads =
    let nothing : Option Tree = None in
    let made : tree_in (end h.state) ≡ nothing = end-trees h.state ∙ (ap (λ (x : Reading). finish x) h.seen ∙ is) in
    let whole_here : end h.state ≡ Some reads.0 = end-whole h.state reads.0 (reads.1 ∙ sym h.read) in
    let there : tree_in (end h.state) ≡ Some (tree_of reads.0) = ap (λ (w : Option (Phrase Kind.either)). tree_in w) whole_here in
    let clash : Some (tree_of reads.0) ≡ nothing = sym there ∙ made in
    cc
