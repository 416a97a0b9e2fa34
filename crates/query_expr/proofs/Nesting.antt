-- How deep a phrase nests, and that of all phrases of a tree the canonical one nests the least and has the fewest tokens.
use Rattle.std.proofs.Common.{◌≡◌, ℕ, zero, suc, ◌+◌, ◌-◌, ◌<◌, ◌≤◌, max, List, [], ◌∷◌, ◌++◌, length, take, drop, refl, sym, ap, ◌∙◌, subst, arith, ◌⊎◌, inl, inr, append_assoc, length-append}
use Rattle.std.proofs.lemmas.Bool.{cases_lt}
use Rattle.std.proofs.lemmas.List.{take-append-le, take-append-drop}
use Rattle.std.proofs.Math.Seq.{take-append_seam}
use Rattle.query_grammar.specs.declared.token.Token.{Token}
use Rattle.query_grammar.specs.declared.token.Token.TheVariants as token
use Rattle.query_grammar.specs.Tree.{Tree}
use Rattle.query_grammar.specs.Grammar.{Kind, Phrase, tokens_of, tree_of, CanGoOn}
use Rattle.query_grammar.specs.Depth.{HasNoFact, HasDepth, IsWithinDepth}
use Rattle.query_grammar.specs.Faults as grammar
use Rattle.query_expr.proofs.Depths.{one_depth, HasDepth-phrase, no_fact_at_left, word_opens, right_opens, bar_opens, no_fact_in_nothing, no_fact_at_bang}
use Rattle.query_expr.proofs.Answered.{some_depth}
use Rattle.query_expr.proofs.Firsts.{state_of}
use Rattle.query_grammar.specs.Canonical.{phrases_of, canonical_tokens}

-- the negations and brackets one inside another
abbrev nest : {kind : Kind} → Phrase kind → ℕ
nest (Phrase.word w) = 0
nest (Phrase.bang f) = suc (nest f)
nest (Phrase.brackets e) = suc (nest e)
nest (Phrase.one_fact f) = nest f
nest (Phrase.beside b f) = max (nest b) (nest f)
nest (Phrase.one_both b) = nest b
nest (Phrase.bar e b) = max (nest e) (nest b)

-- the first tokens of two lists
take-past : (xs ys : List Token) (k : ℕ) → take (length xs + k) (xs ++ ys) ≡ xs ++ take k ys
take-past [] ys k = ap (λ (n : ℕ). take n ys) (omega arith)
take-past (x ∷ xs) ys k =
    let e : length (x ∷ xs) + k ≡ suc (length xs + k) = omega arith in
    ap (λ (n : ℕ). take n (x ∷ (xs ++ ys))) e ∙ ap (λ (l : List Token). x ∷ l) (take-past xs ys k)

-- A front of the tokens of a phrase with more behind has a depth.
front_depth : {kind : Kind} (p : Phrase kind) (k : ℕ) → ((ts more : List Token) → ts ++ more ≡ tokens_of p → CanGoOn ts) → (n : ℕ) × HasDepth (take k (tokens_of p)) n
front_depth p k goes = some_depth (take k (tokens_of p)) (goes (take k (tokens_of p)) (drop k (tokens_of p)) (take-append-drop k (tokens_of p)))

fact_goes : (f : Phrase Kind.fact) (ts more : List Token) → ts ++ more ≡ tokens_of f → CanGoOn ts
fact_goes f ts more e = (Phrase.one_both (Phrase.one_fact f), more, sym e)

both_goes : (b : Phrase Kind.both) (ts more : List Token) → ts ++ more ≡ tokens_of b → CanGoOn ts
both_goes b ts more e = (Phrase.one_both b, more, sym e)

none_is_flat : (k d : ℕ) → HasDepth (take k []) d → d ≡ 0
none_is_flat zero d h = h
none_is_flat (suc k) d h = h

-- a front of a phrase and what stands behind it is not deeper than a bound for each
split_depth : {kind : Kind} (p : Phrase kind) (rest : List Token) (k d most : ℕ) → ((j m : ℕ) → HasDepth (take j (tokens_of p)) m → m ≤ most)
    → ((j : ℕ) → (n : ℕ) × HasDepth (take j rest) n × (n ≤ most)) → HasDepth (take k (tokens_of p ++ rest)) d → d ≤ most
split_depth p rest k d most low behind h = by (cases_lt k (length (tokens_of p)))
  where
    by : (k < length (tokens_of p)) ⊎ (length (tokens_of p) ≤ k) → d ≤ most
    by (inl below) = low k d (subst (λ (ts : List Token). HasDepth ts d) (take-append-le k (tokens_of p) rest (omega arith)) h)
    by (inr above) =
        let j : ℕ = k - length (tokens_of p) in
        let is : k ≡ length (tokens_of p) + j = omega arith in
        let found = behind j in
        let here : HasDepth (tokens_of p ++ take j rest) d = subst (λ (ts : List Token). HasDepth ts d) (ap (λ (n : ℕ). take n (tokens_of p ++ rest)) is ∙ take-past (tokens_of p) rest j) h in
        let same = one_depth (tokens_of p ++ take j rest) d found.0 here (HasDepth-phrase p (take j rest) found.0 found.1) in
        omega (arith, found.2)

right_depth : (j : ℕ) → HasDepth (take j (token.Right ∷ [])) 0
right_depth zero = refl
right_depth (suc zero) = inr (λ is. right_opens is.0, refl)
right_depth (suc (suc j)) = inr (λ is. right_opens is.0, refl)

-- no front of a phrase is deeper than it nests
depth-le : {kind : Kind} (p : Phrase kind) (k d : ℕ) → HasDepth (take k (tokens_of p)) d → d ≤ nest p
depth-le (Phrase.word w) zero d h = omega arith
depth-le (Phrase.word w) (suc k) d (inl h) = absurd (word_opens w h.0.0)
depth-le (Phrase.word w) (suc k) d (inr h) = let flat = none_is_flat k d h.1 in omega arith
depth-le (Phrase.bang f) zero d h = omega arith
depth-le (Phrase.bang f) (suc k) d (inl h) = let low = depth-le f k h.1.0 h.1.2 in omega (arith, h.1.1)
depth-le (Phrase.bang f) (suc k) d (inr h) = let low = depth-le f k d h.1 in omega arith
depth-le (Phrase.brackets e) zero d h = omega arith
depth-le (Phrase.brackets e) (suc k) d (inl h) =
    let low = split_depth e (token.Right ∷ []) k h.1.0 (nest e) (λ j m g. depth-le e j m g) (λ j. (0, right_depth j, omega arith)) h.1.2 in omega (arith, h.1.1)
depth-le (Phrase.brackets e) (suc k) d (inr h) =
    let low = split_depth e (token.Right ∷ []) k d (nest e) (λ j m g. depth-le e j m g) (λ j. (0, right_depth j, omega arith)) h.1 in omega arith
depth-le (Phrase.one_fact f) k d h = depth-le f k d h
depth-le (Phrase.beside b f) k d h =
    split_depth b (tokens_of f) k d (max (nest b) (nest f)) (λ j m g. let low = depth-le b j m g in omega arith)
    (λ j. let found = front_depth f j (fact_goes f) in (found.0, found.1, let low = depth-le f j found.0 found.1 in omega arith)) h
depth-le (Phrase.one_both b) k d h = depth-le b k d h
depth-le (Phrase.bar e b) k d h =
    split_depth e (token.Bar ∷ tokens_of b) k d (max (nest e) (nest b)) (λ j m g. let low = depth-le e j m g in omega arith) (λ j. behind j (λ i n g. depth-le b i n g)) h
  where
    behind : (j : ℕ) → ((i n : ℕ) → HasDepth (take i (tokens_of b)) n → n ≤ nest b) → (n : ℕ) × HasDepth (take j (token.Bar ∷ tokens_of b)) n × (n ≤ max (nest e) (nest b))
    behind zero low = (0, refl, omega arith)
    behind (suc j) low = let found = front_depth b j (both_goes b) in (found.0, inr (λ is. bar_opens is.0, found.1), let le = low j found.0 found.1 in omega arith)

-- some front of a phrase is as deep as it nests
abbrev NoFactAt : Kind → List Token → Type 0
NoFactAt Kind.fact ts = HasNoFact ts
NoFactAt Kind.both ts = Unit {0}
NoFactAt Kind.either ts = Unit {0}

record Reaches {kind : Kind} (p : Phrase kind) : Type 0 where
  front : List Token
  more : List Token
  is : front ++ more ≡ tokens_of p
  deep : HasDepth front (nest p)
  none : NoFactAt kind front

reaches : {kind : Kind} (p : Phrase kind) → Reaches p
reaches (Phrase.word w) = record { front = []; more = token.Word w ∷ []; is = refl; deep = refl; none = no_fact_in_nothing }
reaches (Phrase.bang f) =
    let r = reaches f in
    let none = no_fact_at_bang r.front r.none in
    record { front = token.Bang ∷ r.front; more = r.more; is = ap (λ (ts : List Token). token.Bang ∷ ts) r.is; deep = inl ((inr refl, none), (nest f, refl, r.deep)); none = none }
reaches (Phrase.brackets e) =
    let r = reaches e in
    let found = state_of r.front (e, r.more, sym r.is) in
    let none : HasNoFact (token.Left ∷ r.front) = subst (λ (ts : List Token). HasNoFact (token.Left ∷ ts)) found.1 (no_fact_at_left found.0) in
    record {
      front = token.Left ∷ r.front;
      more = r.more ++ token.Right ∷ [];
      is = ap (λ (ts : List Token). token.Left ∷ ts) (sym (append_assoc r.front r.more (token.Right ∷ [])) ∙ ap (λ (ts : List Token). ts ++ token.Right ∷ []) r.is);
      deep = inl ((inl refl, none), (nest e, refl, r.deep));
      none = none;
    }
reaches (Phrase.one_fact f) = let r = reaches f in record { front = r.front; more = r.more; is = r.is; deep = r.deep; none = tt }
reaches (Phrase.beside b f) = by (cases_lt (nest f) (nest b)) (reaches b) (reaches f)
  where
    by : (nest f < nest b) ⊎ (nest b ≤ nest f) → Reaches b → Reaches f → Reaches (Phrase.beside b f)
    by (inl less) r s =
        let same : nest b ≡ max (nest b) (nest f) = omega arith in
        record {
          front = r.front;
          more = r.more ++ tokens_of f;
          is = sym (append_assoc r.front r.more (tokens_of f)) ∙ ap (λ (ts : List Token). ts ++ tokens_of f) r.is;
          deep = subst (λ (n : ℕ). HasDepth r.front n) same r.deep;
          none = tt;
        }
    by (inr more) r s =
        let same : nest f ≡ max (nest b) (nest f) = omega arith in
        record {
          front = tokens_of b ++ s.front;
          more = s.more;
          is = append_assoc (tokens_of b) s.front s.more ∙ ap (λ (ts : List Token). tokens_of b ++ ts) s.is;
          deep = subst (λ (n : ℕ). HasDepth (tokens_of b ++ s.front) n) same (HasDepth-phrase b s.front (nest f) s.deep);
          none = tt;
        }
reaches (Phrase.one_both b) = let r = reaches b in record { front = r.front; more = r.more; is = r.is; deep = r.deep; none = tt }
reaches (Phrase.bar e b) = by (cases_lt (nest b) (nest e)) (reaches e) (reaches b)
  where
    by : (nest b < nest e) ⊎ (nest e ≤ nest b) → Reaches e → Reaches b → Reaches (Phrase.bar e b)
    by (inl less) r s =
        let same : nest e ≡ max (nest e) (nest b) = omega arith in
        record {
          front = r.front;
          more = r.more ++ (token.Bar ∷ tokens_of b);
          is = sym (append_assoc r.front r.more (token.Bar ∷ tokens_of b)) ∙ ap (λ (ts : List Token). ts ++ (token.Bar ∷ tokens_of b)) r.is;
          deep = subst (λ (n : ℕ). HasDepth r.front n) same r.deep;
          none = tt;
        }
    by (inr more) r s =
        let same : nest b ≡ max (nest e) (nest b) = omega arith in
        record {
          front = tokens_of e ++ (token.Bar ∷ s.front);
          more = s.more;
          is = append_assoc (tokens_of e) (token.Bar ∷ s.front) s.more ∙ ap (λ (ts : List Token). tokens_of e ++ (token.Bar ∷ ts)) s.is;
          deep = subst (λ (n : ℕ). HasDepth (tokens_of e ++ (token.Bar ∷ s.front)) n) same (HasDepth-phrase e (token.Bar ∷ s.front) (nest b) (inr (λ is. bar_opens is.0, s.deep)));
          none = tt;
        }

nest_within : (p : Phrase Kind.either) (most : ℕ) → IsWithinDepth most (tokens_of p) → nest p ≤ most
nest_within p most shallow =
    let r = reaches p in
    shallow (length r.front) (nest p) (subst (λ (ts : List Token). HasDepth ts (nest p)) (sym (ap (take (length r.front)) (sym r.is) ∙ take-append_seam r.front r.more)) r.deep)

-- the canonical phrases of a tree, beside any phrase of it
abbrev canonical : (kind : Kind) → Tree → Phrase kind
canonical Kind.fact tree = (phrases_of tree).fact
canonical Kind.both tree = (phrases_of tree).both
canonical Kind.either tree = (phrases_of tree).either

record IsLeast {kind : Kind} (p : Phrase kind) : Type 0 where
  nests : nest (canonical kind (tree_of p)) ≤ nest p
  counts : length (tokens_of (canonical kind (tree_of p))) ≤ length (tokens_of p)

-- each level asks at most for brackets more than the next
record AreNear (tree : Tree) : Type 0 where
  both_nests : nest (phrases_of tree).both ≤ nest (phrases_of tree).fact
  both_counts : length (tokens_of (phrases_of tree).both) ≤ length (tokens_of (phrases_of tree).fact)
  either_nests : nest (phrases_of tree).either ≤ nest (phrases_of tree).both
  either_counts : length (tokens_of (phrases_of tree).either) ≤ length (tokens_of (phrases_of tree).both)
  fact_nests : nest (phrases_of tree).fact ≤ suc (nest (phrases_of tree).either)
  fact_counts : length (tokens_of (phrases_of tree).fact) ≤ length (tokens_of (phrases_of tree).either) + 2

bracketed : (tokens : List Token) → length (token.Left ∷ (tokens ++ token.Right ∷ [])) ≡ length tokens + 2
bracketed tokens = omega (arith, length-append tokens (token.Right ∷ []))

are_near : (tree : Tree) → AreNear tree
are_near (Tree.word w) = record { both_nests = omega arith; both_counts = omega arith; either_nests = omega arith; either_counts = omega arith; fact_nests = omega arith; fact_counts = omega arith }
are_near (Tree.not e) = record { both_nests = omega arith; both_counts = omega arith; either_nests = omega arith; either_counts = omega arith; fact_nests = omega arith; fact_counts = omega arith }
are_near (Tree.both a b) =
    let n = bracketed (tokens_of (phrases_of (Tree.both a b)).both) in
    record { both_nests = omega arith; both_counts = omega arith; either_nests = omega arith; either_counts = omega arith; fact_nests = omega arith; fact_counts = omega arith }
are_near (Tree.either a b) =
    let n = bracketed (tokens_of (phrases_of (Tree.either a b)).either) in
    record { both_nests = omega arith; both_counts = omega arith; either_nests = omega arith; either_counts = omega arith; fact_nests = omega arith; fact_counts = omega arith }

is_least : {kind : Kind} (p : Phrase kind) → IsLeast p
is_least (Phrase.word w) = record { nests = omega arith; counts = omega arith }
is_least (Phrase.bang f) = let l = is_least f in record { nests = omega (arith, l.nests); counts = omega (arith, l.counts) }
is_least (Phrase.brackets e) =
    let l = is_least e in
    let n = are_near (tree_of e) in
    let m = bracketed (tokens_of e) in
    record { nests = omega (arith, l.nests, n.fact_nests); counts = omega (arith, l.counts, n.fact_counts) }
is_least (Phrase.one_fact f) =
    let l = is_least f in
    let n = are_near (tree_of f) in
    record { nests = omega (arith, l.nests, n.both_nests); counts = omega (arith, l.counts, n.both_counts) }
is_least (Phrase.beside b f) =
    let l = is_least b in
    let m = is_least f in
    record {
      nests = omega (arith, l.nests, m.nests);
      counts = omega (arith, l.counts, m.counts, length-append (tokens_of (phrases_of (tree_of b)).both) (tokens_of (phrases_of (tree_of f)).fact), length-append (tokens_of b) (tokens_of f));
    }
is_least (Phrase.one_both b) =
    let l = is_least b in
    let n = are_near (tree_of b) in
    record { nests = omega (arith, l.nests, n.either_nests); counts = omega (arith, l.counts, n.either_counts) }
is_least (Phrase.bar e b) =
    let l = is_least e in
    let m = is_least b in
    record {
      nests = omega (arith, l.nests, m.nests);
      counts = omega (arith, l.counts, m.counts, length-append (tokens_of (phrases_of (tree_of e)).either) (token.Bar ∷ tokens_of (phrases_of (tree_of b)).both), length-append (tokens_of e) (token.Bar ∷ tokens_of b));
    }

-- a phrase has a token, and the canonical phrases have the tree
pub some_tokens : {kind : Kind} (p : Phrase kind) → 0 < length (tokens_of p)
some_tokens (Phrase.word w) = omega arith
some_tokens (Phrase.bang f) = omega arith
some_tokens (Phrase.brackets e) = omega arith
some_tokens (Phrase.one_fact f) = some_tokens f
some_tokens (Phrase.beside b f) = omega (arith, some_tokens b, length-append (tokens_of b) (tokens_of f))
some_tokens (Phrase.one_both b) = some_tokens b
some_tokens (Phrase.bar e b) = omega (arith, some_tokens e, length-append (tokens_of e) (token.Bar ∷ tokens_of b))

record HaveTree (tree : Tree) : Type 0 where
  fact : tree_of (phrases_of tree).fact ≡ tree
  both : tree_of (phrases_of tree).both ≡ tree
  either : tree_of (phrases_of tree).either ≡ tree

have_tree : (tree : Tree) → HaveTree tree
have_tree (Tree.word w) = record { fact = refl; both = refl; either = refl }
have_tree (Tree.not e) = let h = ap Tree.not (have_tree e).fact in record { fact = h; both = h; either = h }
have_tree (Tree.both a b) =
    let h : Tree.both (tree_of (phrases_of a).both) (tree_of (phrases_of b).fact) ≡ Tree.both a b =
    ap (λ (x : Tree). Tree.both x (tree_of (phrases_of b).fact)) (have_tree a).both ∙ ap (λ (x : Tree). Tree.both a x) (have_tree b).fact in
    record { fact = h; both = h; either = h }
have_tree (Tree.either a b) =
    let h : Tree.either (tree_of (phrases_of a).either) (tree_of (phrases_of b).both) ≡ Tree.either a b =
    ap (λ (x : Tree). Tree.either x (tree_of (phrases_of b).both)) (have_tree a).either ∙ ap (λ (x : Tree). Tree.either a x) (have_tree b).both in
    record { fact = h; both = h; either = h }

keeps_phrase : (p : Phrase Kind.either) → grammar.Accepts (tokens_of p) (tree_of p) → grammar.Accepts (canonical_tokens (tree_of p)) (tree_of p)
keeps_phrase p a =
    let least = is_least p in
    let nests = nest_within p 64 a.shallow in
    record {
      some = (some_tokens (phrases_of (tree_of p)).either, omega (arith, least.counts, a.some.1));
      shallow = λ place depth h. let low = depth-le (phrases_of (tree_of p)).either place depth h in omega (arith, least.nests, nests, low);
      reads = ((phrases_of (tree_of p)).either, refl, (have_tree (tree_of p)).either);
    }

pub keeps : (tokens : List Token) (tree : Tree) → grammar.Accepts tokens tree → grammar.Accepts (canonical_tokens tree) tree
keeps tokens tree a =
    let p = a.reads.0 in
    let one = subst (λ (ts : List Token). grammar.Accepts ts tree) (sym a.reads.1) a in
    let other = subst (λ (t : Tree). grammar.Accepts (tokens_of a.reads.0) t) (sym a.reads.2) one in
    subst (λ (t : Tree). grammar.Accepts (canonical_tokens t) t) a.reads.2 (keeps_phrase a.reads.0 other)
