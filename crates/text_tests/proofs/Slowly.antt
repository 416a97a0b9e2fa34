-- What the plain program may conclude of all its tokens.
use Rattle.std.proofs.Common.{◌≡◌, ℕ, zero, suc, ◌+◌, ◌<◌, ◌≤◌, List, [], ◌∷◌, ◌++◌, length, take, Bool, true, false, IsTrue, ◌↔◌, Some, None, refl, sym, ap, ◌∙◌, subst, arith, below_more, append_assoc, length-append}
use Rattle.std.proofs.lemmas.List.{take_all, length-take}
use Rattle.fan_base.specs.declared.word.Word.{Word}
use Rattle.query_grammar.specs.declared.token.Token.{Token}
use Rattle.query_grammar.specs.declared.token.Token.TheVariants as token
use Rattle.query_grammar.specs.declared.fault.ExprFault.TheVariants as fault
use Rattle.query_grammar.specs.Tree.{Tree}
use Rattle.query_grammar.specs.Grammar.{Kind, word, tokens_of, CanGoOn}
use Rattle.query_grammar.specs.Depth.{IsWithinDepth}
use Rattle.query_grammar.specs.Faults.{AreSome, Accepts, Refuses}
use Rattle.text_tests.specs.Slow.{Finds, rights, closed}
use Rattle.query_expr.proofs.Machine.{Frame, State, start}
use Rattle.query_expr.proofs.Texts.{text, frame_text, below_text}
use Rattle.query_expr.proofs.Answering.{completed, tokens_of-completed, CanGoOn-text}
use Rattle.query_expr.proofs.Answering as from_answering
use Rattle.query_expr.proofs.Firsts.{state_of}
use Rattle.query_model.proofs.Building.{depth_le}

pub CanGoOn-nothing : CanGoOn []
CanGoOn-nothing = CanGoOn-text start

-- What goes on can be completed by a word and some brackets.
pub closed_found : (tokens : List Token) (w : Word) (n : ℕ) (tree : Tree) → Finds Kind.either (closed tokens w n) (Some tree) → CanGoOn tokens
closed_found tokens w n tree h = (h.0, token.Word w ∷ rights n, h.1)

rights_of : (below : List Frame) → from_answering.rights below ≡ rights (length below)
rights_of [] = refl
rights_of (o ∷ below) = ap (λ (ts : List Token). token.Right ∷ ts) (rights_of below)

length-below : (below : List Frame) → length below ≤ length (below_text below)
length-below [] = omega arith
length-below (o ∷ below) =
    omega (arith, length-below below, length-append (below_text below) (frame_text o ++ token.Left ∷ []), length-append (frame_text o) (token.Left ∷ []))

pub none_closed : (tokens : List Token) (w : Word) (n : ℕ) → length tokens + 1 ≤ n → ((k : ℕ) → k < n → Finds Kind.either (closed tokens w k) None) → ¬ CanGoOn tokens
none_closed tokens w n le none h =
    let found : (s : State) × (text s ≡ tokens) = state_of tokens h in
    let s : State = found.0 in
    let few : length s.below < n = omega (arith, length-below s.below, ap length found.1, length-append (below_text s.below) (frame_text s.top)) in
    let whole : tokens_of (completed s.top s.below (word w)) ≡ text s ++ (token.Word w ∷ from_answering.rights s.below) = tokens_of-completed s.below s.top (word w) in
    none (length s.below) few (completed s.top s.below (word w))
    (whole ∙ (ap (λ (ts : List Token). text s ++ (token.Word w ∷ ts)) (rights_of s.below) ∙ ap (λ (ts : List Token). ts ++ (token.Word w ∷ rights (length s.below))) found.1))

rights-more : (n : ℕ) → rights n ++ token.Right ∷ [] ≡ rights (suc n)
rights-more zero = refl
rights-more (suc n) = ap (λ (ts : List Token). token.Right ∷ ts) (rights-more n)

pub closed-more : (tokens : List Token) (w : Word) (n : ℕ) → closed tokens w n ++ token.Right ∷ [] ≡ closed tokens w (n + 1)
closed-more tokens w n =
    let same : suc n ≡ n + 1 = omega arith in
    append_assoc tokens (token.Word w ∷ rights n) (token.Right ∷ [])
    ∙ (ap (λ (ts : List Token). tokens ++ (token.Word w ∷ ts)) (rights-more n) ∙ ap (λ (m : ℕ). closed tokens w m) same)

pub yes_if : (P : Type 0) → P → IsTrue true ↔ P
yes_if P p = (λ _. p, λ _. refl)

pub no_if : (P : Type 0) → ¬ P → IsTrue false ↔ P
no_if P none = (λ (e : IsTrue false). cc, λ p. absurd (none p))

-- Few tokens are nowhere too deep.
few_shallow : (tokens : List Token) → length tokens ≤ 64 → IsWithinDepth 64 tokens
few_shallow tokens few place n h = omega (arith, depth_le (take place tokens) n h, length-take place tokens)

front_shallow : (tokens : List Token) (place : ℕ) → length tokens ≤ 64 → IsWithinDepth 64 (take place tokens)
front_shallow tokens place few = few_shallow (take place tokens) (omega (arith, length-take place tokens))

some_few : (tokens : List Token) → 0 < length tokens → length tokens ≤ 64 → AreSome tokens
some_few tokens some few = (some, omega arith)

pub unexpected_here : (tokens : List Token) (place : ℕ) → length tokens ≤ 64 → place < length tokens → CanGoOn (take place tokens) → ¬ CanGoOn (take (place + 1) tokens)
    → Refuses tokens (fault.Unexpected place)
unexpected_here tokens place few lt go none =
    (record { some = some_few tokens (omega arith) few; goes_on = go; shallow = front_shallow tokens place few }, lt, none)

pub accepted_here : (tokens : List Token) (tree : Tree) → 0 < length tokens → length tokens ≤ 64 → Finds Kind.either tokens (Some tree) → Accepts tokens tree
accepted_here tokens tree some few h = record { some = some_few tokens some few; shallow = few_shallow tokens few; reads = h }

pub unclosed_here : (tokens : List Token) (place : ℕ) → 0 < length tokens → length tokens ≤ 64 → length tokens ≤ place → CanGoOn (take place tokens) → Finds Kind.either tokens None
    → Refuses tokens fault.Unclosed
unclosed_here tokens place some few le go none =
    let at_end : take place tokens ≡ take (length tokens) tokens = take_all place tokens le ∙ sym (take_all (length tokens) tokens (omega arith)) in (
      record { some = some_few tokens some few; goes_on = subst (λ (ts : List Token). CanGoOn ts) at_end go; shallow = front_shallow tokens (length tokens) few },
      λ tree reads. none reads.0 reads.1,
    )

pub false_denies : (P : Type 0) (b : Bool) → b ≡ false → IsTrue b ↔ P → ¬ P
false_denies P b is h p = let yes : b ≡ true = h.1 p in cc

pub none_more : (tokens items : List Token) (w : Word) (n : ℕ) → items ≡ closed tokens w n → Finds Kind.either items None
    → ((k : ℕ) → k < n → Finds Kind.either (closed tokens w k) None) → (k : ℕ) → k < n + 1 → Finds Kind.either (closed tokens w k) None
none_more tokens items w n is none before =
    below_more (λ (k : ℕ). Finds Kind.either (closed tokens w k) None) n before (subst (λ (ts : List Token). Finds Kind.either ts None) is none)

pub some_closed : (tokens items : List Token) (w : Word) (n : ℕ) (tree : Tree) → items ≡ closed tokens w n → Finds Kind.either items (Some tree) → CanGoOn tokens
some_closed tokens items w n tree is h = closed_found tokens w n tree (subst (λ (ts : List Token). Finds Kind.either ts (Some tree)) is h)
