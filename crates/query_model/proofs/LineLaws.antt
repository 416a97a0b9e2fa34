-- A piece gives one thing behind the lines before it, since the grammar of expressions decides.
use Rattle.std.proofs.Common.{◌≡◌, ℕ, List, Option, Some, None, Result, Ok, Err, refl, sym, ap, ◌∙◌, ◌⊎◌, inl, inr}
use Rattle.query_grammar.specs.declared.fault.ExprFault.{ExprFault}
use Rattle.query_grammar.specs.Tree.{Tree}
use Rattle.query_grammar.specs.Faults as grammar
use Rattle.query_model.specs.Pieces.{Bytes}
use Rattle.query_model.specs.declared.line.Ask.{Ask}
use Rattle.query_model.specs.declared.line.Ask.TheVariants as ask
use Rattle.query_model.specs.declared.line.Line.{Line}
use Rattle.query_model.specs.declared.line.Line.TheVariants as line
use Rattle.query_model.specs.declared.fault.BadKind.{BadKind}
use Rattle.query_model.specs.Expressions.{kind_of}
use Rattle.query_model.specs.Lines.{Asking, Said, ask_of, GivesAsk, GivesLine, LineBehind, query_behind, said_behind}
use Rattle.query_model.specs.Laws.{GrammarDecides}

one_ask : GrammarDecides → (asking : Asking) (a b : Result Ask BadKind) → GivesAsk asking a → GivesAsk asking b → a ≡ b
one_ask d (Asking.of_tokens asks tokens) (Ok a) (Ok b) g h =
    let trees : g.0 ≡ h.0 = d.one_tree tokens g.0 h.0 g.1 h.1 in
    ap (λ (x : Ask). Ok x) (g.2 ∙ (ap (λ (t : Tree). ask_of asks t) trees ∙ sym h.2))
one_ask d (Asking.of_tokens asks tokens) (Ok a) (Err k) g h = absurd (d.never_both tokens g.0 h.0 g.1 h.1)
one_ask d (Asking.of_tokens asks tokens) (Err k) (Ok b) g h = absurd (d.never_both tokens h.0 g.0 h.1 g.1)
one_ask d (Asking.of_tokens asks tokens) (Err k) (Err l) g h = ap (λ (x : BadKind). Err x) (g.2 ∙ (ap kind_of (d.one_fault tokens g.0 h.0 g.1 h.1) ∙ sym h.2))
one_ask d (Asking.top k words) a b g h = g ∙ sym h

some_ask : GrammarDecides → (asking : Asking) → (given : Result Ask BadKind) × GivesAsk asking given
some_ask d (Asking.of_tokens asks tokens) = by (d.some tokens)
  where
    by : ((tree : Tree) × grammar.Accepts tokens tree) ⊎ ((fault : ExprFault) × grammar.Refuses tokens fault) → (given : Result Ask BadKind) × GivesAsk (Asking.of_tokens asks tokens) given
    by (inl t) = (Ok (ask_of asks t.0), (t.0, t.1, refl))
    by (inr f) = (Err (kind_of f.0), (f.0, f.1, refl))
some_ask d (Asking.top k words) = (Ok (ask.Top k words), refl)

one_given : GrammarDecides → (shards : ℕ) (before : List Line) (said : Result Said BadKind) (a b : Result (Option Line) BadKind)
    → GivesLine shards before said a → GivesLine shards before said b → a ≡ b
one_given d shards before (Err kind) a b g h = g ∙ sym h
one_given d shards before (Ok Said.nothing) a b g h = g ∙ sym h
one_given d shards before (Ok (Said.doc doc)) a b g h = g ∙ sym h
one_given d shards before (Ok (Said.tick n)) a b g h = g ∙ sym h
one_given d shards before (Ok (Said.cancel n)) a b g h = g ∙ sym h
one_given d shards before (Ok (Said.query delay prio asking)) a b g h =
    g.2 ∙ (ap (λ asks. query_behind shards before delay prio asks) (one_ask d asking g.0 h.0 g.1 h.1) ∙ sym h.2)

some_given : GrammarDecides → (shards : ℕ) (before : List Line) (said : Result Said BadKind) → (given : Result (Option Line) BadKind) × GivesLine shards before said given
some_given d shards before (Err kind) = (Err kind, refl)
some_given d shards before (Ok Said.nothing) = (Ok None, refl)
some_given d shards before (Ok (Said.doc doc)) = (Ok (Some (line.Doc doc)), refl)
some_given d shards before (Ok (Said.tick n)) = (Ok (Some (line.Tick n)), refl)
some_given d shards before (Ok (Said.cancel n)) = (Ok (Some (line.Cancel n)), refl)
some_given d shards before (Ok (Said.query delay prio asking)) =
    let found = some_ask d asking in
    (query_behind shards before delay prio found.0, (found.0, found.1, refl))

pub one_LineBehind : GrammarDecides → (shards : ℕ) (before : List Line) (piece : Bytes) (a b : Result (Option Line) BadKind)
    → LineBehind shards before piece a → LineBehind shards before piece b → a ≡ b
one_LineBehind d shards before piece a b g h = one_given d shards before (said_behind before piece) a b g h

pub some_LineBehind : GrammarDecides → (shards : ℕ) (before : List Line) (piece : Bytes) → (given : Result (Option Line) BadKind) × LineBehind shards before piece given
some_LineBehind d shards before piece = some_given d shards before (said_behind before piece)
