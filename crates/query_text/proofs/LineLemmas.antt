-- What a line gives, step by step.
use Rattle.std.proofs.Common.{◌≡◌, ℕ, ◌<◌, ◌≤◌, List, [], ◌∷◌, length, take, true, Some, ◌⊎◌, inl, inr, Result, Ok, Err, refl, sym, ap, ◌∙◌, subst, arith}
use Rattle.std.specs.Prelude.{map}
use Rattle.std.specs.Char.{to_ascii_lowercase}
use Rattle.std.specs.List.{list_all}
use Rattle.std.proofs.lemmas.Bool.{and_from, and_parts, cases_lt, eqb-true}
use Rattle.std.proofs.lemmas.List.{take_all, length-take-le}
use Rattle.query_grammar.specs.declared.token.Token.{Token}
use Rattle.query_grammar.specs.declared.fault.ExprFault.TheVariants as expr
use Rattle.query_grammar.specs.Tree.{Tree}
use Rattle.fan_base.specs.declared.doc.Doc.{Doc}
use Rattle.query_model.specs.declared.line.Line.{Line}
use Rattle.query_model.specs.declared.line.Line.TheVariants as line
use Rattle.query_model.specs.declared.line.Ask.{Ask}
use Rattle.query_model.specs.declared.keyword.ExprAsk.{ExprAsk}
use Rattle.query_model.specs.declared.fault.BadKind.{BadKind}
use Rattle.query_model.specs.declared.fault.BadKind.TheVariants.{BadByte}
use Rattle.query_model.specs.Results.{◌>>=◌, check}
use Rattle.query_model.specs.Pieces.{Bytes, fields, is_printable}
use Rattle.query_model.specs.Expressions.{GivesTree, tokens_of}
use Rattle.query_model.specs.ByFacts.{IsDocLine, IsTickLine}
use Rattle.query_model.specs.Lines as model
use Rattle.query_text.specs.declared.fault.LineFault.{LineFault}
use Rattle.query_text.specs.declared.fault.LineFault.TheVariants as fault
use Rattle.query_text.specs.Cuts.{is_small}
use Rattle.query_text.specs.Outcomes.{FailsBy, GivesBy}
use Rattle.query_text.specs.Sayings.{GivesAskBy, GivesTreeBy, first_tokens, most_kept}
use Rattle.query_text.specs.Tracks.{HasRoom}

-- a text with no capital letter is its own text in small letters, and what is said of it is printable
small_same : (text : Bytes) → list_all is_small text ≡ true → map to_ascii_lowercase text ≡ text
small_same [] small = refl
small_same (b ∷ bs) small =
    let parts = and_parts (is_small b) (list_all is_small bs) small in
    ap (λ c. c ∷ map to_ascii_lowercase bs) (eqb-true _ _ (and_parts _ _ parts.0).1) ∙ ap (λ cs. b ∷ cs) (small_same bs parts.1)

small_printable : (text : Bytes) → list_all is_small text ≡ true → list_all is_printable text ≡ true
small_printable [] small = refl
small_printable (b ∷ bs) small =
    let parts = and_parts (is_small b) (list_all is_small bs) small in
    and_from (is_printable b) (list_all is_printable bs) (and_parts _ _ parts.0).0 (small_printable bs parts.1)

pub printable_line : (before : List Line) (text lowered : Bytes) (texts : List Bytes) → list_all is_printable text ≡ true → lowered ≡ map to_ascii_lowercase text → texts ≡ fields lowered
    → model.fields_behind before texts ≡ model.line_said before text
printable_line before text lowered texts good lower is =
    ap (model.fields_behind before) (is ∙ ap fields lower)
    ∙ sym (ap (λ b. check b BadByte >>= λ u. model.fields_behind before (fields (map to_ascii_lowercase text))) good)

pub small_line : (before : List Line) (text : Bytes) (texts : List Bytes) → list_all is_small text ≡ true → texts ≡ fields text → model.fields_behind before texts ≡ model.line_said before text
small_line before text texts small is = printable_line before text text texts (small_printable text small) (sym (small_same text small)) is

-- what is asked of the expression
pub ask_ok : (asks : ExprAsk) (texts : List Bytes) (tree : Tree) (found : Ask) → GivesTreeBy (tokens_of texts) (Ok tree) → found ≡ model.ask_of asks tree → GivesAskBy (model.expr_behind asks texts) (Ok found)
ask_ok asks texts tree found t same = by (tokens_of texts) t
  where
    by : (r : Result (List Token) BadKind) → GivesTreeBy r (Ok tree) → GivesAskBy (r >>= λ tokens. Ok (model.Asking.of_tokens asks tokens)) (Ok found)
    by (Ok tokens) t = (tree, t, same)
    by (Err kind) t = absurd cc

pub ask_err : (asks : ExprAsk) (texts : List Bytes) (e : LineFault) → FailsBy e (GivesTreeBy (tokens_of texts)) → FailsBy e (GivesAskBy (model.expr_behind asks texts))
ask_err asks texts fault.Memory t = tt
ask_err asks texts (fault.Bad kind) t = by (tokens_of texts) t
  where
    by : (r : Result (List Token) BadKind) → GivesTreeBy r (Err kind) → GivesAskBy (r >>= λ tokens. Ok (model.Asking.of_tokens asks tokens)) (Err kind)
    by (Ok tokens) t = t
    by (Err other) t = let same : kind ≡ other = cc in ap (λ k. Err k) same

-- Where there are too many tokens, the first 1,025 of them are too many as well, and both give the same.
by_first : (n : ℕ) (tokens : List Token) → n ≡ most_kept → (r : Result Tree BadKind) → GivesTree (take n tokens) r → GivesTree tokens r
by_first n tokens is r g = by (cases_lt n (length tokens)) r g
  where
    short : length tokens ≤ n → (r : Result Tree BadKind) → GivesTree (take n tokens) r → GivesTree tokens r
    short few r g = subst (λ ts. GivesTree ts r) (take_all n tokens few) g

    long : n < length tokens → (r : Result Tree BadKind) → GivesTree (take n tokens) r → GivesTree tokens r
    long many (Ok tree) g = absurd (omega (arith, g.some.1, is, length-take-le n tokens (omega (arith, many))))
    long many (Err kind) (expr.TooLong, u, same) = (expr.TooLong, omega (arith, is, many), same)
    long many (Err kind) (expr.Empty, u, same) = absurd (omega (arith, u, is, length-take-le n tokens (omega (arith, many))))
    long many (Err kind) (expr.TooDeep place, u, same) = absurd (omega (arith, u.0.some.1, is, length-take-le n tokens (omega (arith, many))))
    long many (Err kind) (expr.Unexpected place, u, same) = absurd (omega (arith, u.0.some.1, is, length-take-le n tokens (omega (arith, many))))
    long many (Err kind) (expr.Unclosed, u, same) = absurd (omega (arith, u.0.some.1, is, length-take-le n tokens (omega (arith, many))))
    long many (Err kind) (expr.Memory, u, same) = absurd u

    by : (n < length tokens) ⊎ (length tokens ≤ n) → (r : Result Tree BadKind) → GivesTree (take n tokens) r → GivesTree tokens r
    by (inl less) r g = long less r g
    by (inr more) r g = short more r g

pub tree_by_first : (texts : List Bytes) (tokens : List Token) (r : Result Tree LineFault) → first_tokens texts ≡ Ok tokens → GivesBy r (GivesTree tokens) → GivesBy r (GivesTreeBy (tokens_of texts))
tree_by_first texts tokens r is g = by (tokens_of texts) r is g
  where
    by : (given : Result (List Token) BadKind) (r : Result Tree LineFault) → (given >>= λ all. Ok (take most_kept all)) ≡ Ok tokens → GivesBy r (GivesTree tokens) → GivesBy r (GivesTreeBy given)
    by (Ok all) (Ok tree) is g = let same : take most_kept all ≡ tokens = cc in by_first most_kept all refl (Ok tree) (subst (λ ts. GivesTree ts (Ok tree)) (sym same) g)
    by (Ok all) (Err (fault.Bad kind)) is g = let same : take most_kept all ≡ tokens = cc in by_first most_kept all refl (Err kind) (subst (λ ts. GivesTree ts (Err kind)) (sym same) g)
    by (Ok all) (Err fault.Memory) is g = tt
    by (Err kind) r is g = absurd cc

-- for a line that a piece stands for there is room
pub has_room : (shards : ℕ) (before : List Line) (piece : Bytes) (l : Line) → ((doc : Doc) → model.LineBehind shards before piece (Ok (Some (line.Doc doc))) → IsDocLine before piece doc)
    → ((n : ℕ) → model.LineBehind shards before piece (Ok (Some (line.Tick n))) → IsTickLine before piece n)
    → model.LineBehind shards before piece (Ok (Some l)) → HasRoom before l
has_room shards before piece (line.Doc doc) docs facts is = let doc_is = docs doc is in record { few_words = doc_is.words.few; few_documents = doc_is.room }
has_room shards before piece (line.Query query) docs facts is = tt
has_room shards before piece (line.Tick n) docs facts is = (facts n is).room
has_room shards before piece (line.Cancel n) docs facts is = tt
