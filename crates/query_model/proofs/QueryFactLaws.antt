-- Queries are what they are by their facts, and each piece says one thing.
use Rattle.std.proofs.Common.{◌≡◌, ℕ, ◌+◌, ◌*◌, ◌<◌, ◌≤◌, List, [], ◌∷◌, ◌++◌, length, Bool, true, false, cond, Option, Some, None, Result, Ok, Err, refl, sym, ap, ◌∙◌, inl, inr, subst}
use Rattle.std.specs.Prelude.{nat_lt, nat_le, codes, ◌↔◌}
use Rattle.std.specs.List.{list_all, count_by, sum_by}
use Rattle.std.specs.Str.Lines.{strip_carriage_return}
use Rattle.std.proofs.lemmas.Bool.{ltb-true, leb-true, le-leb, lt-ltb}
use Rattle.fan_base.specs.declared.doc.Doc.{Doc}
use Rattle.query_grammar.specs.declared.token.Token.{Token}
use Rattle.query_model.specs.Results.{◌>>=◌, check, first_of}
use Rattle.query_model.specs.Pieces.{Bytes, is_skipped, is_printable}
use Rattle.query_model.specs.declared.line.Line.{Line}
use Rattle.query_model.specs.declared.line.Line.TheVariants as line
use Rattle.query_model.specs.declared.line.Query.{Query}
use Rattle.query_model.specs.declared.line.Prio.{Prio}
use Rattle.query_model.specs.declared.line.Prio.TheVariants as prio
use Rattle.query_model.specs.declared.line.Ask.{Ask}
use Rattle.query_model.specs.declared.line.Ask.TheVariants as ask
use Rattle.query_model.specs.declared.keyword.Keyword.{Keyword}
use Rattle.query_model.specs.declared.keyword.Keyword.TheVariants as word
use Rattle.query_model.specs.declared.keyword.ExprAsk.{ExprAsk}
use Rattle.query_model.specs.declared.keyword.ExprAsk.TheVariants as expr
use Rattle.query_model.specs.declared.fault.BadKind.{BadKind}
use Rattle.query_model.specs.declared.fault.BadKind.TheVariants.{BadByte, MissingField, UnknownCommand}
use Rattle.query_model.specs.declared.fault.BadKind.TheVariants as bad
use Rattle.query_model.specs.declared.fault.Limit.TheVariants as limit
use Rattle.query_model.specs.Limits.{most_delay, most_ranked, most_ticks, most_queries, most_tasks}
use Rattle.query_model.specs.Numbers.{number_field}
use Rattle.query_model.specs.Keywords.{keyword_of}
use Rattle.query_model.specs.Expressions.{tokens_of}
use Rattle.query_model.specs.Lines.{Asking, Said, words_of, expr_behind, top_behind, ask_behind, query_with, prio_behind, query_from, after_behind, doc_behind, tick_behind, cancel_behind, said_by, fields_behind, line_said, said_behind, GivesAsk, query_room, query_behind, GivesLine, LineBehind, is_query, ticks_of}
use Rattle.query_model.specs.Documents.{AreWords}
use Rattle.query_model.specs.ByFacts.{IsSkipped, IsRead, fields_of, IsNumber, IsDocLine, IsTickLine, IsCancelLine, IsDelay, IsPrio, prio_name, IsTop, IsAskOf, IsQueryLine}
use Rattle.query_model.proofs.FactLaws.{go_on, checked, passed, pass, first_is, number_facts, number_reads, words_facts, words_read, keyword_is, IsAlone, alone_facts, alone_reads, IsBehindDoc, doc_facts, doc_reads, tick_facts, tick_reads}

abbrev expr_name : ExprAsk → Bytes
expr_name expr.Find = codes "find"
expr_name expr.Count = codes "count"
expr_name expr.Present = codes "exists"

-- the fields of what a query asks, before its expression is read
abbrev AsksBy : List Bytes → Asking → Type 0
AsksBy asks (Asking.of_tokens about tokens) = (texts : List Bytes) × (asks ≡ expr_name about ∷ texts) × (tokens_of texts ≡ Ok tokens)
AsksBy asks (Asking.top k words) = IsTop asks k words

expr_facts : (about : ExprAsk) (name : Bytes) (texts : List Bytes) (asking : Asking) → name ≡ expr_name about → expr_behind about texts ≡ Ok asking → AsksBy (name ∷ texts) asking
expr_facts about name texts asking is e =
    let tokens = go_on (tokens_of texts) _ asking e in
    let given : Result Asking BadKind = Ok (Asking.of_tokens about tokens.0) in
    let same_result : given ≡ Ok asking = tokens.2 in
    let same : Asking.of_tokens about tokens.0 ≡ asking = cc in
    subst (λ (x : Asking). AsksBy (name ∷ texts) x) same (texts, ap (λ (n : Bytes). n ∷ texts) is, tokens.1)

top_facts : (name : Bytes) (others : List Bytes) (asking : Asking) → name ≡ codes "top" → top_behind others ≡ Ok asking → AsksBy (name ∷ others) asking
top_facts name others asking is e =
    let k = go_on (first_of others MissingField) _ asking e in
    let n = go_on (number_field 1 most_ranked k.0.0) _ asking k.2 in
    let some = checked (nat_lt 0 (length k.0.1)) MissingField _ asking n.2 in
    let words = go_on (words_of k.0.1) _ asking some.1 in
    let given : Result Asking BadKind = Ok (Asking.top n.0 words.0) in
    let same_result : given ≡ Ok asking = words.2 in
    let same : Asking.top n.0 words.0 ≡ asking = cc in
    let within = words_facts k.0.1 words.0 words.1 in
    subst (λ (x : Asking). AsksBy (name ∷ others) x) same (record {
      field = k.0.0;
      asks_are = ap (λ (x : Bytes). x ∷ others) is ∙ ap (λ (xs : List Bytes). codes "top" ∷ xs) (first_is others MissingField k.0 k.1 ∙ ap (λ (ws : List Bytes). k.0.0 ∷ ws) within.0);
      number = number_facts 1 most_ranked k.0.0 n.0 n.1;
      some = subst (λ (ws : List Bytes). 0 < length ws) within.0 (ltb-true 0 (length k.0.1) some.0);
      are_words = within.1;
    })

ask_facts : (k : Option Keyword) (name : Bytes) (texts : List Bytes) (asking : Asking) → keyword_of name ≡ k → ask_behind k texts ≡ Ok asking → AsksBy (name ∷ texts) asking
ask_facts None name texts asking is e = absurd cc
ask_facts (Some word.Doc) name texts asking is e = absurd cc
ask_facts (Some word.Tick) name texts asking is e = absurd cc
ask_facts (Some word.Cancel) name texts asking is e = absurd cc
ask_facts (Some word.After) name texts asking is e = absurd cc
ask_facts (Some word.Lo) name texts asking is e = absurd cc
ask_facts (Some word.Mid) name texts asking is e = absurd cc
ask_facts (Some word.Hi) name texts asking is e = absurd cc
ask_facts (Some word.Find) name texts asking is e = expr_facts expr.Find name texts asking (keyword_is name word.Find is) e
ask_facts (Some word.Count) name texts asking is e = expr_facts expr.Count name texts asking (keyword_is name word.Count is) e
ask_facts (Some word.Exists) name texts asking is e = expr_facts expr.Present name texts asking (keyword_is name word.Exists is) e
ask_facts (Some word.Top) name texts asking is e = top_facts name texts asking (keyword_is name word.Top is) e

-- the fields of a query from its priority on
record IsQueryFrom (delay : Option ℕ) (all : List Bytes) (said : Said) : Type 0 where
  priority : Prio
  asking : Asking
  said_is : said ≡ Said.query delay priority asking
  names : List Bytes
  asks : List Bytes
  all_are : all ≡ names ++ asks
  prio_is : IsPrio names priority
  asks_by : AsksBy asks asking

with_facts : (delay : Option ℕ) (p : Prio) (name : Bytes) (texts : List Bytes) (said : Said) → query_with delay p (keyword_of name) texts ≡ Ok said
    → (asking : Asking) × (said ≡ Said.query delay p asking) × AsksBy (name ∷ texts) asking
with_facts delay p name texts said e =
    let asks = go_on (ask_behind (keyword_of name) texts) _ said e in
    let given : Result Said BadKind = Ok (Said.query delay p asks.0) in
    let same_result : given ≡ Ok said = asks.2 in
    let same : Said.query delay p asks.0 ≡ said = cc in
    (asks.0, sym same, ask_facts (keyword_of name) name texts asks.0 refl asks.1)

prio_facts : (delay : Option ℕ) (p : Prio) (name : Bytes) (others : List Bytes) (said : Said) → name ≡ prio_name p → prio_behind delay p others ≡ Ok said → IsQueryFrom delay (name ∷ others) said
prio_facts delay p name others said is e =
    let next = go_on (first_of others MissingField) _ said e in
    let found = with_facts delay p next.0.0 next.0.1 said next.2 in
    record {
      priority = p;
      asking = found.0;
      said_is = found.1;
      names = name ∷ [];
      asks = next.0.0 ∷ next.0.1;
      all_are = ap (λ (xs : List Bytes). name ∷ xs) (first_is others MissingField next.0 next.1);
      prio_is = inl (ap (λ (n : Bytes). n ∷ []) is);
      asks_by = found.2;
    }

mid_facts : (delay : Option ℕ) (name : Bytes) (others : List Bytes) (said : Said) → query_with delay prio.Mid (keyword_of name) others ≡ Ok said → IsQueryFrom delay (name ∷ others) said
mid_facts delay name others said e =
    let found = with_facts delay prio.Mid name others said e in
    record {
      priority = prio.Mid;
      asking = found.0;
      said_is = found.1;
      names = [];
      asks = name ∷ others;
      all_are = refl;
      prio_is = inr (refl, refl);
      asks_by = found.2;
    }

abbrev with_mid : Option ℕ → List Bytes → Said → Option Keyword → Type 0
with_mid delay others said k = query_with delay prio.Mid k others ≡ Ok said

query_facts : (k : Option Keyword) (delay : Option ℕ) (name : Bytes) (others : List Bytes) (said : Said) → keyword_of name ≡ k → query_from delay k others ≡ Ok said → IsQueryFrom delay (name ∷ others) said
query_facts None delay name others said is e = mid_facts delay name others said (subst (with_mid delay others said) (sym is) e)
query_facts (Some word.Doc) delay name others said is e = mid_facts delay name others said (subst (with_mid delay others said) (sym is) e)
query_facts (Some word.Tick) delay name others said is e = mid_facts delay name others said (subst (with_mid delay others said) (sym is) e)
query_facts (Some word.Cancel) delay name others said is e = mid_facts delay name others said (subst (with_mid delay others said) (sym is) e)
query_facts (Some word.After) delay name others said is e = mid_facts delay name others said (subst (with_mid delay others said) (sym is) e)
query_facts (Some word.Lo) delay name others said is e = prio_facts delay prio.Lo name others said (keyword_is name word.Lo is) e
query_facts (Some word.Mid) delay name others said is e = prio_facts delay prio.Mid name others said (keyword_is name word.Mid is) e
query_facts (Some word.Hi) delay name others said is e = prio_facts delay prio.Hi name others said (keyword_is name word.Hi is) e
query_facts (Some word.Find) delay name others said is e = mid_facts delay name others said (subst (with_mid delay others said) (sym is) e)
query_facts (Some word.Count) delay name others said is e = mid_facts delay name others said (subst (with_mid delay others said) (sym is) e)
query_facts (Some word.Exists) delay name others said is e = mid_facts delay name others said (subst (with_mid delay others said) (sym is) e)
query_facts (Some word.Top) delay name others said is e = mid_facts delay name others said (subst (with_mid delay others said) (sym is) e)

-- What fields say, by their facts.
data Says (before : List Line) (all : List Bytes) (said : Said) : Type 0 where
  a_doc : (doc : Doc) (others : List Bytes) → said ≡ Said.doc doc → all ≡ codes "doc" ∷ others → IsBehindDoc before others doc → Says before all said
  a_tick : (n : ℕ) (others : List Bytes) → said ≡ Said.tick n → all ≡ codes "tick" ∷ others → IsAlone 1 most_ticks others n × (sum_by ticks_of before + n ≤ most_ticks) → Says before all said
  a_cancel : (n : ℕ) (others : List Bytes) → said ≡ Said.cancel n → all ≡ codes "cancel" ∷ others → IsAlone 1 most_queries others n → Says before all said
  a_query : (delay : Option ℕ) (first rest : List Bytes) → all ≡ first ++ rest → IsDelay first delay → IsQueryFrom delay rest said → Says before all said

after_facts : (before : List Line) (name : Bytes) (others : List Bytes) (said : Said) → name ≡ codes "after" → after_behind others ≡ Ok said → Says before (name ∷ others) said
after_facts before name others said is e =
    let d = go_on (first_of others MissingField) _ said e in
    let delay = go_on (number_field 1 most_delay d.0.0) _ said d.2 in
    let next = go_on (first_of d.0.1 MissingField) _ said delay.2 in
    Says.a_query (Some delay.0) (codes "after" ∷ (d.0.0 ∷ [])) (next.0.0 ∷ next.0.1)
    (ap (λ (n : Bytes). n ∷ others) is ∙ ap (λ (xs : List Bytes). codes "after" ∷ xs) (first_is others MissingField d.0 d.1 ∙ ap (λ (xs : List Bytes). d.0.0 ∷ xs) (first_is d.0.1 MissingField next.0 next.1)))
    (d.0.0, refl, number_facts 1 most_delay d.0.0 delay.0 delay.1)
    (query_facts (keyword_of next.0.0) (Some delay.0) next.0.0 next.0.1 said refl next.2)

now_facts : (before : List Line) (k : Option Keyword) (name : Bytes) (others : List Bytes) (said : Said) → keyword_of name ≡ k → query_from None k others ≡ Ok said → Says before (name ∷ others) said
now_facts before k name others said is e = Says.a_query None [] (name ∷ others) refl refl (query_facts k None name others said is e)

abbrev doc_said : Doc → Result Said BadKind
doc_said d = Ok (Said.doc d)

abbrev tick_said : ℕ → Result Said BadKind
tick_said n = Ok (Said.tick n)

abbrev cancel_said : ℕ → Result Said BadKind
cancel_said n = Ok (Said.cancel n)

keyword_facts : (before : List Line) (k : Option Keyword) (name : Bytes) (others : List Bytes) (said : Said) → keyword_of name ≡ k → said_by before k others ≡ Ok said → Says before (name ∷ others) said
keyword_facts before (Some word.Doc) name others said is e =
    let doc = go_on (doc_behind before others) doc_said said e in
    let same_result : doc_said doc.0 ≡ Ok said = doc.2 in
    let same : said ≡ Said.doc doc.0 = cc in
    Says.a_doc doc.0 others same (ap (λ (n : Bytes). n ∷ others) (keyword_is name word.Doc is)) (doc_facts before others doc.0 doc.1)
keyword_facts before (Some word.Tick) name others said is e =
    let n = go_on (tick_behind before others) tick_said said e in
    let same_result : tick_said n.0 ≡ Ok said = n.2 in
    let same : said ≡ Said.tick n.0 = cc in
    Says.a_tick n.0 others same (ap (λ (x : Bytes). x ∷ others) (keyword_is name word.Tick is)) (tick_facts before others n.0 n.1)
keyword_facts before (Some word.Cancel) name others said is e =
    let n = go_on (cancel_behind others) cancel_said said e in
    let same_result : cancel_said n.0 ≡ Ok said = n.2 in
    let same : said ≡ Said.cancel n.0 = cc in
    Says.a_cancel n.0 others same (ap (λ (x : Bytes). x ∷ others) (keyword_is name word.Cancel is)) (alone_facts 1 most_queries others n.0 n.1)
keyword_facts before (Some word.After) name others said is e = after_facts before name others said (keyword_is name word.After is) e
keyword_facts before None name others said is e = now_facts before None name others said is e
keyword_facts before (Some word.Lo) name others said is e = now_facts before (Some word.Lo) name others said is e
keyword_facts before (Some word.Mid) name others said is e = now_facts before (Some word.Mid) name others said is e
keyword_facts before (Some word.Hi) name others said is e = now_facts before (Some word.Hi) name others said is e
keyword_facts before (Some word.Find) name others said is e = now_facts before (Some word.Find) name others said is e
keyword_facts before (Some word.Count) name others said is e = now_facts before (Some word.Count) name others said is e
keyword_facts before (Some word.Exists) name others said is e = now_facts before (Some word.Exists) name others said is e
keyword_facts before (Some word.Top) name others said is e = now_facts before (Some word.Top) name others said is e

fields_facts : (before : List Line) (all : List Bytes) (said : Said) → fields_behind before all ≡ Ok said → Says before all said
fields_facts before [] said e = absurd cc
fields_facts before (name ∷ others) said e = keyword_facts before (keyword_of name) name others said refl e

-- what a piece says
data PieceSays (before : List Line) (piece : Bytes) (said : Said) : Type 0 where
  passed_over : IsSkipped piece → said ≡ Said.nothing → PieceSays before piece said
  told : IsRead piece → Says before (fields_of piece) said → PieceSays before piece said

abbrev says_nothing : Result Said BadKind
says_nothing = Ok Said.nothing

piece_facts : (before : List Line) (piece : Bytes) (said : Said) → said_behind before piece ≡ Ok said → PieceSays before piece said
unfolding said_behind
piece_facts before piece said e = by (is_skipped (strip_carriage_return piece)) refl e
  where
    by : (b : Bool) → is_skipped (strip_carriage_return piece) ≡ b → cond b says_nothing (line_said before (strip_carriage_return piece)) ≡ Ok said → PieceSays before piece said
    by true is e = let same : said ≡ Said.nothing = cc in PieceSays.passed_over is same
    by false is e =
        let printable = checked (list_all is_printable (strip_carriage_return piece)) BadByte (λ u. fields_behind before (fields_of piece)) said e in
        PieceSays.told (record { not_skipped = is; printable = printable.0 }) (fields_facts before (fields_of piece) said printable.1)

-- the way back
piece_reads : (before : List Line) (piece : Bytes) (all : List Bytes) (said : Result Said BadKind) → IsRead piece → fields_of piece ≡ all → fields_behind before all ≡ said → said_behind before piece ≡ said
unfolding said_behind
piece_reads before piece all said read are e =
    ap (λ (b : Bool). cond b says_nothing (line_said before (strip_carriage_return piece))) read.not_skipped
    ∙ (pass (list_all is_printable (strip_carriage_return piece)) BadByte (λ u. fields_behind before (fields_of piece)) read.printable
    ∙ (ap (fields_behind before) are ∙ e))

skip_reads : (before : List Line) (piece : Bytes) → IsSkipped piece → said_behind before piece ≡ Ok Said.nothing
unfolding said_behind
skip_reads before piece is = ap (λ (b : Bool). cond b says_nothing (line_said before (strip_carriage_return piece))) is

-- an ask is read behind its name
record IsAskRead (asks : List Bytes) (asking : Asking) : Type 0 where
  name : Bytes
  texts : List Bytes
  asks_are : asks ≡ name ∷ texts
  prioritized : (delay : Option ℕ) (p : Prio) → query_with delay p (keyword_of name) texts ≡ Ok (Said.query delay p asking)
  alone : (delay : Option ℕ) → query_from delay (keyword_of name) texts ≡ Ok (Said.query delay prio.Mid asking)
  begins : (before : List Line) → said_by before (keyword_of name) texts ≡ Ok (Said.query None prio.Mid asking)

abbrev said_with : Option ℕ → Prio → Result Asking BadKind → Result Said BadKind
said_with delay p asks = asks >>= λ a. Ok (Said.query delay p a)

expr_read : (about : ExprAsk) (texts : List Bytes) (tokens : List Token) → tokens_of texts ≡ Ok tokens → expr_behind about texts ≡ Ok (Asking.of_tokens about tokens)
expr_read about texts tokens e = ap (λ (r : Result (List Token) BadKind). r >>= λ t. Ok (Asking.of_tokens about t)) e

top_read : (field : Bytes) (words : List Bytes) (k : ℕ) → IsNumber 1 most_ranked field k → 0 < length words → AreWords words → top_behind (field ∷ words) ≡ Ok (Asking.top k words)
top_read field words k number some are =
    ap (λ (r : Result ℕ BadKind). r >>= λ n. check (nat_lt 0 (length words)) MissingField >>= λ u. words_of words >>= λ ws. Ok (Asking.top n ws)) (number_reads 1 most_ranked field k number)
    ∙ (pass (nat_lt 0 (length words)) MissingField (λ u. words_of words >>= λ ws. Ok (Asking.top k ws)) (lt-ltb 0 (length words) some)
    ∙ ap (λ (r : Result (List Bytes) BadKind). r >>= λ ws. Ok (Asking.top k ws)) (words_read words are))

ask_read : (asks : List Bytes) (asking : Asking) → AsksBy asks asking → IsAskRead asks asking
ask_read asks (Asking.of_tokens expr.Find tokens) h = record {
  name = codes "find";
  texts = h.0;
  asks_are = h.1;
  prioritized = λ delay p. ap (said_with delay p) (expr_read expr.Find h.0 tokens h.2);
  alone = λ delay. ap (said_with delay prio.Mid) (expr_read expr.Find h.0 tokens h.2);
  begins = λ before. ap (said_with None prio.Mid) (expr_read expr.Find h.0 tokens h.2);
}
ask_read asks (Asking.of_tokens expr.Count tokens) h = record {
  name = codes "count";
  texts = h.0;
  asks_are = h.1;
  prioritized = λ delay p. ap (said_with delay p) (expr_read expr.Count h.0 tokens h.2);
  alone = λ delay. ap (said_with delay prio.Mid) (expr_read expr.Count h.0 tokens h.2);
  begins = λ before. ap (said_with None prio.Mid) (expr_read expr.Count h.0 tokens h.2);
}
ask_read asks (Asking.of_tokens expr.Present tokens) h = record {
  name = codes "exists";
  texts = h.0;
  asks_are = h.1;
  prioritized = λ delay p. ap (said_with delay p) (expr_read expr.Present h.0 tokens h.2);
  alone = λ delay. ap (said_with delay prio.Mid) (expr_read expr.Present h.0 tokens h.2);
  begins = λ before. ap (said_with None prio.Mid) (expr_read expr.Present h.0 tokens h.2);
}
ask_read asks (Asking.top k words) h = record {
  name = codes "top";
  texts = h.field ∷ words;
  asks_are = h.asks_are;
  prioritized = λ delay p. ap (said_with delay p) (top_read h.field words k h.number h.some h.are_words);
  alone = λ delay. ap (said_with delay prio.Mid) (top_read h.field words k h.number h.some h.are_words);
  begins = λ before. ap (said_with None prio.Mid) (top_read h.field words k h.number h.some h.are_words);
}

-- from a priority on
record IsQueryRead (delay : Option ℕ) (all : List Bytes) (p : Prio) (asking : Asking) : Type 0 where
  name : Bytes
  texts : List Bytes
  all_are : all ≡ name ∷ texts
  reads : query_from delay (keyword_of name) texts ≡ Ok (Said.query delay p asking)
  begins : (before : List Line) → delay ≡ None → said_by before (keyword_of name) texts ≡ Ok (Said.query None p asking)

named_read : (delay : Option ℕ) (asks : List Bytes) (p : Prio) (asking : Asking) → IsAskRead asks asking → IsQueryRead delay (prio_name p ∷ asks) p asking
named_read delay asks prio.Lo asking a = record {
  name = codes "lo";
  texts = asks;
  all_are = refl;
  reads = subst (λ (xs : List Bytes). prio_behind delay prio.Lo xs ≡ Ok (Said.query delay prio.Lo asking)) (sym a.asks_are) (a.prioritized delay prio.Lo);
  begins = λ before is. subst (λ (xs : List Bytes). prio_behind None prio.Lo xs ≡ Ok (Said.query None prio.Lo asking)) (sym a.asks_are) (a.prioritized None prio.Lo);
}
named_read delay asks prio.Mid asking a = record {
  name = codes "mid";
  texts = asks;
  all_are = refl;
  reads = subst (λ (xs : List Bytes). prio_behind delay prio.Mid xs ≡ Ok (Said.query delay prio.Mid asking)) (sym a.asks_are) (a.prioritized delay prio.Mid);
  begins = λ before is. subst (λ (xs : List Bytes). prio_behind None prio.Mid xs ≡ Ok (Said.query None prio.Mid asking)) (sym a.asks_are) (a.prioritized None prio.Mid);
}
named_read delay asks prio.Hi asking a = record {
  name = codes "hi";
  texts = asks;
  all_are = refl;
  reads = subst (λ (xs : List Bytes). prio_behind delay prio.Hi xs ≡ Ok (Said.query delay prio.Hi asking)) (sym a.asks_are) (a.prioritized delay prio.Hi);
  begins = λ before is. subst (λ (xs : List Bytes). prio_behind None prio.Hi xs ≡ Ok (Said.query None prio.Hi asking)) (sym a.asks_are) (a.prioritized None prio.Hi);
}

query_read : (delay : Option ℕ) (names asks : List Bytes) (p : Prio) (asking : Asking) → IsPrio names p → IsAskRead asks asking → IsQueryRead delay (names ++ asks) p asking
query_read delay names asks p asking (inl is) a = subst (λ (ns : List Bytes). IsQueryRead delay (ns ++ asks) p asking) (sym is) (named_read delay asks p asking a)
query_read delay names asks p asking (inr is) a =
    subst (λ (ns : List Bytes). IsQueryRead delay (ns ++ asks) p asking) (sym is.0) (subst (λ (q : Prio). IsQueryRead delay asks q asking) (sym is.1) (record {
      name = a.name;
      texts = a.texts;
      all_are = a.asks_are;
      reads = a.alone delay;
      begins = λ before none. a.begins before;
    }))

fields_read : (before : List Line) (delay : Option ℕ) (first rest : List Bytes) (p : Prio) (asking : Asking) → IsDelay first delay → IsQueryRead delay rest p asking
    → fields_behind before (first ++ rest) ≡ Ok (Said.query delay p asking)
fields_read before None first rest p asking is q =
    subst (λ (xs : List Bytes). fields_behind before (xs ++ rest) ≡ Ok (Said.query None p asking)) (sym is)
    (subst (λ (xs : List Bytes). fields_behind before xs ≡ Ok (Said.query None p asking)) (sym q.all_are) (q.begins before refl))
fields_read before (Some d) first rest p asking is q =
    subst (λ (xs : List Bytes). fields_behind before (xs ++ rest) ≡ Ok (Said.query (Some d) p asking)) (sym is.1)
    (ap (λ (r : Result ℕ BadKind). r >>= λ delay. first_of rest MissingField >>= λ next. query_from (Some delay) (keyword_of next.0) next.1) (number_reads 1 most_delay is.0 d is.2)
    ∙ subst (λ (xs : List Bytes). (first_of xs MissingField >>= λ next. query_from (Some d) (keyword_of next.0) next.1) ≡ Ok (Said.query (Some d) p asking)) (sym q.all_are) q.reads)

-- what is asked of an expression, by its facts
ask_is : (asks : List Bytes) (asking : Asking) (given : Ask) → AsksBy asks asking → GivesAsk asking (Ok given) → IsAskOf asks given
ask_is asks (Asking.of_tokens expr.Find tokens) given h g =
    subst (λ (a : Ask). IsAskOf asks a) (sym g.2) (record { texts = h.0; asks_are = h.1; tokens = tokens; tokens_are = h.2; expr = g.1 })
ask_is asks (Asking.of_tokens expr.Count tokens) given h g =
    subst (λ (a : Ask). IsAskOf asks a) (sym g.2) (record { texts = h.0; asks_are = h.1; tokens = tokens; tokens_are = h.2; expr = g.1 })
ask_is asks (Asking.of_tokens expr.Present tokens) given h g =
    subst (λ (a : Ask). IsAskOf asks a) (sym g.2) (record { texts = h.0; asks_are = h.1; tokens = tokens; tokens_are = h.2; expr = g.1 })
ask_is asks (Asking.top k words) given h g =
    let one : Result Ask BadKind = Ok given in
    let other : Result Ask BadKind = Ok (ask.Top k words) in
    let same_result : one ≡ other = g in
    let same : given ≡ ask.Top k words = cc in
    subst (λ (a : Ask). IsAskOf asks a) (sym same) h

ask_of_facts : (asks : List Bytes) (given : Ask) → IsAskOf asks given → (asking : Asking) × AsksBy asks asking × GivesAsk asking (Ok given)
ask_of_facts asks (ask.Find tree) h = (Asking.of_tokens expr.Find h.tokens, (h.texts, h.asks_are, h.tokens_are), (tree, h.expr, refl))
ask_of_facts asks (ask.Count tree) h = (Asking.of_tokens expr.Count h.tokens, (h.texts, h.asks_are, h.tokens_are), (tree, h.expr, refl))
ask_of_facts asks (ask.Present tree) h = (Asking.of_tokens expr.Present h.tokens, (h.texts, h.asks_are, h.tokens_are), (tree, h.expr, refl))
ask_of_facts asks (ask.Top k words) h = (Asking.top k words, h, refl)

-- what a line gives tells what it says
record IsAsked (shards : ℕ) (before : List Line) (said : Said) (query : Query) : Type 0 where
  asking : Asking
  said_is : said ≡ Said.query query.delay query.prio asking
  asks : GivesAsk asking (Ok query.ask)
  room : count_by is_query before < most_queries
  tasks : (count_by is_query before + 1) * shards ≤ most_tasks

abbrev query_line : Query → Result (Option Line) BadKind
query_line q = Ok (Some (line.Query q))

asked_by : (shards : ℕ) (before : List Line) (delay : Option ℕ) (p : Prio) (asking : Asking) (asks : Result Ask BadKind) (l : Option Line) → GivesAsk asking asks → Ok l ≡ query_behind shards before delay p asks
    → (query : Query) × (l ≡ Some (line.Query query)) × IsAsked shards before (Said.query delay p asking) query
asked_by shards before delay p asking asks l g e =
    let given = go_on asks (λ a. query_room shards before >>= λ u. query_line (record { delay = delay; prio = p; ask = a })) l (sym e) in
    let both = go_on (query_room shards before) (λ u. query_line (record { delay = delay; prio = p; ask = given.0 })) l given.2 in
    let room = checked (nat_lt (count_by is_query before) most_queries) (bad.Limit limit.Queries) (λ u. check (nat_le ((count_by is_query before + 1) * shards) most_tasks) (bad.Limit limit.Tasks)) both.0 both.1 in
    let tasks = passed (nat_le ((count_by is_query before + 1) * shards) most_tasks) (bad.Limit limit.Tasks) both.0 room.1 in
    let query : Query = record { delay = delay; prio = p; ask = given.0 } in
    let made : query_line query ≡ Ok l = both.2 in
    let same : l ≡ Some (line.Query query) = cc in (
      query,
      same,
      record {
        asking = asking;
        said_is = refl;
        asks = subst (λ (r : Result Ask BadKind). GivesAsk asking r) given.1 g;
        room = ltb-true (count_by is_query before) most_queries room.0;
        tasks = leb-true ((count_by is_query before + 1) * shards) most_tasks tasks;
      },
    )

abbrev line_is : Option Line → Result (Option Line) BadKind
line_is l = Ok l

given_none : (shards : ℕ) (before : List Line) (said : Result Said BadKind) → GivesLine shards before said (Ok None) → said ≡ Ok Said.nothing
given_none shards before (Err kind) g = absurd cc
given_none shards before (Ok Said.nothing) g = refl
given_none shards before (Ok (Said.doc d)) g = let e : line_is None ≡ line_is (Some (line.Doc d)) = g in absurd cc
given_none shards before (Ok (Said.tick n)) g = let e : line_is None ≡ line_is (Some (line.Tick n)) = g in absurd cc
given_none shards before (Ok (Said.cancel n)) g = let e : line_is None ≡ line_is (Some (line.Cancel n)) = g in absurd cc
given_none shards before (Ok (Said.query delay p asking)) g = let found = asked_by shards before delay p asking g.0 None g.1 g.2 in absurd cc

given_doc : (shards : ℕ) (before : List Line) (said : Result Said BadKind) (doc : Doc) → GivesLine shards before said (Ok (Some (line.Doc doc))) → said ≡ Ok (Said.doc doc)
given_doc shards before (Err kind) doc g = absurd cc
given_doc shards before (Ok Said.nothing) doc g = let e : line_is (Some (line.Doc doc)) ≡ line_is None = g in absurd cc
given_doc shards before (Ok (Said.doc d)) doc g = let e : line_is (Some (line.Doc doc)) ≡ line_is (Some (line.Doc d)) = g in let same : d ≡ doc = cc in ap (λ (x : Doc). doc_said x) same
given_doc shards before (Ok (Said.tick n)) doc g = let e : line_is (Some (line.Doc doc)) ≡ line_is (Some (line.Tick n)) = g in absurd cc
given_doc shards before (Ok (Said.cancel n)) doc g = let e : line_is (Some (line.Doc doc)) ≡ line_is (Some (line.Cancel n)) = g in absurd cc
given_doc shards before (Ok (Said.query delay p asking)) doc g = let found = asked_by shards before delay p asking g.0 (Some (line.Doc doc)) g.1 g.2 in absurd cc

given_tick : (shards : ℕ) (before : List Line) (said : Result Said BadKind) (n : ℕ) → GivesLine shards before said (Ok (Some (line.Tick n))) → said ≡ Ok (Said.tick n)
given_tick shards before (Err kind) n g = absurd cc
given_tick shards before (Ok Said.nothing) n g = let e : line_is (Some (line.Tick n)) ≡ line_is None = g in absurd cc
given_tick shards before (Ok (Said.doc d)) n g = let e : line_is (Some (line.Tick n)) ≡ line_is (Some (line.Doc d)) = g in absurd cc
given_tick shards before (Ok (Said.tick m)) n g = let e : line_is (Some (line.Tick n)) ≡ line_is (Some (line.Tick m)) = g in let same : m ≡ n = cc in ap (λ (x : ℕ). tick_said x) same
given_tick shards before (Ok (Said.cancel m)) n g = let e : line_is (Some (line.Tick n)) ≡ line_is (Some (line.Cancel m)) = g in absurd cc
given_tick shards before (Ok (Said.query delay p asking)) n g = let found = asked_by shards before delay p asking g.0 (Some (line.Tick n)) g.1 g.2 in absurd cc

given_cancel : (shards : ℕ) (before : List Line) (said : Result Said BadKind) (n : ℕ) → GivesLine shards before said (Ok (Some (line.Cancel n))) → said ≡ Ok (Said.cancel n)
given_cancel shards before (Err kind) n g = absurd cc
given_cancel shards before (Ok Said.nothing) n g = let e : line_is (Some (line.Cancel n)) ≡ line_is None = g in absurd cc
given_cancel shards before (Ok (Said.doc d)) n g = let e : line_is (Some (line.Cancel n)) ≡ line_is (Some (line.Doc d)) = g in absurd cc
given_cancel shards before (Ok (Said.tick m)) n g = let e : line_is (Some (line.Cancel n)) ≡ line_is (Some (line.Tick m)) = g in absurd cc
given_cancel shards before (Ok (Said.cancel m)) n g = let e : line_is (Some (line.Cancel n)) ≡ line_is (Some (line.Cancel m)) = g in let same : m ≡ n = cc in ap (λ (x : ℕ). cancel_said x) same
given_cancel shards before (Ok (Said.query delay p asking)) n g = let found = asked_by shards before delay p asking g.0 (Some (line.Cancel n)) g.1 g.2 in absurd cc

given_query : (shards : ℕ) (before : List Line) (said : Result Said BadKind) (query : Query) → GivesLine shards before said (Ok (Some (line.Query query))) → (s : Said) × (said ≡ Ok s) × IsAsked shards before s query
given_query shards before (Err kind) query g = absurd cc
given_query shards before (Ok Said.nothing) query g = let e : line_is (Some (line.Query query)) ≡ line_is None = g in absurd cc
given_query shards before (Ok (Said.doc d)) query g = let e : line_is (Some (line.Query query)) ≡ line_is (Some (line.Doc d)) = g in absurd cc
given_query shards before (Ok (Said.tick m)) query g = let e : line_is (Some (line.Query query)) ≡ line_is (Some (line.Tick m)) = g in absurd cc
given_query shards before (Ok (Said.cancel m)) query g = let e : line_is (Some (line.Query query)) ≡ line_is (Some (line.Cancel m)) = g in absurd cc
given_query shards before (Ok (Said.query delay p asking)) query g =
    let found = asked_by shards before delay p asking g.0 (Some (line.Query query)) g.1 g.2 in
    let e : Some (line.Query query) ≡ Some (line.Query found.0) = found.1 in
    let same : found.0 ≡ query = cc in
    (Said.query delay p asking, refl, subst (λ (q : Query). IsAsked shards before (Said.query delay p asking) q) same found.2)

-- The laws: no line, a document, ticks, a cancel, a query.
pub none_by_facts : (shards : ℕ) (before : List Line) (piece : Bytes) → LineBehind shards before piece (Ok None) ↔ IsSkipped piece
none_by_facts shards before piece = (
  λ g. by (piece_facts before piece Said.nothing (given_none shards before (said_behind before piece) g)),
  λ is. subst (λ (s : Result Said BadKind). GivesLine shards before s (Ok None)) (sym (skip_reads before piece is)) refl,
)
  where
    nothing_told : Says before (fields_of piece) Said.nothing → IsSkipped piece
    nothing_told (Says.a_doc doc others same are is) = absurd cc
    nothing_told (Says.a_tick n others same are is) = absurd cc
    nothing_told (Says.a_cancel n others same are is) = absurd cc
    nothing_told (Says.a_query delay first rest are is q) = let same : Said.nothing ≡ Said.query delay q.priority q.asking = q.said_is in absurd cc

    by : PieceSays before piece Said.nothing → IsSkipped piece
    by (PieceSays.passed_over is same) = is
    by (PieceSays.told read says) = nothing_told says

doc_line : (before : List Line) (piece : Bytes) (doc : Doc) → PieceSays before piece (Said.doc doc) → IsDocLine before piece doc
doc_line before piece doc (PieceSays.passed_over is same) = absurd cc
doc_line before piece doc (PieceSays.told read says) = by says
  where
    by : Says before (fields_of piece) (Said.doc doc) → IsDocLine before piece doc
    by (Says.a_doc d others same are is) =
        let e : d ≡ doc = cc in
        subst (λ (x : Doc). IsDocLine before piece x) e (record {
          read = read;
          id = is.id;
          fields_are = are ∙ ap (λ (xs : List Bytes). codes "doc" ∷ xs) is.others_are;
          number = is.number;
          words = is.words;
          own = is.own;
          room = is.room;
        })
    by (Says.a_tick n others same are is) = absurd cc
    by (Says.a_cancel n others same are is) = absurd cc
    by (Says.a_query delay first rest are is q) = let same : Said.doc doc ≡ Said.query delay q.priority q.asking = q.said_is in absurd cc

pub doc_by_facts : (shards : ℕ) (before : List Line) (piece : Bytes) (doc : Doc) → LineBehind shards before piece (Ok (Some (line.Doc doc))) ↔ IsDocLine before piece doc
doc_by_facts shards before piece doc = (
  λ g. doc_line before piece doc (piece_facts before piece (Said.doc doc) (given_doc shards before (said_behind before piece) doc g)),
  λ is. subst (λ (s : Result Said BadKind). GivesLine shards before s (Ok (Some (line.Doc doc))))
      (sym (piece_reads before piece (codes "doc" ∷ (is.id ∷ doc.words)) (doc_said doc) is.read is.fields_are
      (ap (λ (r : Result Doc BadKind). r >>= doc_said) (doc_reads before doc is.id is.number is.words is.own is.room)))) refl,
)

tick_line : (before : List Line) (piece : Bytes) (n : ℕ) → PieceSays before piece (Said.tick n) → IsTickLine before piece n
tick_line before piece n (PieceSays.passed_over is same) = absurd cc
tick_line before piece n (PieceSays.told read says) = by says
  where
    by : Says before (fields_of piece) (Said.tick n) → IsTickLine before piece n
    by (Says.a_doc d others same are is) = absurd cc
    by (Says.a_tick m others same are is) =
        let e : m ≡ n = cc in
        subst (λ (x : ℕ). IsTickLine before piece x) e (record {
          read = read;
          field = is.0.field;
          fields_are = are ∙ ap (λ (xs : List Bytes). codes "tick" ∷ xs) is.0.others_are;
          number = is.0.number;
          room = is.1;
        })
    by (Says.a_cancel m others same are is) = absurd cc
    by (Says.a_query delay first rest are is q) = let same : Said.tick n ≡ Said.query delay q.priority q.asking = q.said_is in absurd cc

pub tick_by_facts : (shards : ℕ) (before : List Line) (piece : Bytes) (n : ℕ) → LineBehind shards before piece (Ok (Some (line.Tick n))) ↔ IsTickLine before piece n
tick_by_facts shards before piece n = (
  λ g. tick_line before piece n (piece_facts before piece (Said.tick n) (given_tick shards before (said_behind before piece) n g)),
  λ is. subst (λ (s : Result Said BadKind). GivesLine shards before s (Ok (Some (line.Tick n))))
      (sym (piece_reads before piece (codes "tick" ∷ (is.field ∷ [])) (tick_said n) is.read is.fields_are
      (ap (λ (r : Result ℕ BadKind). r >>= tick_said) (tick_reads before is.field n is.number is.room)))) refl,
)

cancels : (before : List Line) (piece : Bytes) (n : ℕ) → PieceSays before piece (Said.cancel n) → IsCancelLine piece n
cancels before piece n (PieceSays.passed_over is same) = absurd cc
cancels before piece n (PieceSays.told read says) = by says
  where
    by : Says before (fields_of piece) (Said.cancel n) → IsCancelLine piece n
    by (Says.a_doc d others same are is) = absurd cc
    by (Says.a_tick m others same are is) = absurd cc
    by (Says.a_cancel m others same are is) =
        let e : m ≡ n = cc in
        subst (λ (x : ℕ). IsCancelLine piece x) e (record {
          read = read;
          field = is.field;
          fields_are = are ∙ ap (λ (xs : List Bytes). codes "cancel" ∷ xs) is.others_are;
          number = is.number;
        })
    by (Says.a_query delay first rest are is q) = let same : Said.cancel n ≡ Said.query delay q.priority q.asking = q.said_is in absurd cc

pub cancel_by_facts : (shards : ℕ) (before : List Line) (piece : Bytes) (n : ℕ) → LineBehind shards before piece (Ok (Some (line.Cancel n))) ↔ IsCancelLine piece n
cancel_by_facts shards before piece n = (
  λ g. cancels before piece n (piece_facts before piece (Said.cancel n) (given_cancel shards before (said_behind before piece) n g)),
  λ is. subst (λ (s : Result Said BadKind). GivesLine shards before s (Ok (Some (line.Cancel n))))
      (sym (piece_reads before piece (codes "cancel" ∷ (is.field ∷ [])) (cancel_said n) is.read is.fields_are
      (ap (λ (r : Result ℕ BadKind). r >>= cancel_said) (alone_reads 1 most_queries is.field n is.number)))) refl,
)

query_facts_line : (shards : ℕ) (before : List Line) (piece : Bytes) (said : Said) (query : Query) → PieceSays before piece said → IsAsked shards before said query → IsQueryLine shards before piece query
query_facts_line shards before piece said query (PieceSays.passed_over is same) a = let e : said ≡ Said.query query.delay query.prio a.asking = a.said_is in absurd cc
query_facts_line shards before piece said query (PieceSays.told read says) a = by says a.said_is
  where
    by : Says before (fields_of piece) said → said ≡ Said.query query.delay query.prio a.asking → IsQueryLine shards before piece query
    by (Says.a_doc d others same are is) e = absurd cc
    by (Says.a_tick m others same are is) e = absurd cc
    by (Says.a_cancel m others same are is) e = absurd cc
    by (Says.a_query delay first rest are is q) e =
        let other : said ≡ Said.query delay q.priority q.asking = q.said_is in
        let delays : delay ≡ query.delay = cc in
        let prios : q.priority ≡ query.prio = cc in
        let askings : q.asking ≡ a.asking = cc in
        record {
          read = read;
          delay = first;
          names = q.names;
          asks = q.asks;
          fields_are = are ∙ ap (λ (xs : List Bytes). first ++ xs) q.all_are;
          delay_is = subst (λ (d : Option ℕ). IsDelay first d) delays is;
          prio_is = subst (λ (p : Prio). IsPrio q.names p) prios q.prio_is;
          ask_is = ask_is q.asks a.asking query.ask (subst (λ (x : Asking). AsksBy q.asks x) askings q.asks_by) a.asks;
          room = a.room;
          tasks = a.tasks;
        }

pub query_by_facts : (shards : ℕ) (before : List Line) (piece : Bytes) (query : Query) → LineBehind shards before piece (Ok (Some (line.Query query))) ↔ IsQueryLine shards before piece query
query_by_facts shards before piece query = (
  λ g.
      let found = given_query shards before (said_behind before piece) query g in
      query_facts_line shards before piece found.0 query (piece_facts before piece found.0 found.1) found.2,
  λ is.
      let asked = ask_of_facts is.asks query.ask is.ask_is in
      let read = fields_read before query.delay is.delay (is.names ++ is.asks) query.prio asked.0 is.delay_is
      (query_read query.delay is.names is.asks query.prio asked.0 is.prio_is (ask_read is.asks asked.0 asked.1)) in
      let roomy : query_room shards before ≡ Ok tt =
      pass (nat_lt (count_by is_query before) most_queries) (bad.Limit limit.Queries) (λ u. check (nat_le ((count_by is_query before + 1) * shards) most_tasks) (bad.Limit limit.Tasks)) (lt-ltb (count_by is_query before) most_queries is.room)
      ∙ ap (λ b. check b (bad.Limit limit.Tasks)) (le-leb ((count_by is_query before + 1) * shards) most_tasks is.tasks) in
      subst (λ (s : Result Said BadKind). GivesLine shards before s (Ok (Some (line.Query query))))
      (sym (piece_reads before piece (is.delay ++ (is.names ++ is.asks)) (Ok (Said.query query.delay query.prio asked.0)) is.read is.fields_are read))
      (Ok query.ask, asked.2, sym (ap (λ (r : Result (Unit {0}) BadKind). r >>= λ u. query_line query) roomy)),
)
