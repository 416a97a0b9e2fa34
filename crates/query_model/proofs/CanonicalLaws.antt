-- The canonical text of an input is read as that input.
use Rattle.std.proofs.Common.{◌≡◌, ℕ, ◌+◌, ◌*◌, ◌<◌, ◌≤◌, List, [], ◌∷◌, ◌++◌, length, true, false, Option, Some, None, Ok, refl, sym, ap, ◌∙◌, inl, inr, subst, arith, eqb, append_assoc, append-nil, length-append}
use Rattle.std.specs.Prelude.{map, codes, All, IfSome}
use Rattle.std.specs.List.{list_all, list_any, count_by, sum_by, join_with_byte, flat_map, AllByRecursion}
use Rattle.std.specs.Option.{option_to_list}
use Rattle.std.specs.Char.{to_ascii_lowercase}
use Rattle.std.specs.Fmt.{decimal}
use Rattle.std.proofs.lemmas.Bool.{and_parts}
use Rattle.std.proofs.lemmas.Nat.{mul-le}
use Rattle.std.proofs.lemmas.List.Elements.{All-nil, All-push, filter_map-append, recursion_from_All}
use Rattle.std.proofs.lemmas.List.Sums.{list_all-from_AllPass, sum_by-append, sum_by-cons}
use Rattle.std.proofs.Math.Seq.{take-append_seam}
use Rattle.fan_base.specs.Word.{is_word}
use Rattle.fan_base.specs.declared.doc.Doc.{Doc}
use Rattle.fan_base.specs.declared.word.Word.{Word}
use Rattle.query_grammar.specs.declared.token.Token.{Token}
use Rattle.query_grammar.specs.Tree.{Tree}
use Rattle.query_model.specs.Pieces.{Bytes, line_feed, pieces, fields, is_printable, is_skipped}
use Rattle.query_model.specs.declared.line.Ask.{Ask}
use Rattle.query_model.specs.declared.line.Ask.TheVariants as ask
use Rattle.query_model.specs.declared.line.Input.{Input}
use Rattle.query_model.specs.declared.line.Line.{Line}
use Rattle.query_model.specs.declared.line.Line.TheVariants as line
use Rattle.query_model.specs.declared.line.Prio.{Prio}
use Rattle.query_model.specs.declared.line.Prio.TheVariants as prio
use Rattle.query_model.specs.declared.line.Query.{Query}
use Rattle.query_model.specs.Limits.{most_id, most_ticks, most_queries, most_delay, most_documents, most_tasks}
use Rattle.query_model.specs.Lines.{LineBehind, is_doc, is_query, ticks_of, has_id}
use Rattle.query_model.specs.Reading.{Accepts, StandFor, kept}
use Rattle.query_model.specs.Documents.{AreWords, DifferentIds, IsAsk, IsDocument, IsLine, IsQuery, IsWithinLimits, doc_of_line, docs_of, queries_of, query_of_line}
use Rattle.query_model.specs.ByFacts.{fields_of, IsRead, IsDelay, IsPrio, IsExpr, IsAskOf}
use Rattle.query_grammar.specs.Canonical.{canonical_tokens, KeepsCanonical}
use Rattle.query_model.specs.Canonical.{in_brackets, as_fact, as_both, expr_text, delay_fields, prio_fields, ask_fields, line_fields, line_text, canonical_text}
use Rattle.query_model.specs.Written.{AsksExpression, CanBeRead, HasExpression, HasWords, IsExpression}
use Rattle.query_model.proofs.Building.{Each, stands}
use Rattle.query_model.proofs.ListFacts.{slice_get-append_seam}
use Rattle.query_model.proofs.ListLaws.{all-append}
use Rattle.query_model.proofs.LimitLaws.{any-docs_of, is_within_limits, length-docs_of, length-queries_of}
use Rattle.query_model.proofs.QueryFactLaws.{doc_by_facts, tick_by_facts, cancel_by_facts, query_by_facts}
use Rattle.query_model.proofs.ReadingLaws.{Reads, reads_from_Accepts}
use Rattle.query_model.proofs.TextFacts.{is_plain, is_field, is_text_byte, list_all-join, plain-printable, plain-lower, plain-strip, pieces-line, AllFields, fields-join_with, fields-join_all, field-plain, plain-join_with, field-word, is_written, written_number}
use Rattle.query_model.proofs.CanonicalTokens.{words_from_tokens, read_tokens, IsGood, text_is_read}

-- The text has these fields, and is a line of plain bytes that isn't skipped.
record IsCanonical (text : Bytes) (fs : List Bytes) : Type 0 where
  plain : is_plain text ≡ true
  told : is_skipped text ≡ false
  fields_are : fields text ≡ fs

is_read : (text : Bytes) (fs : List Bytes) → IsCanonical text fs → IsRead text
is_read text fs c = record {
  not_skipped = ap is_skipped (plain-strip text c.plain) ∙ c.told;
  printable = ap (list_all is_printable) (plain-strip text c.plain) ∙ plain-printable text c.plain;
}

has_fields : (text : Bytes) (fs : List Bytes) → IsCanonical text fs → fields_of text ≡ fs
has_fields text fs c = ap (λ (t : Bytes). fields (map to_ascii_lowercase t)) (plain-strip text c.plain) ∙ (ap fields (plain-lower text c.plain) ∙ c.fields_are)

all_plain : (fs : List Bytes) → AllFields fs → AllByRecursion (λ f. is_plain f ≡ true) fs
all_plain [] h = tt
all_plain (f ∷ fs) h = (field-plain f h.0, all_plain fs h.1)

-- a line of fields alone
of_fields : (fs : List Bytes) → AllFields fs → is_skipped (join_with_byte 32 fs) ≡ false → IsCanonical (join_with_byte 32 fs) fs
of_fields fs h told = record { plain = plain-join_with fs (all_plain fs h); told = told; fields_are = fields-join_all fs h }

word_fields : (words : List Word) → list_all is_word words ≡ true → AllFields words
word_fields [] h = tt
word_fields (w ∷ ws) h = let parts = and_parts (is_word w) (list_all is_word ws) h in (field-word w parts.0, word_fields ws parts.1)

fields_of_words : (words : List Word) → AreWords words → AllFields words
fields_of_words words are = word_fields words (list_all-from_AllPass is_word words are.each)

doc_written : (shards : ℕ) (before : List Line) (doc : Doc) → IsDocument doc → list_any (has_id doc.id) before ≡ false → count_by is_doc before < most_documents
    → LineBehind shards before (line_text (line.Doc doc)) (Ok (Some (line.Doc doc)))
doc_written shards before doc is own room =
    let written = is_written doc.id is.id in
    let c = of_fields (line_fields (line.Doc doc)) (refl, (written.field, fields_of_words doc.words is.are_words)) refl in
    (doc_by_facts shards before (line_text (line.Doc doc)) doc).1 (record {
      read = is_read (line_text (line.Doc doc)) (line_fields (line.Doc doc)) c;
      id = decimal doc.id;
      fields_are = has_fields (line_text (line.Doc doc)) (line_fields (line.Doc doc)) c;
      number = written_number 0 most_id doc.id (omega arith) is.id (omega arith);
      words = is.are_words;
      own = own;
      room = room;
    })

tick_written : (shards : ℕ) (before : List Line) (n : ℕ) → 1 ≤ n → n ≤ most_ticks → sum_by ticks_of before + n ≤ most_ticks → LineBehind shards before (line_text (line.Tick n)) (Ok (Some (line.Tick n)))
tick_written shards before n above below room =
    let written = is_written n (omega (arith, below)) in
    let c = of_fields (line_fields (line.Tick n)) (refl, (written.field, tt)) refl in
    (tick_by_facts shards before (line_text (line.Tick n)) n).1 (record {
      read = is_read (line_text (line.Tick n)) (line_fields (line.Tick n)) c;
      field = decimal n;
      fields_are = has_fields (line_text (line.Tick n)) (line_fields (line.Tick n)) c;
      number = written_number 1 most_ticks n above below (omega arith);
      room = room;
    })

cancel_written : (shards : ℕ) (before : List Line) (n : ℕ) → 1 ≤ n → n ≤ most_queries → LineBehind shards before (line_text (line.Cancel n)) (Ok (Some (line.Cancel n)))
cancel_written shards before n above below =
    let written = is_written n (omega (arith, below)) in
    let c = of_fields (line_fields (line.Cancel n)) (refl, (written.field, tt)) refl in
    (cancel_by_facts shards before (line_text (line.Cancel n)) n).1 (record {
      read = is_read (line_text (line.Cancel n)) (line_fields (line.Cancel n)) c;
      field = decimal n;
      fields_are = has_fields (line_text (line.Cancel n)) (line_fields (line.Cancel n)) c;
      number = written_number 1 most_queries n above below (omega arith);
    })

-- the text of an expression is plain
brackets_plain : (text : Bytes) → is_plain text ≡ true → is_plain (in_brackets text) ≡ true
brackets_plain text h = list_all-join is_text_byte (codes "(") (text ++ codes ")") refl (list_all-join is_text_byte text (codes ")") h refl)

fact_plain : (e : Tree) (text : Bytes) → is_plain text ≡ true → is_plain (as_fact e text) ≡ true
fact_plain (Tree.word w) text h = h
fact_plain (Tree.not e) text h = h
fact_plain (Tree.both a b) text h = brackets_plain text h
fact_plain (Tree.either a b) text h = brackets_plain text h

both_plain : (e : Tree) (text : Bytes) → is_plain text ≡ true → is_plain (as_both e text) ≡ true
both_plain (Tree.word w) text h = h
both_plain (Tree.not e) text h = h
both_plain (Tree.both a b) text h = h
both_plain (Tree.either a b) text h = brackets_plain text h

expr_plain : (e : Tree) → HasWords e → is_plain (expr_text e) ≡ true
expr_plain (Tree.word w) h = field-plain w (field-word w h)
expr_plain (Tree.not e) h = list_all-join is_text_byte (codes "!") (as_fact e (expr_text e)) refl (fact_plain e (expr_text e) (expr_plain e h))
expr_plain (Tree.both a b) h =
    list_all-join is_text_byte (as_both a (expr_text a)) (codes " " ++ as_fact b (expr_text b)) (both_plain a (expr_text a) (expr_plain a h.0))
    (list_all-join is_text_byte (codes " ") (as_fact b (expr_text b)) refl (fact_plain b (expr_text b) (expr_plain b h.1)))
expr_plain (Tree.either a b) h =
    list_all-join is_text_byte (expr_text a) (codes " | " ++ as_both b (expr_text b)) (expr_plain a h.0)
    (list_all-join is_text_byte (codes " | ") (as_both b (expr_text b)) refl (both_plain b (expr_text b) (expr_plain b h.1)))

-- a delay is in its range
abbrev IsDelayed : Option ℕ → Type 0
IsDelayed delay = IfSome delay (λ d. (1 ≤ d) × (d ≤ most_delay))

-- a query, by its parts
abbrev query_fields : Option ℕ → Prio → List Bytes → List Bytes
query_fields delay p asks = delay_fields delay ++ (prio_fields p ++ asks)

told_by : (delay : Option ℕ) (p : Prio) (name next : Bytes) (rest : List Bytes) → is_skipped (join_with_byte 32 (name ∷ (next ∷ rest))) ≡ false → is_skipped (join_with_byte 32 (query_fields delay p (name ∷ (next ∷ rest)))) ≡ false
told_by (Some d) prio.Lo name next rest h = refl
told_by (Some d) prio.Mid name next rest h = refl
told_by (Some d) prio.Hi name next rest h = refl
told_by None prio.Lo name next rest h = refl
told_by None prio.Mid name next rest h = h
told_by None prio.Hi name next rest h = refl

all_append : (xs ys : List Bytes) → AllFields xs → AllFields ys → AllFields (xs ++ ys)
all_append [] ys h g = g
all_append (x ∷ xs) ys h g = (h.0, all_append xs ys h.1 g)

delay_all : (delay : Option ℕ) → IsDelayed delay → AllFields (delay_fields delay)
delay_all None h = tt
delay_all (Some d) h = (refl, ((is_written d h.1).field, tt))

delay_is : (delay : Option ℕ) → IsDelayed delay → IsDelay (delay_fields delay) delay
delay_is None h = refl
delay_is (Some d) h = (decimal d, refl, written_number 1 most_delay d h.0 h.1 (omega arith))

prio_all : (p : Prio) → AllFields (prio_fields p)
prio_all prio.Lo = (refl, tt)
prio_all prio.Mid = tt
prio_all prio.Hi = (refl, tt)

prio_is : (p : Prio) → IsPrio (prio_fields p) p
prio_is prio.Lo = inl refl
prio_is prio.Mid = inr (refl, refl)
prio_is prio.Hi = inl refl

-- what an ask is written as, and read as again
record IsAskAgain (delay : Option ℕ) (p : Prio) (given : Ask) : Type 0 where
  asks : List Bytes
  canonical : IsCanonical (join_with_byte 32 (query_fields delay p (ask_fields given))) (query_fields delay p asks)
  ask_is : IsAskOf asks given

expr_again : (delay : Option ℕ) (p : Prio) (name : Bytes) (tree : Tree) → IsDelayed delay → is_field name ≡ true
    → is_skipped (join_with_byte 32 (name ∷ (expr_text tree ∷ []))) ≡ false → IsExpression tree
    → IsCanonical (join_with_byte 32 (query_fields delay p (name ∷ (expr_text tree ∷ [])))) (query_fields delay p (name ∷ fields (expr_text tree))) × IsExpr name (name ∷ fields (expr_text tree)) tree
expr_again delay p name tree d named told is =
    let all = all_append (delay_fields delay) (prio_fields p ++ (name ∷ [])) (delay_all delay d) (all_append (prio_fields p) (name ∷ []) (prio_all p) (named, tt)) in
    let regroup : (last : List Bytes) → query_fields delay p (name ∷ last) ≡ (delay_fields delay ++ (prio_fields p ++ (name ∷ []))) ++ last =
    λ last. ap (λ (l : List Bytes). delay_fields delay ++ l) (sym (append_assoc (prio_fields p) (name ∷ []) last)) ∙ sym (append_assoc (delay_fields delay) (prio_fields p ++ (name ∷ [])) last) in (
      record {
        plain = plain-join_with (query_fields delay p (name ∷ (expr_text tree ∷ [])))
            (all-append (λ f. is_plain f ≡ true) (delay_fields delay) (prio_fields p ++ (name ∷ (expr_text tree ∷ []))) (all_plain (delay_fields delay) (delay_all delay d))
            (all-append (λ f. is_plain f ≡ true) (prio_fields p) (name ∷ (expr_text tree ∷ [])) (all_plain (prio_fields p) (prio_all p)) (field-plain name named, (expr_plain tree is.words, tt))));
        told = told_by delay p name (expr_text tree) [] told;
        fields_are = ap (λ (fs : List Bytes). fields (join_with_byte 32 fs)) (regroup (expr_text tree ∷ []))
            ∙ (fields-join_with (delay_fields delay ++ (prio_fields p ++ (name ∷ []))) (expr_text tree) all ∙ sym (regroup (fields (expr_text tree))));
      },
      record { texts = fields (expr_text tree); asks_are = refl; tokens = canonical_tokens tree; tokens_are = text_is_read tree is.words; expr = is.accepted },
    )

ask_again : (delay : Option ℕ) (p : Prio) (given : Ask) → IsDelayed delay → IsAsk given → AsksExpression given → IsAskAgain delay p given
ask_again delay p (ask.Find tree) d is e =
    let made = expr_again delay p (codes "find") tree d refl refl e in record { asks = codes "find" ∷ fields (expr_text tree); canonical = made.0; ask_is = made.1 }
ask_again delay p (ask.Count tree) d is e =
    let made = expr_again delay p (codes "count") tree d refl refl e in record { asks = codes "count" ∷ fields (expr_text tree); canonical = made.0; ask_is = made.1 }
ask_again delay p (ask.Present tree) d is e =
    let made = expr_again delay p (codes "exists") tree d refl refl e in record { asks = codes "exists" ∷ fields (expr_text tree); canonical = made.0; ask_is = made.1 }
ask_again delay p (ask.Top k words) d is e =
    let below : k ≤ 100 = is.few in
    let written = is_written k (omega arith) in
    record {
      asks = codes "top" ∷ (decimal k ∷ words);
      canonical = of_fields (query_fields delay p (codes "top" ∷ (decimal k ∷ words)))
          (all_append (delay_fields delay) (prio_fields p ++ (codes "top" ∷ (decimal k ∷ words))) (delay_all delay d)
          (all_append (prio_fields p) (codes "top" ∷ (decimal k ∷ words)) (prio_all p) (refl, (written.field, fields_of_words words is.are_words))))
          (told_by delay p (codes "top") (decimal k) words refl);
      ask_is = record { field = decimal k; asks_are = refl; number = written_number 1 100 k is.some is.few (omega arith); some = is.some_words; are_words = is.are_words };
    }

query_written : (shards : ℕ) (before : List Line) (query : Query) → IsQuery query → AsksExpression query.ask → count_by is_query before < most_queries
    → (count_by is_query before + 1) * shards ≤ most_tasks → LineBehind shards before (line_text (line.Query query)) (Ok (Some (line.Query query)))
query_written shards before query is e room tasks =
    let again = ask_again query.delay query.prio query.ask is.delay is.ask e in
    (query_by_facts shards before (line_text (line.Query query)) query).1 (record {
      read = is_read (line_text (line.Query query)) (query_fields query.delay query.prio again.asks) again.canonical;
      delay = delay_fields query.delay;
      names = prio_fields query.prio;
      asks = again.asks;
      fields_are = has_fields (line_text (line.Query query)) (query_fields query.delay query.prio again.asks) again.canonical;
      delay_is = delay_is query.delay is.delay;
      prio_is = prio_is query.prio;
      ask_is = again.ask_is;
      room = room;
      tasks = tasks;
    })

-- the lines behind others, all of which are within the limits
abbrev Within : ℕ → List Line → Line → List Line → Type 0
Within shards before l more = IsWithinLimits (before ++ l ∷ more) shards

doc_is_own : (shards : ℕ) (before more : List Line) (doc : Doc) → Within shards before (line.Doc doc) more → list_any (has_id doc.id) before ≡ false
doc_is_own shards before more doc w =
    let docs : docs_of (before ++ line.Doc doc ∷ more) ≡ docs_of before ++ doc ∷ docs_of more = filter_map-append doc_of_line before (line.Doc doc ∷ more) in
    let ids = subst DifferentIds docs w.ids in
    let there = slice_get-append_seam (docs_of before) doc (docs_of more) (length (docs_of before)) refl in
    sym (any-docs_of doc.id before)
    ∙ (ap (λ (ds : List Doc). list_any (λ other. eqb other.id doc.id) ds) (sym (take-append_seam (docs_of before) (doc ∷ docs_of more)))
    ∙ ids (length (docs_of before)) doc there)

doc_has_room : (shards : ℕ) (before more : List Line) (doc : Doc) → Within shards before (line.Doc doc) more → count_by is_doc before < most_documents
doc_has_room shards before more doc w =
    let docs : docs_of (before ++ line.Doc doc ∷ more) ≡ docs_of before ++ doc ∷ docs_of more = filter_map-append doc_of_line before (line.Doc doc ∷ more) in
    omega (arith, ap length docs, length-append (docs_of before) (doc ∷ docs_of more), length-docs_of before, w.few_documents)

query_has_room : (shards : ℕ) (before more : List Line) (query : Query) → Within shards before (line.Query query) more
    → (count_by is_query before < most_queries) × ((count_by is_query before + 1) * shards ≤ most_tasks)
query_has_room shards before more query w =
    let queries : queries_of (before ++ line.Query query ∷ more) ≡ queries_of before ++ query ∷ queries_of more = filter_map-append query_of_line before (line.Query query ∷ more) in
    let fewer : count_by is_query before + 1 ≤ length (queries_of (before ++ line.Query query ∷ more)) =
    omega (arith, ap length queries, length-append (queries_of before) (query ∷ queries_of more), length-queries_of before) in (
      omega (arith, fewer, w.few_queries),
      omega (arith, mul-le (count_by is_query before + 1) shards (length (queries_of (before ++ line.Query query ∷ more))) shards fewer (omega arith), w.few_tasks),
    )

tick_has_room : (shards : ℕ) (before more : List Line) (n : ℕ) → Within shards before (line.Tick n) more → sum_by ticks_of before + n ≤ most_ticks
tick_has_room shards before more n w = omega (arith, sum_by-append ticks_of before (line.Tick n ∷ more), sum_by-cons ticks_of (line.Tick n) more, w.few_ticks)

-- a line is read of its text
written : (shards : ℕ) (before more : List Line) (l : Line) → IsLine l → HasExpression l → Within shards before l more → LineBehind shards before (line_text l) (Ok (Some l))
written shards before more (line.Doc doc) is e w = doc_written shards before doc is (doc_is_own shards before more doc w) (doc_has_room shards before more doc w)
written shards before more (line.Query query) is e w = let room = query_has_room shards before more query w in query_written shards before query is e room.0 room.1
written shards before more (line.Tick n) is e w = tick_written shards before n is.0 is.1 (tick_has_room shards before more n w)
written shards before more (line.Cancel n) is e w = cancel_written shards before n is.0 is.1

text_plain : (l : Line) → IsLine l → HasExpression l → is_plain (line_text l) ≡ true
text_plain (line.Doc doc) is e = plain-join_with (line_fields (line.Doc doc)) (all_plain (line_fields (line.Doc doc)) (refl, ((is_written doc.id is.id).field, fields_of_words doc.words is.are_words)))
text_plain (line.Query query) is e = (ask_again query.delay query.prio query.ask is.delay is.ask e).canonical.plain
text_plain (line.Tick n) is e =
    let below : n ≤ 10000000 = is.1 in
    plain-join_with (line_fields (line.Tick n)) (all_plain (line_fields (line.Tick n)) (refl, ((is_written n (omega arith)).field, tt)))
text_plain (line.Cancel n) is e =
    let below : n ≤ 50000 = is.1 in
    plain-join_with (line_fields (line.Cancel n)) (all_plain (line_fields (line.Cancel n)) (refl, ((is_written n (omega arith)).field, tt)))

all_written : (shards : ℕ) (before more : List Line) → AllByRecursion IsLine more → AllByRecursion HasExpression more → IsWithinLimits (before ++ more) shards
    → Each shards before (map line_text more) (map (λ l. Some l) more)
all_written shards before [] are have w = tt
all_written shards before (l ∷ more) are have w = (
  written shards before more l are.0 have.0 w,
  all_written shards (before ++ l ∷ []) more are.1 have.1 (subst (λ (ls : List Line). IsWithinLimits ls shards) (sym (append_assoc before (l ∷ []) more)) w),
)

-- the canonical text is cut into the texts of the lines
cut_again : (more : List Line) → AllByRecursion IsLine more → AllByRecursion HasExpression more → pieces (flat_map (λ l. line_text l ++ line_feed ∷ []) more) ≡ map line_text more
unfolding pieces
cut_again [] are have = refl
cut_again (l ∷ more) are have =
    ap pieces (append_assoc (line_text l) (line_feed ∷ []) (flat_map (λ x. line_text x ++ line_feed ∷ []) more))
    ∙ (pieces-line (line_text l) (flat_map (λ x. line_text x ++ line_feed ∷ []) more) (text_plain l are.0 have.0)
    ∙ ap (λ (ps : List Bytes). line_text l ∷ ps) (cut_again more are.1 have.1))

kept_all : (ls : List Line) → kept (map (λ l. Some l) ls) ≡ ls
kept_all [] = refl
kept_all (l ∷ ls) = ap (λ (xs : List Line). l ∷ xs) (kept_all ls)

pub canonical_is_read : (shards : ℕ) (input : Input) → CanBeRead shards input → Accepts (canonical_text input) shards input
unfolding canonical_text
canonical_is_read shards input can =
    let are = recursion_from_All IsLine input.lines can.limits.lines_are in
    let have = recursion_from_All HasExpression input.lines can.expressions in
    record {
      marks = map (λ l. Some l) input.lines;
      stand = subst (λ (ps : List Bytes). StandFor shards ps (map (λ l. Some l) input.lines)) (sym (cut_again input.lines are have))
          (stands shards (map line_text input.lines) (map (λ l. Some l) input.lines) (all_written shards [] input.lines are have can.limits));
      lines = sym (kept_all input.lines);
    }

-- the expressions of what is read
tree_words : (name : Bytes) (asks : List Bytes) (tree : Tree) → IsExpr name asks tree → HasWords tree
tree_words name asks tree is =
    let good = read_tokens is.texts is.tokens is.tokens_are in
    let p = is.expr.reads in
    subst HasWords p.2 (words_from_tokens p.0 (subst (λ (ts : List Token). AllByRecursion IsGood ts) (sym p.1) good))

expression : KeepsCanonical → (name : Bytes) (asks : List Bytes) (tree : Tree) → IsExpr name asks tree → IsExpression tree
expression keeps name asks tree is = record { words = tree_words name asks tree is; accepted = keeps is.tokens tree is.expr }

asks_expression : KeepsCanonical → (asks : List Bytes) (given : Ask) → IsAskOf asks given → AsksExpression given
asks_expression keeps asks (ask.Find tree) is = expression keeps (codes "find") asks tree is
asks_expression keeps asks (ask.Count tree) is = expression keeps (codes "count") asks tree is
asks_expression keeps asks (ask.Present tree) is = expression keeps (codes "exists") asks tree is
asks_expression keeps asks (ask.Top k words) is = tt

has_expression : KeepsCanonical → (shards : ℕ) (before : List Line) (piece : Bytes) (l : Line) → LineBehind shards before piece (Ok (Some l)) → HasExpression l
has_expression keeps shards before piece (line.Doc doc) h = tt
has_expression keeps shards before piece (line.Query query) h = let is = (query_by_facts shards before piece query).0 h in asks_expression keeps is.asks query.ask is.ask_is
has_expression keeps shards before piece (line.Tick n) h = tt
has_expression keeps shards before piece (line.Cancel n) h = tt

have_expressions : KeepsCanonical → (shards number : ℕ) (before : List Line) (ps : List Bytes) (lines : List Line) → All HasExpression before → Reads shards number before ps (Ok lines) → All HasExpression lines
have_expressions keeps shards number before [] lines have r = let same : lines ≡ before = cc in subst (All HasExpression) (sym same) have
have_expressions keeps shards number before (piece ∷ ps) lines have (inl m) = have_expressions keeps shards (number + 1) (before ++ option_to_list m.0) ps lines (by m.0 m.1) m.2
  where
    by : (mark : Option Line) → LineBehind shards before piece (Ok mark) → All HasExpression (before ++ option_to_list mark)
    by None is = subst (All HasExpression) (sym (append-nil before)) have
    by (Some l) is = All-push HasExpression before l have (has_expression keeps shards before piece l is)
have_expressions keeps shards number before (piece ∷ ps) lines have (inr k) = absurd cc

pub can_be_read : KeepsCanonical → (bytes : Bytes) (shards : ℕ) (input : Input) → Accepts bytes shards input → CanBeRead shards input
can_be_read keeps bytes shards input a = record {
  limits = is_within_limits bytes shards input a;
  expressions = subst (All HasExpression) (sym a.lines)
      (have_expressions keeps shards 1 [] (pieces bytes) (kept a.marks) (All-nil HasExpression) (reads_from_Accepts shards (pieces bytes) a.marks a.stand));
}

pub canonical_accepted : KeepsCanonical → (bytes : Bytes) (shards : ℕ) (input : Input) → Accepts bytes shards input → Accepts (canonical_text input) shards input
canonical_accepted keeps bytes shards input a = canonical_is_read shards input (can_be_read keeps bytes shards input a)
