-- What is drawn is within the limits of inputs.
use Rattle.std.proofs.Common.{refl, sym, ap, subst, ◌∙◌, ◌≡◌, ◌==◌, ◌+◌, ◌*◌, ◌/◌, ◌%◌, ◌<◌, ◌≤◌, ℕ, zero, suc, List, [], ◌∷◌, ◌++◌, All, length, take, slice_get, Option, Some, None, IfSome, Bool, true, false, arith, rules, mod-lt}
use Rattle.std.proofs.lemmas.Bool.{ne_eqb}
use Rattle.std.proofs.lemmas.Nat.{mul-le}
use Rattle.std.specs.Prelude.{if◌then◌else◌}
use Rattle.std.specs.List.{AllPass, list_any, sum_by}
use Rattle.std.proofs.lemmas.List.{append-nil}
use Rattle.std.proofs.lemmas.List.Elements.{All-append, All-cons, All-nil, filter_map-append}
use Rattle.std.proofs.lemmas.List.Sums.{count_by-le-length, sum_by-append}
use Rattle.fan_base.specs.declared.doc.Doc.{Doc}
use Rattle.fan_base.specs.Word.{is_word}
use Rattle.query_model.specs.declared.line.Ask.{Ask}
use Rattle.query_model.specs.declared.line.Line.{Line}
use Rattle.query_model.specs.declared.line.Line.TheVariants as line
use Rattle.query_model.specs.Documents.{DifferentIds, IsAsk, IsLine, IsWithinLimits, docs_of, doc_of_line, queries_of, query_of_line}
use Rattle.query_model.specs.Limits.{most_delay}
use Rattle.query_model.specs.Lines.{is_doc, ticks_of}
use Rattle.line_table.specs.Rooms.{IsRoomFor}
use Rattle.query_model.specs.Generated.{Drawn, draw, draw_ask, draw_doc, draw_docs, draw_queries, draw_query, draw_tick, draw_ticks, draw_top, draw_word, draw_words, generated_input, just, next_state}
use Rattle.query_gen.proofs.DrawnWords.{drawn_is_word}

-- a number that is drawn below m
below : (m state : ℕ) → 0 < m → (draw m state).0 < m
below m state h = mod-lt (next_state state / 8589934592) h

pub is_drawn_word : (state : ℕ) → is_word (draw_word state).0 ≡ true
is_drawn_word state = drawn_is_word (draw 500 state).0 (below 500 state (omega arith))

words_pass : (count state : ℕ) → AllPass is_word (draw_words count state).0
words_pass zero state = All-nil (λ word. is_word word ≡ true)
words_pass (suc count) state =
    All-cons (λ word. is_word word ≡ true) (draw_word state).0 (draw_words count (draw_word state).1).0 (is_drawn_word state) (words_pass count (draw_word state).1)

so_many_words : (count state : ℕ) → length (draw_words count state).0 ≡ count
so_many_words zero state = refl
so_many_words (suc count) state = ap suc (so_many_words count (draw_word state).1)

is_document : (place state : ℕ) → place < 20000 → IsLine (draw_doc place state).0
is_document place state h =
    let more = (draw 60 state).0 in
    let few : length (draw_words (1 + more) (draw 60 state).1).0 ≡ 1 + more = so_many_words (1 + more) (draw 60 state).1 in
    record {
      id = omega (arith, h);
      are_words = record { few = omega (arith, few, below 60 state (omega arith)); each = words_pass (1 + more) (draw 60 state).1 };
    }

-- a drawn document has room behind fewer lines than 20,000
pub room_for_document : (before : List Line) (place state : ℕ) → length before ≡ place → place < 20000 → IsRoomFor before (draw_doc place state).0
room_for_document before place state e h = record {
  few_words = (is_document place state h).are_words.few;
  few_documents = omega (arith, count_by-le-length is_doc before, e, h);
}

-- what is asked of documents that were drawn, with no query and no tick
record AreDocuments (place count : ℕ) (lines : List Line) : Type 0 where
  pub lines_are : All IsLine lines
  pub so_many : length (docs_of lines) ≡ count
  pub no_query : queries_of lines ≡ []
  pub no_ticks : sum_by ticks_of lines ≡ 0
  pub ids_from : (k : ℕ) (doc : Doc) → slice_get (docs_of lines) k ≡ Some doc → 3 * place + 1 ≤ doc.id
  pub ids : DifferentIds (docs_of lines)

abbrev id_in : Option Doc → ℕ
id_in None = 0
id_in (Some doc) = doc.id

ids_begin : (place : ℕ) (first : Doc) (docs : List Doc) → first.id ≡ 3 * place + 1 → ((k : ℕ) (doc : Doc) → slice_get docs k ≡ Some doc → 3 * (place + 1) + 1 ≤ doc.id)
    → (k : ℕ) (doc : Doc) → slice_get (first ∷ docs) k ≡ Some doc → 3 * place + 1 ≤ doc.id
ids_begin place first docs e h zero doc s = let same : doc.id ≡ first.id = sym (ap id_in s) in omega (arith, same, e)
ids_begin place first docs e h (suc k) doc s = omega (arith, h k doc s)

ids_differ : (place : ℕ) (first : Doc) (docs : List Doc) → first.id ≡ 3 * place + 1 → ((k : ℕ) (doc : Doc) → slice_get docs k ≡ Some doc → 3 * (place + 1) + 1 ≤ doc.id)
    → DifferentIds docs → DifferentIds (first ∷ docs)
ids_differ place first docs e h d zero doc s = refl
ids_differ place first docs e h d (suc k) doc s =
    let apart : (first.id == doc.id) ≡ false = ne_eqb first.id doc.id (λ same. omega (arith, h k doc s, e, same)) in
    rw (apart, d k doc s) refl

none_at : (A : Type 0) (doc : Doc) (k : ℕ) → slice_get [] k ≡ Some doc → A
none_at A doc k s = grind rules

none_taken : (test : Doc → Bool) (k : ℕ) → list_any test (take k []) ≡ false
none_taken test zero = refl
none_taken test (suc k) = refl

abbrev drawn_doc : ℕ → ℕ → Doc
drawn_doc place state = record { id = 3 * place + 1; words = (draw_words (1 + (draw 60 state).0) (draw 60 state).1).0 }

are_documents : (place count state : ℕ) → place + count ≤ 20000 → AreDocuments place count (draw_docs place count state).0
are_documents place zero state h = record {
  lines_are = All-nil IsLine;
  so_many = refl;
  no_query = refl;
  no_ticks = refl;
  ids_from = λ k doc s. none_at (3 * place + 1 ≤ doc.id) doc k s;
  ids = λ k doc s. none_taken (λ other. other.id == doc.id) k;
}
are_documents place (suc count) state h =
    let doc = (draw_doc place state).0 in
    let rest = (draw_docs (place + 1) count (draw_doc place state).1).0 in
    let behind = are_documents (place + 1) count (draw_doc place state).1 (omega (arith, h)) in
    record {
      lines_are = All-cons IsLine doc rest (is_document place state (omega (arith, h))) behind.lines_are;
      so_many = ap suc behind.so_many;
      no_query = behind.no_query;
      no_ticks = behind.no_ticks;
      ids_from = ids_begin place (drawn_doc place state) (docs_of rest) refl behind.ids_from;
      ids = ids_differ place (drawn_doc place state) (docs_of rest) refl behind.ids_from behind.ids;
    }

pub choose : {A : Type 0} (P : A → Type 0) (b : Bool) (x y : A) → P x → P y → P (if b then x else y)
choose P true x y p q = p
choose P false x y p q = q

-- the delay and the ask of a query are in their ranges
abbrev Asks : Option ℕ × Ask → Type 0
Asks asked = IfSome asked.0 (λ d. (1 ≤ d) × (d ≤ most_delay)) × IsAsk asked.1

abbrev AllAsk : Drawn (Option ℕ × Ask) → Type 0
AllAsk draws = (state : ℕ) → Asks (draws state).0

is_ranking : (state : ℕ) → IsAsk (draw_top state).0
is_ranking state =
    let before = (draw 10 state).1 in
    let a = (draw_word before).0 in
    let b = (draw_word (draw_word before).1).0 in
    record {
      some = omega arith;
      few = omega (arith, below 10 state (omega arith));
      some_words = omega arith;
      are_words = record {
        few = omega arith;
        each = All-cons (λ word. is_word word ≡ true) a (b ∷ []) (is_drawn_word before)
            (All-cons (λ word. is_word word ≡ true) b [] (is_drawn_word (draw_word before).1) (All-nil (λ word. is_word word ≡ true)));
      };
    }

is_asked : (number : ℕ) → AllAsk (draw_ask number)
is_asked number =
    choose AllAsk (number == 2) _ _ (λ s. (tt, tt))
    (choose AllAsk (number == 3) _ _ (λ s. (tt, tt))
    (choose AllAsk (number == 4) _ _ (λ s. (tt, tt))
    (choose AllAsk (number == 5) _ _ (λ s. (tt, tt))
    (choose AllAsk (number == 6) _ _ (λ s. (tt, is_ranking s))
    (choose AllAsk (number == 7) _ _ (λ s. ((omega arith, omega (arith, below 1000 s (omega arith))), tt)) (λ s. (tt, tt)))))))

is_query : (state : ℕ) → IsLine (draw_query state).0
is_query state =
    let asked = is_asked (draw 8 (draw 3 state).1).0 (draw 8 (draw 3 state).1).1 in
    record { delay = asked.0; ask = asked.1 }

-- what comes behind a query: no document and no query, and at most 300 ticks
record AreTicks (lines : List Line) : Type 0 where
  pub lines_are : All IsLine lines
  pub no_document : docs_of lines ≡ []
  pub no_query : queries_of lines ≡ []
  pub few : sum_by ticks_of lines ≤ 300

are_ticks : (place state : ℕ) → AreTicks (draw_ticks place state).0
are_ticks place state =
    choose (λ draws. (s : ℕ) → AreTicks (draws s).0) (place % 10 == 9) draw_tick (just [])
    (λ s. record {
      lines_are = All-cons IsLine (line.Tick (1 + (draw 300 s).0)) [] (omega arith, omega (arith, below 300 s (omega arith))) (All-nil IsLine);
      no_document = refl;
      no_query = refl;
      few = omega (arith, below 300 s (omega arith));
    })
    (λ s. record { lines_are = All-nil IsLine; no_document = refl; no_query = refl; few = omega arith })
    state

record AreQueries (count : ℕ) (lines : List Line) : Type 0 where
  pub lines_are : All IsLine lines
  pub no_document : docs_of lines ≡ []
  pub so_many : length (queries_of lines) ≡ count
  pub few_ticks : sum_by ticks_of lines ≤ 300 * count

are_queries : (place count state : ℕ) → AreQueries count (draw_queries place count state).0
are_queries place zero state = record { lines_are = All-nil IsLine; no_document = refl; so_many = refl; few_ticks = omega arith }
are_queries place (suc count) state =
    let query = (draw_query state).0 in
    let ticks = (draw_ticks place (draw_query state).1).0 in
    let after = (draw_ticks place (draw_query state).1).1 in
    let rest = (draw_queries (place + 1) count after).0 in
    let some = are_ticks place (draw_query state).1 in
    let behind = are_queries (place + 1) count after in
    let others : queries_of (ticks ++ rest) ≡ queries_of rest = filter_map-append query_of_line ticks rest ∙ ap (λ xs. xs ++ queries_of rest) some.no_query in
    record {
      lines_are = All-cons IsLine query (ticks ++ rest) (is_query state) (All-append IsLine ticks rest some.lines_are behind.lines_are);
      no_document = filter_map-append doc_of_line ticks rest ∙ (λ i. some.no_document i ++ behind.no_document i);
      so_many = ap suc (ap length others ∙ behind.so_many);
      few_ticks = omega (arith, sum_by-append ticks_of ticks rest, some.few, behind.few_ticks);
    }

pub generated_within : (seed docs queries shards : ℕ) → docs ≤ 20000 → queries ≤ 4096 → shards ≤ 64 → IsWithinLimits (generated_input seed docs queries).lines shards
unfolding generated_input
generated_within seed docs queries shards d q s =
    let first = (draw_docs 0 docs seed).0 in
    let after = (draw_docs 0 docs seed).1 in
    let behind = (draw_queries 0 queries after).0 in
    let documents = are_documents 0 docs seed (omega (arith, d)) in
    let asked = are_queries 0 queries after in
    let docs_are : docs_of (first ++ behind) ≡ docs_of first =
    filter_map-append doc_of_line first behind ∙ (ap (λ xs. docs_of first ++ xs) asked.no_document ∙ append-nil (docs_of first)) in
    let queries_are : queries_of (first ++ behind) ≡ queries_of behind = filter_map-append query_of_line first behind ∙ ap (λ xs. xs ++ queries_of behind) documents.no_query in
    record {
      lines_are = All-append IsLine first behind documents.lines_are asked.lines_are;
      ids = subst DifferentIds (sym docs_are) documents.ids;
      few_documents = omega (arith, ap length docs_are, documents.so_many, d);
      few_queries = omega (arith, ap length queries_are, asked.so_many, q);
      few_tasks = subst (λ n. n * shards ≤ 262144) (sym (ap length queries_are ∙ asked.so_many)) (mul-le queries shards 4096 64 q s);
      few_ticks = omega (arith, sum_by-append ticks_of first behind, documents.no_ticks, asked.few_ticks, q);
    }
