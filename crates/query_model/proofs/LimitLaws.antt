-- What is accepted is within the limits.
use Rattle.std.proofs.Common.{◌≡◌, ℕ, ◌+◌, ◌*◌, ◌<◌, ◌≤◌, List, [], ◌∷◌, ◌++◌, length, take, false, cond, Option, Some, None, Ok, refl, sym, ap, ◌∙◌, arith, inl, inr, subst, eqb, ◌||◌, append-nil, length-append}
use Rattle.std.specs.Prelude.{slice_get, IfSome}
use Rattle.std.specs.List.{list_any, count_by, sum_by}
use Rattle.std.specs.Option.{option_to_list}
use Rattle.std.proofs.lemmas.Option.{slice_get_within}
use Rattle.std.proofs.lemmas.Bool.{cases_lt}
use Rattle.std.proofs.lemmas.List.{take-append-le}
use Rattle.std.proofs.Math.Seq.{take-append_seam}
use Rattle.std.proofs.lemmas.List.Sums.{sum_by-cons, sum_by_push}
use Rattle.std.proofs.lemmas.List.Elements.{All-nil, All-push}
use Rattle.fan_base.specs.declared.doc.Doc.{Doc}
use Rattle.query_model.specs.Pieces.{Bytes, pieces}
use Rattle.query_model.specs.declared.line.Line.{Line}
use Rattle.query_model.specs.declared.line.Line.TheVariants as line
use Rattle.query_model.specs.declared.line.Input.{Input}
use Rattle.query_model.specs.declared.line.Query.{Query}
use Rattle.query_model.specs.declared.line.Ask.{Ask}
use Rattle.query_model.specs.declared.line.Ask.TheVariants as ask
use Rattle.query_model.specs.Limits.{most_documents, most_queries, most_tasks, most_ticks, most_delay}
use Rattle.query_model.specs.Lines.{is_doc, is_query, ticks_of, has_id, LineBehind}
use Rattle.query_model.specs.Reading.{Accepts, kept}
use Rattle.query_model.specs.Documents.{doc_of_line, docs_of, query_of_line, queries_of, DifferentIds, IsAsk, IsLine, IsWithinLimits}
use Rattle.query_model.specs.ByFacts.{IsDelay, IsAskOf, IsDocLine, IsQueryLine}
use Rattle.query_model.proofs.ListFacts.{slice_get-append_left, slice_get-append_seam, filter_map-push}
use Rattle.query_model.proofs.ReadingLaws.{Reads, reads_from_Accepts}
use Rattle.query_model.proofs.QueryFactLaws.{doc_by_facts, tick_by_facts, cancel_by_facts, query_by_facts}

-- the counts of lines are the numbers of documents and queries
pub length-docs_of : (lines : List Line) → length (docs_of lines) ≡ count_by is_doc lines
length-docs_of [] = refl
length-docs_of (line.Doc d ∷ ls) = omega (arith, length-docs_of ls, sum_by-cons (λ l. cond (is_doc l) 1 0) (line.Doc d) ls)
length-docs_of (line.Query q ∷ ls) = omega (arith, length-docs_of ls, sum_by-cons (λ l. cond (is_doc l) 1 0) (line.Query q) ls)
length-docs_of (line.Tick n ∷ ls) = omega (arith, length-docs_of ls, sum_by-cons (λ l. cond (is_doc l) 1 0) (line.Tick n) ls)
length-docs_of (line.Cancel n ∷ ls) = omega (arith, length-docs_of ls, sum_by-cons (λ l. cond (is_doc l) 1 0) (line.Cancel n) ls)

pub length-queries_of : (lines : List Line) → length (queries_of lines) ≡ count_by is_query lines
length-queries_of [] = refl
length-queries_of (line.Doc d ∷ ls) = omega (arith, length-queries_of ls, sum_by-cons (λ l. cond (is_query l) 1 0) (line.Doc d) ls)
length-queries_of (line.Query q ∷ ls) = omega (arith, length-queries_of ls, sum_by-cons (λ l. cond (is_query l) 1 0) (line.Query q) ls)
length-queries_of (line.Tick n ∷ ls) = omega (arith, length-queries_of ls, sum_by-cons (λ l. cond (is_query l) 1 0) (line.Tick n) ls)
length-queries_of (line.Cancel n ∷ ls) = omega (arith, length-queries_of ls, sum_by-cons (λ l. cond (is_query l) 1 0) (line.Cancel n) ls)

pub any-docs_of : (id : ℕ) (lines : List Line) → list_any (λ doc. eqb doc.id id) (docs_of lines) ≡ list_any (has_id id) lines
any-docs_of id [] = refl
any-docs_of id (line.Doc d ∷ ls) = ap (λ b. eqb d.id id || b) (any-docs_of id ls)
any-docs_of id (line.Query q ∷ ls) = any-docs_of id ls
any-docs_of id (line.Tick n ∷ ls) = any-docs_of id ls
any-docs_of id (line.Cancel n ∷ ls) = any-docs_of id ls

-- a fact on an item and those before it, of one item more
each-push : {A : Type 0} (P : List A → A → Type 0) (xs : List A) (x : A)
    → ((place : ℕ) (y : A) → slice_get xs place ≡ Some y → P (take place xs) y) → P xs x
    → (place : ℕ) (y : A) → slice_get (xs ++ x ∷ []) place ≡ Some y → P (take place (xs ++ x ∷ [])) y
each-push P xs x each one place y there = elim (cases_lt place (length xs)) [
  | inl low ↦
      subst (λ ys. P ys y) (sym (take-append-le place xs (x ∷ []) (omega arith)))
      (each place y (sym (slice_get-append_left xs (x ∷ []) place low) ∙ there))
  | inr high ↦
      let within : place < length (xs ++ x ∷ []) = slice_get_within (xs ++ x ∷ []) place y there in
      let last : place ≡ length xs = omega (arith, length-append xs (x ∷ [])) in
      let same : Some x ≡ Some y = sym (slice_get-append_seam xs x [] place last) ∙ there in
      let is : x ≡ y = cc in
      subst (λ ys. P ys y) (sym (ap (λ n. take n (xs ++ x ∷ [])) last ∙ take-append_seam xs (x ∷ []))) (subst (λ z. P xs z) is one)
]

-- the limits over the lines so far
abbrev SoFar : ℕ → List Line → Type 0
SoFar shards lines = IsWithinLimits lines shards

so_far_none : (shards : ℕ) → SoFar shards []
so_far_none shards = record {
  lines_are = All-nil IsLine;
  ids = λ place doc there. absurd cc;
  few_documents = omega arith;
  few_queries = omega arith;
  few_tasks = omega arith;
  few_ticks = omega arith;
}

-- what one more line adds
abbrev Adds : ℕ → List Line → Line → List Doc → List Query → ℕ → Type 0
Adds shards lines l docs queries ticks =
    (docs_of (lines ++ l ∷ []) ≡ docs_of lines ++ docs) × (queries_of (lines ++ l ∷ []) ≡ queries_of lines ++ queries) × (sum_by ticks_of (lines ++ l ∷ []) ≡ sum_by ticks_of lines + ticks)

adds : (shards : ℕ) (lines : List Line) (l : Line) → Adds shards lines l (option_to_list (doc_of_line l)) (option_to_list (query_of_line l)) (ticks_of l)
adds shards lines l = (filter_map-push doc_of_line lines l, filter_map-push query_of_line lines l, sum_by_push ticks_of lines l)

so_far_doc : (shards : ℕ) (lines : List Line) (piece : Bytes) (doc : Doc) → SoFar shards lines → IsDocLine lines piece doc → SoFar shards (lines ++ line.Doc doc ∷ [])
so_far_doc shards lines piece doc s is =
    let more = adds shards lines (line.Doc doc) in
    record {
      lines_are = All-push IsLine lines (line.Doc doc) s.lines_are (record { id = is.number.below; are_words = is.words });
      ids = subst DifferentIds (sym more.0) (each-push (λ before d. list_any (λ other. eqb other.id d.id) before ≡ false) (docs_of lines) doc s.ids (any-docs_of doc.id lines ∙ is.own));
      few_documents = omega (arith, ap length more.0, length-append (docs_of lines) (doc ∷ []), length-docs_of lines, is.room);
      few_queries = omega (arith, ap length more.1, length-append (queries_of lines) [], s.few_queries);
      few_tasks = subst (λ qs. length qs * shards ≤ most_tasks) (sym (more.1 ∙ append-nil (queries_of lines))) s.few_tasks;
      few_ticks = omega (arith, more.2, s.few_ticks);
    }

so_far_other : (shards : ℕ) (lines : List Line) (l : Line) → SoFar shards lines → IsLine l → doc_of_line l ≡ None → query_of_line l ≡ None → sum_by ticks_of lines + ticks_of l ≤ most_ticks → SoFar shards (lines ++ l ∷ [])
so_far_other shards lines l s is no_doc no_query ticks =
    let more = adds shards lines l in
    let docs : docs_of (lines ++ l ∷ []) ≡ docs_of lines = more.0 ∙ (ap (λ (o : Option Doc). docs_of lines ++ option_to_list o) no_doc ∙ append-nil (docs_of lines)) in
    let queries : queries_of (lines ++ l ∷ []) ≡ queries_of lines = more.1 ∙ (ap (λ (o : Option Query). queries_of lines ++ option_to_list o) no_query ∙ append-nil (queries_of lines)) in
    record {
      lines_are = All-push IsLine lines l s.lines_are is;
      ids = subst DifferentIds (sym docs) s.ids;
      few_documents = subst (λ ds. length ds ≤ most_documents) (sym docs) s.few_documents;
      few_queries = subst (λ qs. length qs ≤ most_queries) (sym queries) s.few_queries;
      few_tasks = subst (λ qs. length qs * shards ≤ most_tasks) (sym queries) s.few_tasks;
      few_ticks = subst (λ n. n ≤ most_ticks) (sym more.2) ticks;
    }

is_asked : (asks : List Bytes) (given : Ask) → IsAskOf asks given → IsAsk given
is_asked asks (ask.Find e) h = tt
is_asked asks (ask.Count e) h = tt
is_asked asks (ask.Present e) h = tt
is_asked asks (ask.Top k words) h = record { some = h.number.above; few = h.number.below; some_words = h.some; are_words = h.are_words }

is_delayed : (fields : List Bytes) (delay : Option ℕ) → IsDelay fields delay → IfSome delay (λ d. (1 ≤ d) × (d ≤ most_delay))
is_delayed fields None h = tt
is_delayed fields (Some d) h = (h.2.above, h.2.below)

so_far_query : (shards : ℕ) (lines : List Line) (piece : Bytes) (query : Query) → SoFar shards lines → IsQueryLine shards lines piece query → SoFar shards (lines ++ line.Query query ∷ [])
so_far_query shards lines piece query s is =
    let more = adds shards lines (line.Query query) in
    let docs : docs_of (lines ++ line.Query query ∷ []) ≡ docs_of lines = more.0 ∙ append-nil (docs_of lines) in
    let longer : length (queries_of (lines ++ line.Query query ∷ [])) ≡ count_by is_query lines + 1 =
    ap length more.1 ∙ (length-append (queries_of lines) (query ∷ []) ∙ ap (λ n. n + 1) (length-queries_of lines)) in
    record {
      lines_are = All-push IsLine lines (line.Query query) s.lines_are (record { delay = is_delayed is.delay query.delay is.delay_is; ask = is_asked is.asks query.ask is.ask_is });
      ids = subst DifferentIds (sym docs) s.ids;
      few_documents = subst (λ ds. length ds ≤ most_documents) (sym docs) s.few_documents;
      few_queries = omega (arith, longer, is.room);
      few_tasks = subst (λ n. n * shards ≤ most_tasks) (sym longer) is.tasks;
      few_ticks = omega (arith, more.2, s.few_ticks);
    }

so_far_line : (shards : ℕ) (before : List Line) (piece : Bytes) (mark : Option Line) → SoFar shards before → LineBehind shards before piece (Ok mark) → SoFar shards (before ++ option_to_list mark)
so_far_line shards before piece None s g = subst (λ ls. SoFar shards ls) (sym (append-nil before)) s
so_far_line shards before piece (Some (line.Doc doc)) s g = so_far_doc shards before piece doc s ((doc_by_facts shards before piece doc).0 g)
so_far_line shards before piece (Some (line.Query query)) s g = so_far_query shards before piece query s ((query_by_facts shards before piece query).0 g)
so_far_line shards before piece (Some (line.Tick n)) s g =
    let is = (tick_by_facts shards before piece n).0 g in
    so_far_other shards before (line.Tick n) s (is.number.above, is.number.below) refl refl is.room
so_far_line shards before piece (Some (line.Cancel n)) s g =
    let is = (cancel_by_facts shards before piece n).0 g in
    so_far_other shards before (line.Cancel n) s (is.number.above, is.number.below) refl refl (omega (arith, s.few_ticks))

so_far_read : (shards number : ℕ) (before : List Line) (ps : List Bytes) (lines : List Line) → SoFar shards before → Reads shards number before ps (Ok lines) → SoFar shards lines
so_far_read shards number before [] lines s r = let same : lines ≡ before = cc in subst (λ ls. SoFar shards ls) (sym same) s
so_far_read shards number before (piece ∷ ps) lines s (inl m) =
    so_far_read shards (number + 1) (before ++ option_to_list m.0) ps lines (so_far_line shards before piece m.0 s m.1) m.2
so_far_read shards number before (piece ∷ ps) lines s (inr k) = absurd cc

pub is_within_limits : (bytes : Bytes) (shards : ℕ) (input : Input) → Accepts bytes shards input → IsWithinLimits input.lines shards
is_within_limits bytes shards input a =
    let s = so_far_read shards 1 [] (pieces bytes) (kept a.marks) (so_far_none shards) (reads_from_Accepts shards (pieces bytes) a.marks a.stand) in
    subst (λ ls. IsWithinLimits ls shards) (sym a.lines) s
