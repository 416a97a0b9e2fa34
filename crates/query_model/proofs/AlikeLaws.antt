-- What does not look at the words of documents is the same for lines that are alike.
use Rattle.std.proofs.Common.{◌≡◌, ℕ, zero, suc, ◌+◌, ◌*◌, ◌<◌, ◌≤◌, List, [], ◌∷◌, length, take, Bool, ◌&&◌, ◌||◌, Option, Some, None, refl, sym, ap, ◌∙◌, subst, arith, rules}
use Rattle.std.specs.Prelude.{nat_le, nat_lt, map, filter, find, slice_get, is_none, ◌==◌}
use Rattle.std.specs.List.{All, list_any, range_with_len, sum_by}
use Rattle.std.proofs.Math.Path.{fun_ext}
use Rattle.std.proofs.lemmas.List.{length-map, take-map}
use Rattle.std.proofs.lemmas.List.Elements.{All-map, All-weaker}
use Rattle.std.proofs.lemmas.List.Sums.{sum_by-cons}
use Rattle.std.proofs.lemmas.Option.{slice_get_within}
use Rattle.fan_base.specs.declared.doc.Doc.{Doc}
use Rattle.query_model.specs.declared.line.Line.{Line}
use Rattle.query_model.specs.declared.line.Line.TheVariants as line
use Rattle.query_model.specs.declared.line.Query.{Query}
use Rattle.query_model.specs.Limits.{most_documents, most_queries, most_tasks, most_ticks}
use Rattle.query_model.specs.Lines.{ticks_of}
use Rattle.query_model.specs.Documents.{docs_of, queries_of, DifferentIds, IsLine, IsWithinLimits}
use Rattle.query_model.specs.Alike.{AreAlike, without_its_words, without_words}
use Rattle.query_model.specs.Order.{Asked, asked_from, asked_in, places_of, now_at, due_tick, due_line, is_cancel_of, is_before, cancel_line, Outcome, outcome_by, outcome_after, outcome_of, due_with, due_of, docs_before, turn_by, turn_of, left_in}
use Rattle.query_model.proofs.ListFacts.{slice_get_there}

-- the lines with no words in their documents
abbrev bare : List Line → List Line
bare ls = map without_words ls

pub bare_twice : (ls : List Line) → bare (bare ls) ≡ bare ls
bare_twice [] = refl
bare_twice (line.Doc d ∷ ls) = ap (λ (l : List Line). line.Doc (without_its_words d) ∷ l) (bare_twice ls)
bare_twice (line.Query q ∷ ls) = ap (λ (l : List Line). line.Query q ∷ l) (bare_twice ls)
bare_twice (line.Tick n ∷ ls) = ap (λ (l : List Line). line.Tick n ∷ l) (bare_twice ls)
bare_twice (line.Cancel n ∷ ls) = ap (λ (l : List Line). line.Cancel n ∷ l) (bare_twice ls)

-- a function that gives the same without words gives the same for alike lines
alike_by : {B : Type 0} (f : List Line → B) → ((ls : List Line) → f (bare ls) ≡ f ls) → (lines others : List Line) → AreAlike lines others → f lines ≡ f others
alike_by f same lines others alike = sym (same lines) ∙ (ap f alike.same ∙ same others)

-- the queries
asked_from-bare : (number place : ℕ) (ls : List Line) → asked_from number place (bare ls) ≡ asked_from number place ls
asked_from-bare number place [] = refl
asked_from-bare number place (line.Doc d ∷ ls) = asked_from-bare number (place + 1) ls
asked_from-bare number place (line.Query q ∷ ls) =
    let a : Asked = record { number = number; place = place; query = q } in ap (λ (l : List Asked). a ∷ l) (asked_from-bare (number + 1) (place + 1) ls)
asked_from-bare number place (line.Tick n ∷ ls) = asked_from-bare number (place + 1) ls
asked_from-bare number place (line.Cancel n ∷ ls) = asked_from-bare number (place + 1) ls

queries_of-bare : (ls : List Line) → queries_of (bare ls) ≡ queries_of ls
queries_of-bare [] = refl
queries_of-bare (line.Doc d ∷ ls) = queries_of-bare ls
queries_of-bare (line.Query q ∷ ls) = ap (λ (l : List Query). q ∷ l) (queries_of-bare ls)
queries_of-bare (line.Tick n ∷ ls) = queries_of-bare ls
queries_of-bare (line.Cancel n ∷ ls) = queries_of-bare ls

-- the line of a query stays at its place
query-bare : (ls : List Line) (place : ℕ) (q : Query) → slice_get ls place ≡ Some (line.Query q) → slice_get (bare ls) place ≡ Some (line.Query q)
query-bare [] place q h = h
query-bare (line.Doc d ∷ ls) zero q h = absurd cc
query-bare (line.Query r ∷ ls) zero q h = h
query-bare (line.Tick n ∷ ls) zero q h = h
query-bare (line.Cancel n ∷ ls) zero q h = h
query-bare (l ∷ ls) (suc i) q h = query-bare ls i q h

bare-query : (ls : List Line) (place : ℕ) (q : Query) → slice_get (bare ls) place ≡ Some (line.Query q) → slice_get ls place ≡ Some (line.Query q)
bare-query [] place q h = h
bare-query (line.Doc d ∷ ls) zero q h = absurd cc
bare-query (line.Query r ∷ ls) zero q h = h
bare-query (line.Tick n ∷ ls) zero q h = h
bare-query (line.Cancel n ∷ ls) zero q h = h
bare-query (l ∷ ls) (suc i) q h = bare-query ls i q h

-- the ticks
ticks-bare : (ls : List Line) → sum_by ticks_of (bare ls) ≡ sum_by ticks_of ls
ticks-bare [] = refl
ticks-bare (line.Doc d ∷ ls) = omega (arith, ticks-bare ls, sum_by-cons ticks_of (line.Doc d) ls, sum_by-cons ticks_of (line.Doc (without_its_words d)) (bare ls))
ticks-bare (line.Query q ∷ ls) = omega (arith, ticks-bare ls, sum_by-cons ticks_of (line.Query q) ls, sum_by-cons ticks_of (line.Query q) (bare ls))
ticks-bare (line.Tick n ∷ ls) = omega (arith, ticks-bare ls, sum_by-cons ticks_of (line.Tick n) ls, sum_by-cons ticks_of (line.Tick n) (bare ls))
ticks-bare (line.Cancel n ∷ ls) = omega (arith, ticks-bare ls, sum_by-cons ticks_of (line.Cancel n) ls, sum_by-cons ticks_of (line.Cancel n) (bare ls))

now_at-bare : (ls : List Line) (place : ℕ) → now_at (bare ls) place ≡ now_at ls place
now_at-bare ls place = ap (λ (l : List Line). sum_by ticks_of l) (take-map without_words place ls) ∙ ticks-bare (take place ls)

places-bare : (ls : List Line) → places_of (bare ls) ≡ places_of ls
places-bare ls = ap (λ (n : ℕ). range_with_len 0 n) (length-map ls without_words)

due_line-bare : (ls : List Line) (due : ℕ) → due_line (bare ls) due ≡ due_line ls due
due_line-bare ls due =
    ap (λ (f : ℕ → Bool). find f (places_of (bare ls))) (fun_ext (λ place. ap (λ (n : ℕ). nat_le due n) (now_at-bare ls (place + 1))))
    ∙ ap (λ (ps : List ℕ). find (λ place. nat_le due (now_at ls (place + 1))) ps) (places-bare ls)

cancels-bare : (number : ℕ) (ls : List Line) (place : ℕ) → is_cancel_of number (slice_get (bare ls) place) ≡ is_cancel_of number (slice_get ls place)
cancels-bare number [] place = refl
cancels-bare number (line.Doc d ∷ ls) zero = refl
cancels-bare number (line.Query q ∷ ls) zero = refl
cancels-bare number (line.Tick n ∷ ls) zero = refl
cancels-bare number (line.Cancel n ∷ ls) zero = refl
cancels-bare number (l ∷ ls) (suc i) = cancels-bare number ls i

cancel_line-bare : (ls : List Line) (a : Asked) (due : Option ℕ) → cancel_line (bare ls) a due ≡ cancel_line ls a due
cancel_line-bare ls a due =
    ap (λ (f : ℕ → Bool). find f (places_of (bare ls)))
    (fun_ext (λ place. ap (λ (b : Bool). nat_lt a.place place && (is_before place due && b)) (cancels-bare a.number ls place)))
    ∙ ap (λ (ps : List ℕ). find (λ place. nat_lt a.place place && (is_before place due && is_cancel_of a.number (slice_get ls place))) ps) (places-bare ls)

due_at-bare : (ls : List Line) (place delay : ℕ) → due_line (bare ls) (due_tick (bare ls) place delay) ≡ due_line ls (due_tick ls place delay)
due_at-bare ls place delay = ap (λ (n : ℕ). due_line (bare ls) (n + delay)) (now_at-bare ls place) ∙ due_line-bare ls (due_tick ls place delay)

outcome-bare : (ls : List Line) (a : Asked) (delay : Option ℕ) → outcome_after (bare ls) a delay ≡ outcome_after ls a delay
outcome-bare ls a None = refl
outcome-bare ls a (Some delay) =
    ap (λ (due : Option ℕ). outcome_by (cancel_line (bare ls) a due) due) (due_at-bare ls a.place delay)
    ∙ (let due : Option ℕ = due_line ls (due_tick ls a.place delay) in ap (λ (c : Option ℕ). outcome_by c due) (cancel_line-bare ls a due))

due-bare : (ls : List Line) (place : ℕ) (delay : Option ℕ) → due_with (bare ls) place delay ≡ due_with ls place delay
due-bare ls place None = refl
due-bare ls place (Some delay) = ap (λ (n : ℕ). n + delay) (now_at-bare ls place)

-- who waits
waits_by : (ls others : List Line) (a : Asked) (o : Outcome) → is_none (turn_by ls a o) ≡ is_none (turn_by others a o)
waits_by ls others a (Outcome.answered place) = refl
waits_by ls others a (Outcome.cancelled place) = refl
waits_by ls others a Outcome.left = refl

waits-bare : (ls : List Line) (a : Asked) → is_none (turn_of (bare ls) a) ≡ is_none (turn_of ls a)
waits-bare ls a = ap (λ (o : Outcome). is_none (turn_by (bare ls) a o)) (outcome-bare ls a a.query.delay) ∙ waits_by (bare ls) ls a (outcome_of ls a)

left-bare : (ls : List Line) → left_in (bare ls) ≡ left_in ls
left-bare ls =
    ap (λ (f : Asked → Bool). filter f (asked_in (bare ls))) (fun_ext (waits-bare ls))
    ∙ ap (λ (all : List Asked). filter (λ a. is_none (turn_of ls a)) all) (asked_from-bare 1 0 ls)

-- the documents
docs_of-bare : (ls : List Line) → docs_of (bare ls) ≡ map without_its_words (docs_of ls)
docs_of-bare [] = refl
docs_of-bare (line.Doc d ∷ ls) = ap (λ (l : List Doc). without_its_words d ∷ l) (docs_of-bare ls)
docs_of-bare (line.Query q ∷ ls) = docs_of-bare ls
docs_of-bare (line.Tick n ∷ ls) = docs_of-bare ls
docs_of-bare (line.Cancel n ∷ ls) = docs_of-bare ls

many-bare : (ls : List Line) → length (docs_of (bare ls)) ≡ length (docs_of ls)
many-bare ls = ap (λ (l : List Doc). length l) (docs_of-bare ls) ∙ length-map (docs_of ls) without_its_words

before-bare : (ls : List Line) (place : ℕ) → length (docs_of (take place (bare ls))) ≡ length (docs_of (take place ls))
before-bare ls place = ap (λ (l : List Line). length (docs_of l)) (take-map without_words place ls) ∙ many-bare (take place ls)

-- their ids
any_id-bare : (id : ℕ) (docs : List Doc) → list_any (λ (other : Doc). other.id == id) (map without_its_words docs) ≡ list_any (λ (other : Doc). other.id == id) docs
any_id-bare id [] = refl
any_id-bare id (d ∷ docs) = ap (λ (b : Bool). d.id == id || b) (any_id-bare id docs)

ids_before-bare : (id place : ℕ) (docs : List Doc)
    → list_any (λ (other : Doc). other.id == id) (take place (map without_its_words docs)) ≡ list_any (λ (other : Doc). other.id == id) (take place docs)
ids_before-bare id place docs = ap (λ (l : List Doc). list_any (λ (other : Doc). other.id == id) l) (take-map without_its_words place docs) ∙ any_id-bare id (take place docs)

doc-bare : (docs : List Doc) (place : ℕ) (d : Doc) → slice_get docs place ≡ Some d → slice_get (map without_its_words docs) place ≡ Some (without_its_words d)
doc-bare [] place d h = absurd cc
doc-bare (e ∷ docs) zero d h = let same : e ≡ d = cc in ap (λ (x : Doc). let o : Option Doc = Some (without_its_words x) in o) same
doc-bare (e ∷ docs) (suc i) d h = doc-bare docs i d h

ids-bare : (docs : List Doc) → DifferentIds docs → DifferentIds (map without_its_words docs)
ids-bare docs differ place doc there =
    let within : place < length docs = omega (arith, slice_get_within (map without_its_words docs) place doc there, length-map docs without_its_words) in
    let had = slice_get_there docs place within in
    let same : Some (without_its_words had.0) ≡ Some doc = sym (doc-bare docs place had.0 had.1) ∙ there in
    let is : without_its_words had.0 ≡ doc = cc in
    let id : had.0.id ≡ doc.id = ap (λ (d : Doc). d.id) is in
    ap (λ (n : ℕ). list_any (λ (other : Doc). other.id == n) (take place (map without_its_words docs))) (sym id)
    ∙ (ids_before-bare had.0.id place docs ∙ differ place had.0 had.1)

bare-ids : (docs : List Doc) → DifferentIds (map without_its_words docs) → DifferentIds docs
bare-ids docs differ place doc there = sym (ids_before-bare doc.id place docs) ∙ differ place (without_its_words doc) (doc-bare docs place doc there)

-- the laws
module _ (lines others : List Line) (alike : AreAlike lines others) where
  pub alike_query : (place : ℕ) (q : Query) → slice_get lines place ≡ Some (line.Query q) → slice_get others place ≡ Some (line.Query q)
  alike_query place q h = bare-query others place q (sym (ap (λ (l : List Line). slice_get l place) alike.same) ∙ query-bare lines place q h)

  pub alike_queries : queries_of lines ≡ queries_of others
  alike_queries = alike_by queries_of queries_of-bare lines others alike

  pub alike_asked : asked_in lines ≡ asked_in others
  alike_asked = alike_by asked_in (asked_from-bare 1 0) lines others alike

  pub alike_outcome : (a : Asked) → outcome_of lines a ≡ outcome_of others a
  alike_outcome a = alike_by (λ ls. outcome_of ls a) (λ ls. outcome-bare ls a a.query.delay) lines others alike

  pub alike_due : (a : Asked) → due_of lines a ≡ due_of others a
  alike_due a = alike_by (λ ls. due_of ls a) (λ ls. due-bare ls a.place a.query.delay) lines others alike

  pub alike_left : left_in lines ≡ left_in others
  alike_left = alike_by left_in left-bare lines others alike

  pub alike_before : (a : Asked) → length (docs_before lines a) ≡ length (docs_before others a)
  alike_before a = alike_by (λ ls. length (docs_before ls a)) (λ ls. before-bare ls a.place) lines others alike

  pub alike_documents : length (docs_of lines) ≡ length (docs_of others)
  alike_documents = alike_by (λ ls. length (docs_of ls)) many-bare lines others alike

  alike_ids : DifferentIds (docs_of others) → DifferentIds (docs_of lines)
  alike_ids differ =
      bare-ids (docs_of lines) (subst DifferentIds (sym (docs_of-bare others) ∙ (sym (ap docs_of alike.same) ∙ docs_of-bare lines)) (ids-bare (docs_of others) differ))

  pub alike_within : (shards : ℕ) → All IsLine lines → IsWithinLimits others shards → IsWithinLimits lines shards
  alike_within shards each limits = record {
    lines_are = each;
    ids = alike_ids limits.ids;
    few_documents = subst (λ (n : ℕ). n ≤ most_documents) (sym alike_documents) limits.few_documents;
    few_queries = subst (λ (qs : List Query). length qs ≤ most_queries) (sym alike_queries) limits.few_queries;
    few_tasks = subst (λ (qs : List Query). length qs * shards ≤ most_tasks) (sym alike_queries) limits.few_tasks;
    few_ticks = subst (λ (n : ℕ). n ≤ most_ticks) (sym (alike_by (λ ls. sum_by ticks_of ls) ticks-bare lines others alike)) limits.few_ticks;
  }

-- a line without words keeps its range
is_line-bare : (l : Line) → IsLine l → IsLine (without_words l)
is_line-bare (line.Doc d) h = record { id = h.id; are_words = record { few = omega arith; each = search rules } }
is_line-bare (line.Query q) h = h
is_line-bare (line.Tick n) h = h
is_line-bare (line.Cancel n) h = h

pub without_within : (lines : List Line) (shards : ℕ) → IsWithinLimits lines shards → IsWithinLimits (bare lines) shards
without_within lines shards limits =
    alike_within (bare lines) lines (record { same = bare_twice lines }) shards
    (All-map IsLine without_words lines (All-weaker IsLine (λ l. IsLine (without_words l)) is_line-bare lines limits.lines_are)) limits
