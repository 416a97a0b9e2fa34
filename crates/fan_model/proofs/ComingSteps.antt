-- What comes at one line more.
use Rattle.std.proofs.Common.{◌≡◌, ℕ, ◌≤◌, List, [], ◌∷◌, ◌++◌, length, Bool, true, false, ◌&&◌, ◌||◌, nat_lt, nat_eq, Option, Some, None, refl, sym, ap, ◌∙◌, arith, map, filter, append-nil, append_assoc}
use Rattle.std.specs.Prelude.{IfSome}
use Rattle.std.specs.List.{AllByRecursion, filter_map}
use Rattle.std.proofs.lemmas.Bool.{eqb-true}
use Rattle.std.proofs.lemmas.Bool.Decides.{nat_tests}
use Rattle.std.proofs.lemmas.List.{map-append}
use Rattle.std.proofs.lemmas.List.Elements.{filter_map-append}
use mathlib.Core.List.{IsPrefix}
use Rattle.fan_base.specs.declared.doc.Doc.{Doc}
use Rattle.query_model.specs.declared.line.Line.{Line}
use Rattle.query_model.specs.declared.line.Line.TheVariants as line
use Rattle.query_model.specs.declared.line.Query.{Query}
use Rattle.query_model.specs.Documents.{IsLine, docs_of}
use Rattle.query_model.specs.LineByLine.{Adds, answered_at, answered_now, cancelled_at, is_due, is_numbered, next_asked}
use Rattle.query_model.specs.Order.{Asked, Outcome, Turn, comes_before, docs_before, left_in, outcome_of, turns_of}
use Rattle.query_model.specs.Sorting.{sorted_by}
use Rattle.query_model.proofs.ListLaws.{all-append, all-filter, all-implies, all-map, all-passed, heads_same, tails_same}
use Rattle.query_model.proofs.SortedLists.{all-sorted_by, map-sorted_by, sorted-const, sorted-same}
use Rattle.query_model.proofs.LineByLine.{adds_answered, adds_cancel, adds_delayed, adds_doc, adds_tick}
use Rattle.fan_model.specs.Answered.{answered_in}
use Rattle.fan_model.specs.Comings.{Coming, IsAsked, answered_at_line, answered_with, begun_by, cancelled_at_line, come_at_line, come_in, comings_of, coming_by, coming_of, due_first, left_at_line, query_of, reply_to, waits_with}
use Rattle.fan_model.specs.Laws.{tells}
use Rattle.fan_model.proofs.AskedLaws.{asked_more, next_is_asked, one_of_number}
use Rattle.fan_model.proofs.ComingLaws.{all_come_asked, all_left_asked, begun_in_order, coming_queries, none_begun, turn_as, turns_sorted}
use Rattle.fan_model.proofs.Sorts.{map-map}
use Rattle.fan_model.proofs.TaskLaws.{tell_all}

-- what tells one coming from another: the number of the query, and whether its work is begun
abbrev mark_of : Coming → ℕ × Bool
mark_of (Coming.begins a) = (a.number, true)
mark_of (Coming.cancels a) = (a.number, false)

abbrev mark_of_turn : Turn → ℕ × Bool
mark_of_turn t = (t.number, tells t.reply)

answers_tell : (lines : List Line) (a : Asked) → tells (reply_to lines (Coming.begins a)).1 ≡ true
answers_tell lines a = tell_all a.query.ask (docs_before lines a)

one_coming : (lines : List Line) (c d : Coming) → IsAsked lines (query_of c) → IsAsked lines (query_of d) → mark_of c ≡ mark_of d → c ≡ d
one_coming lines (Coming.begins a) (Coming.begins b) is also same = ap Coming.begins (one_of_number lines a b is also (ap (λ (m : ℕ × Bool). m.0) same))
one_coming lines (Coming.cancels a) (Coming.cancels b) is also same = ap Coming.cancels (one_of_number lines a b is also (ap (λ (m : ℕ × Bool). m.0) same))
one_coming lines (Coming.begins a) (Coming.cancels b) is also same = let no : true ≡ false = ap (λ (m : ℕ × Bool). m.1) same in absurd cc
one_coming lines (Coming.cancels a) (Coming.begins b) is also same = let no : false ≡ true = ap (λ (m : ℕ × Bool). m.1) same in absurd cc

abbrev AreAsked : List Line → List Coming → Type 0
AreAsked lines comings = AllByRecursion (λ (c : Coming). IsAsked lines (query_of c)) comings

same_comings : (lines : List Line) (xs ys : List Coming) → AreAsked lines xs → AreAsked lines ys → map mark_of xs ≡ map mark_of ys → xs ≡ ys
same_comings lines [] [] are also same = refl
same_comings lines [] (y ∷ ys) are also same = absurd cc
same_comings lines (x ∷ xs) [] are also same = absurd cc
same_comings lines (x ∷ xs) (y ∷ ys) are also same =
    ap (λ (c : Coming). c ∷ xs) (one_coming lines x y are.0 also.0 (heads_same (mark_of x) (mark_of y) (map mark_of xs) (map mark_of ys) same))
    ∙ ap (λ (l : List Coming). y ∷ l) (same_comings lines xs ys are.1 also.1 (tails_same (mark_of x) (mark_of y) (map mark_of xs) (map mark_of ys) same))

-- what comes is marked as the turns are
mark_by : (lines : List Line) (a : Asked) (o : Outcome) → mark_of (coming_by a o) ≡ (a.number, tells (reply_to lines (coming_by a o)).1)
mark_by lines a (Outcome.answered place) = ap (λ (b : Bool). (a.number, b)) (sym (answers_tell lines a))
mark_by lines a (Outcome.cancelled place) = refl
mark_by lines a Outcome.left = refl

marks_of_turns : (lines : List Line) → map mark_of (come_in lines) ≡ map mark_of_turn (turns_of lines)
unfolding come_in
marks_of_turns lines =
    let both : Asked → ℕ × Bool = λ a. mark_of (coming_of lines a) in
    map-map (coming_of lines) mark_of both (λ a. refl) (coming_queries lines)
    ∙ (sym (map-map (turn_as lines) mark_of_turn both (λ a. sym (mark_by lines a (outcome_of lines a))) (coming_queries lines))
    ∙ ap (map mark_of_turn) (sym (turns_sorted lines)))

-- a line adds what its turns mark
one_line_more : (lines : List Line) (l : Line) (turns : List Turn) (waiting : List Asked) (more : List Coming)
    → Adds lines l turns waiting → AreAsked (lines ++ l ∷ []) more → map mark_of more ≡ map mark_of_turn (sorted_by comes_before turns)
    → come_in (lines ++ l ∷ []) ≡ come_in lines ++ more
one_line_more lines l turns waiting more adds are same =
    same_comings (lines ++ l ∷ []) (come_in (lines ++ l ∷ [])) (come_in lines ++ more) (all_come_asked (lines ++ l ∷ []))
    (all-append (λ (c : Coming). IsAsked (lines ++ l ∷ []) (query_of c)) (come_in lines) more
    (all-implies (λ (c : Coming). IsAsked lines (query_of c)) (λ (c : Coming). IsAsked (lines ++ l ∷ []) (query_of c)) (λ c is. asked_more lines (l ∷ []) (query_of c) is) (come_in lines) (all_come_asked lines)) are)
    (marks_of_turns (lines ++ l ∷ [])
    ∙ (ap (map mark_of_turn) adds.turns_are
    ∙ (map-append mark_of_turn (turns_of lines) (sorted_by comes_before turns)
    ∙ (ap (λ (m : List (ℕ × Bool)). m ++ map mark_of_turn (sorted_by comes_before turns)) (sym (marks_of_turns lines))
    ∙ (ap (λ (m : List (ℕ × Bool)). map mark_of (come_in lines) ++ m) (sym same) ∙ sym (map-append mark_of (come_in lines) more))))))

none_more : (lines : List Line) (l : Line) (waiting : List Asked) → Adds lines l [] waiting → come_in (lines ++ l ∷ []) ≡ come_in lines ++ []
none_more lines l waiting adds = one_line_more lines l [] waiting [] adds tt refl

-- the turns of one line come by due tick and number
same_place : (n : ℕ) (b : Bool) → (nat_lt n n || (nat_eq n n && b)) ≡ b
same_place n b = grind (arith, nat_tests)

due_marks : (lines : List Line) (due : List Asked)
    → map mark_of (map Coming.begins (sorted_by (due_first lines) due)) ≡ map mark_of_turn (sorted_by comes_before (map (answered_at lines) due))
due_marks lines due =
    let both : Asked → ℕ × Bool = λ a. (a.number, true) in
    map-map Coming.begins mark_of both (λ a. refl) (sorted_by (due_first lines) due)
    ∙ (ap (map both) (sorted-same (due_first lines) (λ a b. comes_before (answered_at lines a) (answered_at lines b)) (λ a b. sym (same_place (length lines) (due_first lines a b))) due)
    ∙ (sym (map-map (answered_at lines) mark_of_turn both (λ a. ap (λ (b : Bool). (a.number, b)) (answers_tell lines a)) (sorted_by (λ a b. comes_before (answered_at lines a) (answered_at lines b)) due))
    ∙ ap (map mark_of_turn) (sym (map-sorted_by (answered_at lines) comes_before due))))

-- the turns of a cancel line all have its number
cancel_marks : (lines : List Line) (n : ℕ) (those : List Asked) → AllByRecursion (λ (a : Asked). is_numbered n a ≡ true) those
    → map mark_of (map Coming.cancels those) ≡ map mark_of_turn (sorted_by comes_before (map (cancelled_at lines) those))
cancel_marks lines n those are =
    let both : Asked → ℕ × Bool = λ a. (a.number, false) in
    map-map Coming.cancels mark_of both (λ a. refl) those
    ∙ (sym (map-map (cancelled_at lines) mark_of_turn both (λ a. refl) those)
    ∙ sym (sorted-const mark_of_turn (n, false) comes_before (map (cancelled_at lines) those)
    (all-map (λ (a : Asked). is_numbered n a ≡ true) (λ (t : Turn). mark_of_turn t ≡ (n, false)) (cancelled_at lines)
    (λ a yes. ap (λ (m : ℕ). (m, false)) (sym (eqb-true n a.number yes))) those are)))

answered_line : (lines : List Line) (query : Query) → Adds lines (line.Query query) (answered_now lines query ∷ []) (left_in lines)
    → come_in (lines ++ line.Query query ∷ []) ≡ come_in lines ++ Coming.begins (next_asked lines query) ∷ []
answered_line lines query adds =
    one_line_more lines (line.Query query) (answered_now lines query ∷ []) (left_in lines) (Coming.begins (next_asked lines query) ∷ []) adds
    (next_is_asked lines query, tt) (ap (λ (b : Bool). let l : List (ℕ × Bool) = ((next_asked lines query).number, b) ∷ [] in l) (sym (tell_all query.ask (docs_of lines))))

query_line : (lines : List Line) (query : Query) (delay : Option ℕ) → query.delay ≡ delay → IfSome delay (λ d. (1 ≤ d) × (d ≤ 4294967295))
    → come_in (lines ++ line.Query query ∷ []) ≡ come_in lines ++ (map Coming.begins (answered_with lines query delay) ++ [])
query_line lines query None is range = answered_line lines query (adds_answered lines query is)
query_line lines query (Some delay) is range = none_more lines (line.Query query) _ (adds_delayed lines query delay is range.0)

-- what comes behind one line more
pub comes_more : (lines : List Line) (l : Line) → IsLine l → come_in (lines ++ l ∷ []) ≡ come_in lines ++ come_at_line lines l
comes_more lines (line.Doc doc) is = none_more lines (line.Doc doc) (left_in lines) (adds_doc lines doc)
comes_more lines (line.Query query) is = query_line lines query query.delay refl is.delay
comes_more lines (line.Tick n) is =
    let due : List Asked = filter (is_due lines n) (left_in lines) in
    let all : List Asked = sorted_by (due_first lines) due in
    one_line_more lines (line.Tick n) (map (answered_at lines) due) _ (map Coming.begins all ++ []) (adds_tick lines n)
    (all-append (λ (c : Coming). IsAsked (lines ++ line.Tick n ∷ []) (query_of c)) (map Coming.begins all) []
    (all-map (IsAsked lines) (λ (c : Coming). IsAsked (lines ++ line.Tick n ∷ []) (query_of c)) Coming.begins (λ a asked. asked_more lines (line.Tick n ∷ []) a asked) all
    (all-sorted_by (IsAsked lines) (due_first lines) due (all-filter (IsAsked lines) (is_due lines n) (left_in lines) (all_left_asked lines)))) tt)
    (ap (map mark_of) (append-nil (map Coming.begins all)) ∙ due_marks lines due)
comes_more lines (line.Cancel n) is =
    let those : List Asked = filter (is_numbered n) (left_in lines) in
    one_line_more lines (line.Cancel n) (map (cancelled_at lines) those) _ (map Coming.cancels those) (adds_cancel lines n)
    (all-map (IsAsked lines) (λ (c : Coming). IsAsked (lines ++ line.Cancel n ∷ []) (query_of c)) Coming.cancels (λ a asked. asked_more lines (line.Cancel n ∷ []) a asked) those
    (all-filter (IsAsked lines) (is_numbered n) (left_in lines) (all_left_asked lines)))
    (cancel_marks lines n those (all-passed (is_numbered n) (left_in lines)))

query_leaves : (lines : List Line) (query : Query) (delay : Option ℕ) → query.delay ≡ delay → IfSome delay (λ d. (1 ≤ d) × (d ≤ 4294967295))
    → left_in (lines ++ line.Query query ∷ []) ≡ left_in lines ++ waits_with lines query delay
query_leaves lines query None is range = (adds_answered lines query is).waiting_are ∙ sym (append-nil (left_in lines))
query_leaves lines query (Some delay) is range = (adds_delayed lines query delay is range.0).waiting_are

-- who waits behind one line more
pub left_more_line : (lines : List Line) (l : Line) → IsLine l → left_in (lines ++ l ∷ []) ≡ left_at_line lines l
left_more_line lines (line.Doc doc) is = (adds_doc lines doc).waiting_are
left_more_line lines (line.Query query) is = query_leaves lines query query.delay refl is.delay
left_more_line lines (line.Tick n) is = (adds_tick lines n).waiting_are
left_more_line lines (line.Cancel n) is = (adds_cancel lines n).waiting_are

-- the answered queries behind one line more
begun_begin : (queries : List Asked) → filter_map begun_by (map Coming.begins queries) ≡ queries
begun_begin [] = refl
begun_begin (a ∷ queries) = ap (λ (l : List Asked). a ∷ l) (begun_begin queries)

pub answered_more : (lines : List Line) (l : Line) → IsLine l → answered_in (lines ++ l ∷ []) ≡ answered_in lines ++ answered_at_line lines l
answered_more lines l is =
    let a : List Asked = answered_at_line lines l in
    let c : List Asked = cancelled_at_line lines l in
    sym (begun_in_order (lines ++ l ∷ []))
    ∙ (ap (filter_map begun_by) (comes_more lines l is)
    ∙ (filter_map-append begun_by (come_in lines) (come_at_line lines l)
    ∙ (ap (λ (q : List Asked). q ++ filter_map begun_by (come_at_line lines l)) (begun_in_order lines)
    ∙ ap (λ (q : List Asked). answered_in lines ++ q)
    (filter_map-append begun_by (map Coming.begins a) (map Coming.cancels c)
    ∙ (ap (λ (q : List Asked). q ++ filter_map begun_by (map Coming.cancels c)) (begun_begin a)
    ∙ (ap (λ (q : List Asked). a ++ q) (none_begun c) ∙ append-nil a))))))

-- what comes at some lines comes first, whatever lines follow
pub comes_first : (lines rest : List Line) → AllByRecursion IsLine rest → IsPrefix (come_in lines) (comings_of (lines ++ rest))
unfolding comings_of
comes_first lines [] are = (map Coming.cancels (left_in lines), ap (λ (all : List Line). come_in all ++ map Coming.cancels (left_in all)) (sym (append-nil lines)))
comes_first lines (l ∷ rest) are =
    let later = comes_first (lines ++ l ∷ []) rest are.1 in (
      come_at_line lines l ++ later.0,
      sym (append_assoc (come_in lines) (come_at_line lines l) later.0)
          ∙ (ap (λ (front : List Coming). front ++ later.0) (sym (comes_more lines l are.0))
          ∙ (later.1 ∙ ap comings_of (append_assoc lines (l ∷ []) rest))),
    )
