-- One walk over the lines gives the replies in the order of answers.
use Rattle.std.proofs.Common.{◌≡◌, ℕ, ◌+◌, ◌<◌, ◌≤◌, List, [], ◌∷◌, ◌++◌, length, Bool, true, ◌&&◌, ◌||◌, not, cond, nat_lt, Option, Some, None, refl, sym, ap, ◌∙◌, subst, arith, append_assoc, append-nil}
use Rattle.std.specs.Prelude.{nat_le, map, filter, ◌==◌}
use Rattle.std.specs.List.{AllByRecursion, count_by, fold, sum_by}
use Rattle.std.specs.Option.{IfSome}
use Rattle.std.proofs.lemmas.Bool.{eqb-true}
use Rattle.std.proofs.lemmas.Bool.Decides.{nat_tests}
use Rattle.std.proofs.lemmas.List.{map-append}
use Rattle.std.proofs.lemmas.List.Sums.{sum_by_push}
use Rattle.std.proofs.Math.Seq.{take-append_seam}
use Rattle.fan_base.specs.declared.doc.Doc.{Doc}
use Rattle.query_model.specs.declared.line.Ask.{Ask}
use Rattle.query_model.specs.declared.line.Line.{Line}
use Rattle.query_model.specs.declared.line.Line.TheVariants as line
use Rattle.query_model.specs.declared.line.Query.{Query}
use Rattle.query_model.specs.declared.reply.Reply.{Reply}
use Rattle.query_model.specs.declared.reply.Reply.TheVariants as reply
use Rattle.query_model.specs.declared.reply.Waiting.{Waiting}
use Rattle.query_model.specs.Lines.{is_query, ticks_of}
use Rattle.query_model.specs.Sorting.{sorted_by}
use Rattle.query_model.specs.Documents.{doc_of_line, docs_of, IsLine}
use Rattle.query_model.specs.Answers.{answer}
use Rattle.query_model.specs.Order.{Asked, asked_in, due_with, due_of, docs_before, now_at, Turn, comes_before, turns_of, left_in, replies_of}
use Rattle.query_model.specs.LineByLine.{next_asked, answered_at, cancelled_at, answered_now, is_due, is_numbered}
use Rattle.query_model.specs.Walk.{Progress, start, due_before, is_due_by, has_number, answered, cancelled, asked_with, step, progress_of, all_replies}
use Rattle.query_model.proofs.ListFacts.{filter_map-push}
use Rattle.query_model.proofs.OrderLaws.{docs_before-more, due_of-more, now_at-more, now_at-all}
use Rattle.query_model.proofs.ListLaws.{all-filter, all-implies, all-map, all-passed, filter-map, filter-same, map-same}
use Rattle.query_model.proofs.SortedLists.{map-sorted_by, sorted-const, sorted-same}
use Rattle.query_model.proofs.LineByLine.{all_below, adds_doc, adds_answered, adds_delayed, adds_tick, adds_cancel}

-- what is kept of a query that waits
abbrev kept_of : List Line → Asked → Waiting
kept_of ls a = record { number = a.number; due = due_of ls a; reply = answer a.query.ask (docs_before ls a) }

abbrev made : ℕ → Ask → ℕ → List Doc → Waiting
made number asks due docs = record { number = number; due = due; reply = answer asks docs }

abbrev said : Turn → ℕ × Reply
said t = (t.number, t.reply)

-- Behind these lines so much is kept.
record Stands (ls : List Line) (p : Progress) : Type 0 where
  now : p.now ≡ sum_by ticks_of ls
  documents : p.documents ≡ docs_of ls
  asked : p.asked ≡ count_by is_query ls
  waiting : p.waiting ≡ map (kept_of ls) (left_in ls)
  replies : p.replies ≡ map said (turns_of ls)

kept-more : (ls : List Line) (l : Line) (xs : List Asked) → AllByRecursion (λ (a : Asked). a.place < length ls) xs → map (kept_of ls) xs ≡ map (kept_of (ls ++ l ∷ [])) xs
kept-more ls l xs below = map-same (kept_of ls) (kept_of (ls ++ l ∷ [])) xs
    (all-implies (λ (a : Asked). a.place < length ls) (λ (a : Asked). kept_of ls a ≡ kept_of (ls ++ l ∷ []) a) (λ a low. same a low) xs below)
  where
    same : (a : Asked) → a.place < length ls → kept_of ls a ≡ kept_of (ls ++ l ∷ []) a
    same a low = ap (λ n. made a.number a.query.ask n (docs_before ls a)) (sym (due_of-more ls l a (omega arith))) ∙ ap (λ ds. made a.number a.query.ask (due_of (ls ++ l ∷ []) a) ds) (sym (docs_before-more ls l a low))

left_below : (ls : List Line) → AllByRecursion (λ (a : Asked). a.place < length ls) (left_in ls)
left_below ls = all-filter (λ (a : Asked). a.place < length ls) _ (asked_in ls) (all_below ls)

-- the waiting, where those that pass a test wait on
wait_on : (ls : List Line) (l : Line) (test : Asked → Bool) (q : Waiting → Bool) (waiting : List Waiting) → ((a : Asked) → q (kept_of ls a) ≡ test a)
    → waiting ≡ map (kept_of ls) (left_in ls) → left_in (ls ++ l ∷ []) ≡ filter test (left_in ls)
    → filter q waiting ≡ map (kept_of (ls ++ l ∷ [])) (left_in (ls ++ l ∷ []))
wait_on ls l test q waiting same is left =
    ap (filter q) is ∙ (filter-map q (kept_of ls) (left_in ls) ∙ (ap (map (kept_of ls)) (filter-same (λ a. q (kept_of ls a)) test same (left_in ls))
    ∙ (kept-more ls l (filter test (left_in ls)) (all-filter (λ (a : Asked). a.place < length ls) test (left_in ls) (left_below ls))
    ∙ ap (map (kept_of (ls ++ l ∷ []))) (sym left))))

-- those that wait all wait on
all_wait : (ls : List Line) (l : Line) (waiting : List Waiting) → waiting ≡ map (kept_of ls) (left_in ls) → left_in (ls ++ l ∷ []) ≡ left_in ls
    → waiting ≡ map (kept_of (ls ++ l ∷ [])) (left_in (ls ++ l ∷ []))
all_wait ls l waiting is left = is ∙ (kept-more ls l (left_in ls) (left_below ls) ∙ ap (map (kept_of (ls ++ l ∷ []))) (sym left))

turns_more : (ls : List Line) (l : Line) (ts : List Turn) (replies more : List (ℕ × Reply)) → replies ≡ map said (turns_of ls)
    → turns_of (ls ++ l ∷ []) ≡ turns_of ls ++ ts → more ≡ map said ts → replies ++ more ≡ map said (turns_of (ls ++ l ∷ []))
turns_more ls l ts replies more is adds same =
    ap (λ rs. rs ++ more) is ∙ (ap (λ rs. map said (turns_of ls) ++ rs) same ∙ (sym (map-append said (turns_of ls) ts) ∙ ap (map said) (sym adds)))

no_turns : (ls : List Line) (l : Line) (replies : List (ℕ × Reply)) → replies ≡ map said (turns_of ls)
    → turns_of (ls ++ l ∷ []) ≡ turns_of ls ++ [] → replies ≡ map said (turns_of (ls ++ l ∷ []))
no_turns ls l replies is adds = is ∙ ap (map said) (sym (append-nil (turns_of ls)) ∙ sym adds)

stands_doc : (ls : List Line) (p : Progress) (doc : Doc) → Stands ls p → Stands (ls ++ line.Doc doc ∷ []) (step p (line.Doc doc))
stands_doc ls p doc s =
    let adds = adds_doc ls doc in
    record {
      now = omega (arith, s.now, sum_by_push ticks_of ls (line.Doc doc));
      documents = ap (λ ds. ds ++ doc ∷ []) s.documents ∙ sym (filter_map-push doc_of_line ls (line.Doc doc));
      asked = omega (arith, s.asked, sum_by_push (λ l. cond (is_query l) 1 0) ls (line.Doc doc));
      waiting = all_wait ls (line.Doc doc) p.waiting s.waiting adds.waiting_are;
      replies = no_turns ls (line.Doc doc) p.replies s.replies adds.turns_are;
    }

-- a query, by its delay
no_doc : (ls : List Line) (query : Query) → docs_of (ls ++ line.Query query ∷ []) ≡ docs_of ls
no_doc ls query = filter_map-push doc_of_line ls (line.Query query) ∙ append-nil (docs_of ls)

stands_answered : (ls : List Line) (p : Progress) (query : Query) → query.delay ≡ None → Stands ls p → Stands (ls ++ line.Query query ∷ []) (asked_with p query.ask None)
stands_answered ls p query none s =
    let adds = adds_answered ls query none in
    let many : p.asked + 1 ≡ 1 + count_by is_query ls = omega (arith, s.asked) in
    record {
      now = omega (arith, s.now, sum_by_push ticks_of ls (line.Query query));
      documents = s.documents ∙ sym (no_doc ls query);
      asked = omega (arith, s.asked, sum_by_push (λ l. cond (is_query l) 1 0) ls (line.Query query));
      waiting = all_wait ls (line.Query query) p.waiting s.waiting adds.waiting_are;
      replies = turns_more ls (line.Query query) (answered_now ls query ∷ []) p.replies ((p.asked + 1, answer query.ask p.documents) ∷ []) s.replies adds.turns_are
          (ap (λ n. (n, answer query.ask p.documents) ∷ []) many ∙ ap (λ ds. (1 + count_by is_query ls, answer query.ask ds) ∷ []) s.documents);
    }

abbrev front_of : List Line → Query → List Waiting
front_of ls query = map (kept_of (ls ++ line.Query query ∷ [])) (left_in ls)

stands_waits : (ls : List Line) (p : Progress) (query : Query) (delay : ℕ) → query.delay ≡ Some delay → 1 ≤ delay → Stands ls p
    → Stands (ls ++ line.Query query ∷ []) (asked_with p query.ask (Some delay))
stands_waits ls p query delay is some s =
    let adds = adds_delayed ls query delay is some in
    let many : p.asked + 1 ≡ 1 + count_by is_query ls = omega (arith, s.asked) in
    let at : now_at (ls ++ line.Query query ∷ []) (length ls) ≡ p.now = now_at-more ls (line.Query query) (length ls) (omega arith) ∙ (now_at-all ls ∙ sym s.now) in
    let due : due_of (ls ++ line.Query query ∷ []) (next_asked ls query) ≡ p.now + delay =
    ap (λ d. due_with (ls ++ line.Query query ∷ []) (length ls) d) is ∙ ap (λ n. n + delay) at in
    let docs : docs_before (ls ++ line.Query query ∷ []) (next_asked ls query) ≡ p.documents = ap docs_of (take-append_seam ls (line.Query query ∷ [])) ∙ sym s.documents in
    record {
      now = omega (arith, s.now, sum_by_push ticks_of ls (line.Query query));
      documents = s.documents ∙ sym (no_doc ls query);
      asked = omega (arith, s.asked, sum_by_push (λ l. cond (is_query l) 1 0) ls (line.Query query));
      waiting = ap (λ ws. ws ++ made (p.asked + 1) query.ask (p.now + delay) p.documents ∷ []) (s.waiting ∙ kept-more ls (line.Query query) (left_in ls) (left_below ls))
          ∙ (ap (λ n. front_of ls query ++ made n query.ask (p.now + delay) p.documents ∷ []) many
          ∙ (ap (λ n. front_of ls query ++ made (1 + count_by is_query ls) query.ask n p.documents ∷ []) (sym due)
          ∙ (ap (λ ds. front_of ls query ++ made (1 + count_by is_query ls) query.ask (due_of (ls ++ line.Query query ∷ []) (next_asked ls query)) ds ∷ []) (sym docs)
          ∙ (sym (map-append (kept_of (ls ++ line.Query query ∷ [])) (left_in ls) (next_asked ls query ∷ []))
          ∙ ap (map (kept_of (ls ++ line.Query query ∷ []))) (sym adds.waiting_are)))));
      replies = no_turns ls (line.Query query) p.replies s.replies adds.turns_are;
    }

-- what comes at one line comes by due tick and number
same_place : (n : ℕ) (b : Bool) → (nat_lt n n || (n == n && b)) ≡ b
same_place n b = grind (arith, nat_tests)

answers_same : (ls : List Line) (xs : List Asked) → map answered (map (kept_of ls) xs) ≡ map said (map (answered_at ls) xs)
answers_same ls [] = refl
answers_same ls (x ∷ xs) = ap (λ rs. answered (kept_of ls x) ∷ rs) (answers_same ls xs)

come_sorted : (ls : List Line) (xs : List Asked) → map answered (sorted_by due_before (map (kept_of ls) xs)) ≡ map said (sorted_by comes_before (map (answered_at ls) xs))
come_sorted ls xs =
    let first : Asked → Asked → Bool = λ a b. due_before (kept_of ls a) (kept_of ls b) in
    ap (map answered) (map-sorted_by (kept_of ls) due_before xs)
    ∙ (answers_same ls (sorted_by first xs)
    ∙ sym (ap (map said) (map-sorted_by (answered_at ls) comes_before xs
    ∙ ap (map (answered_at ls)) (sorted-same (λ a b. comes_before (answered_at ls a) (answered_at ls b)) first (λ a b. same_place (length ls) (first a b)) xs))))

stands_tick : (ls : List Line) (p : Progress) (n : ℕ) → Stands ls p → Stands (ls ++ line.Tick n ∷ []) (step p (line.Tick n))
stands_tick ls p n s =
    let adds = adds_tick ls n in
    let total : p.now + n ≡ sum_by ticks_of ls + n = ap (λ m. m + n) s.now in
    record {
      now = total ∙ sym (sum_by_push ticks_of ls (line.Tick n));
      documents = s.documents ∙ sym (filter_map-push doc_of_line ls (line.Tick n) ∙ append-nil (docs_of ls));
      asked = omega (arith, s.asked, sum_by_push (λ l. cond (is_query l) 1 0) ls (line.Tick n));
      waiting = wait_on ls (line.Tick n) (λ a. not (is_due ls n a)) (λ w. not (is_due_by (p.now + n) w)) p.waiting (λ a. ap (λ m. not (nat_le (due_of ls a) m)) total) s.waiting adds.waiting_are;
      replies = turns_more ls (line.Tick n) (sorted_by comes_before (map (answered_at ls) (filter (is_due ls n) (left_in ls)))) p.replies
          (map answered (sorted_by due_before (filter (is_due_by (p.now + n)) p.waiting))) s.replies adds.turns_are
          (ap (λ m. map answered (sorted_by due_before (filter (is_due_by m) p.waiting))) total
          ∙ (ap (λ ws. map answered (sorted_by due_before (filter (is_due_by (sum_by ticks_of ls + n)) ws))) s.waiting
          ∙ (ap (λ ws. map answered (sorted_by due_before ws)) (filter-map (is_due_by (sum_by ticks_of ls + n)) (kept_of ls) (left_in ls))
          ∙ come_sorted ls (filter (is_due ls n) (left_in ls)))));
    }

cancels_same : (ls : List Line) (xs : List Asked) → map cancelled (map (kept_of ls) xs) ≡ map said (map (cancelled_at ls) xs)
cancels_same ls [] = refl
cancels_same ls (x ∷ xs) = ap (λ rs. cancelled (kept_of ls x) ∷ rs) (cancels_same ls xs)

stands_cancel : (ls : List Line) (p : Progress) (n : ℕ) → Stands ls p → Stands (ls ++ line.Cancel n ∷ []) (step p (line.Cancel n))
stands_cancel ls p n s =
    let adds = adds_cancel ls n in
    let those : List Asked = filter (is_numbered n) (left_in ls) in
    record {
      now = omega (arith, s.now, sum_by_push ticks_of ls (line.Cancel n));
      documents = s.documents ∙ sym (filter_map-push doc_of_line ls (line.Cancel n) ∙ append-nil (docs_of ls));
      asked = omega (arith, s.asked, sum_by_push (λ l. cond (is_query l) 1 0) ls (line.Cancel n));
      waiting = wait_on ls (line.Cancel n) (λ a. not (is_numbered n a)) (λ w. not (has_number n w)) p.waiting (λ a. refl) s.waiting adds.waiting_are;
      replies = turns_more ls (line.Cancel n) (sorted_by comes_before (map (cancelled_at ls) those)) p.replies (map cancelled (filter (has_number n) p.waiting)) s.replies adds.turns_are
          (ap (λ ws. map cancelled (filter (has_number n) ws)) s.waiting
          ∙ (ap (map cancelled) (filter-map (has_number n) (kept_of ls) (left_in ls))
          ∙ (cancels_same ls those
          ∙ sym (sorted-const said (n, reply.Cancelled) comes_before (map (cancelled_at ls) those)
          (all-map (λ (a : Asked). is_numbered n a ≡ true) (λ (t : Turn). said t ≡ (n, reply.Cancelled)) (cancelled_at ls)
          (λ a yes. ap (λ (m : ℕ). (m, reply.Cancelled)) (sym (eqb-true n a.number yes))) those (all-passed (is_numbered n) (left_in ls)))))));
    }

stands_query : (ls : List Line) (p : Progress) (query : Query) (delay : Option ℕ) → query.delay ≡ delay → IfSome delay (λ d. (1 ≤ d) × (d ≤ 4294967295)) → Stands ls p
    → Stands (ls ++ line.Query query ∷ []) (asked_with p query.ask delay)
stands_query ls p query None is range s = stands_answered ls p query is s
stands_query ls p query (Some delay) is range s = stands_waits ls p query delay is range.0 s

stands_step : (ls : List Line) (p : Progress) (l : Line) → IsLine l → Stands ls p → Stands (ls ++ l ∷ []) (step p l)
stands_step ls p (line.Doc doc) is s = stands_doc ls p doc s
stands_step ls p (line.Query query) is s = stands_query ls p query query.delay refl is.delay s
stands_step ls p (line.Tick n) is s = stands_tick ls p n s
stands_step ls p (line.Cancel n) is s = stands_cancel ls p n s

stands_all : (ls rest : List Line) (p : Progress) → AllByRecursion IsLine rest → Stands ls p → Stands (ls ++ rest) (fold step p rest)
stands_all ls [] p are s = subst (λ xs. Stands xs p) (sym (append-nil ls)) s
stands_all ls (l ∷ rest) p are s =
    subst (λ xs. Stands xs (fold step (step p l) rest)) (append_assoc ls (l ∷ []) rest) (stands_all (ls ++ l ∷ []) rest (step p l) are.1 (stands_step ls p l are.0 s))

left_same : (ls : List Line) (xs : List Asked) → map cancelled (map (kept_of ls) xs) ≡ map (λ a. (a.number, reply.Cancelled)) xs
left_same ls [] = refl
left_same ls (x ∷ xs) = ap (λ rs. (x.number, reply.Cancelled) ∷ rs) (left_same ls xs)

pub one_walk : (ls : List Line) → AllByRecursion IsLine ls → replies_of ls ≡ all_replies (progress_of ls)
unfolding replies_of
one_walk ls are =
    let s = stands_all [] ls start are (record { now = refl; documents = refl; asked = refl; waiting = refl; replies = refl }) in
    sym (ap (λ rs. rs ++ map cancelled (progress_of ls).waiting) s.replies
    ∙ ap (λ rs. map said (turns_of ls) ++ rs) (ap (map cancelled) s.waiting ∙ left_same ls (left_in ls)))

-- what the walk keeps of lines, whatever they are
abbrev Counts : List Line → Progress → Type 0
Counts ls p = (p.now ≡ sum_by ticks_of ls) × (p.documents ≡ docs_of ls) × (p.asked ≡ count_by is_query ls)

count_query : (ls : List Line) (p : Progress) (query : Query) (delay : Option ℕ) → Counts ls p → Counts (ls ++ line.Query query ∷ []) (asked_with p query.ask delay)
count_query ls p query None (now, documents, asked) = (
  omega (arith, now, sum_by_push ticks_of ls (line.Query query)),
  documents ∙ sym (no_doc ls query),
  omega (arith, asked, sum_by_push (λ l. cond (is_query l) 1 0) ls (line.Query query)),
)
count_query ls p query (Some delay) (now, documents, asked) = (
  omega (arith, now, sum_by_push ticks_of ls (line.Query query)),
  documents ∙ sym (no_doc ls query),
  omega (arith, asked, sum_by_push (λ l. cond (is_query l) 1 0) ls (line.Query query)),
)

count_step : (ls : List Line) (p : Progress) (l : Line) → Counts ls p → Counts (ls ++ l ∷ []) (step p l)
count_step ls p (line.Doc doc) (now, documents, asked) = (
  omega (arith, now, sum_by_push ticks_of ls (line.Doc doc)),
  ap (λ ds. ds ++ doc ∷ []) documents ∙ sym (filter_map-push doc_of_line ls (line.Doc doc)),
  omega (arith, asked, sum_by_push (λ l. cond (is_query l) 1 0) ls (line.Doc doc)),
)
count_step ls p (line.Query query) h = count_query ls p query query.delay h
count_step ls p (line.Tick n) (now, documents, asked) = (
  omega (arith, now, sum_by_push ticks_of ls (line.Tick n)),
  documents ∙ sym (filter_map-push doc_of_line ls (line.Tick n) ∙ append-nil (docs_of ls)),
  omega (arith, asked, sum_by_push (λ l. cond (is_query l) 1 0) ls (line.Tick n)),
)
count_step ls p (line.Cancel n) (now, documents, asked) = (
  omega (arith, now, sum_by_push ticks_of ls (line.Cancel n)),
  documents ∙ sym (filter_map-push doc_of_line ls (line.Cancel n) ∙ append-nil (docs_of ls)),
  omega (arith, asked, sum_by_push (λ l. cond (is_query l) 1 0) ls (line.Cancel n)),
)

count_all : (ls rest : List Line) (p : Progress) → Counts ls p → Counts (ls ++ rest) (fold step p rest)
count_all ls [] p h = subst (λ xs. Counts xs p) (sym (append-nil ls)) h
count_all ls (l ∷ rest) p h =
    subst (λ xs. Counts xs (fold step (step p l) rest)) (append_assoc ls (l ∷ []) rest) (count_all (ls ++ l ∷ []) rest (step p l) (count_step ls p l h))

pub counts : (ls : List Line) → Counts ls (progress_of ls)
counts ls = count_all [] ls start (refl, refl, refl)

pub fold_more : (p : Progress) (ls : List Line) (l : Line) → fold step p (ls ++ l ∷ []) ≡ step (fold step p ls) l
fold_more p [] l = refl
fold_more p (k ∷ ls) l = fold_more (step p k) ls l
