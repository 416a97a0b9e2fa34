-- The order of the answered queries, and how many tasks they have.
use Rattle.std.proofs.Common.{◌≡◌, ℕ, ◌+◌, ◌*◌, List, [], ◌∷◌, ◌++◌, length, Bool, true, cond, Option, Some, None, refl, sym, ap, ◌∙◌, arith, map, filter, length-append, append-nil}
use Rattle.std.specs.List.{cons_option, filter_map, range_with_len}
use Rattle.std.proofs.lemmas.List.{take-append-drop}
use Rattle.std.proofs.lemmas.List.Elements.{filter-append}
use Rattle.std.proofs.lemmas.List.FromFn.{length-map-range_with_len}
use Rattle.fan_base.specs.declared.doc.Doc.{Doc}
use Rattle.fan_base.specs.declared.number.ExecId.{ExecId}
use Rattle.query_model.specs.declared.line.Ask.{Ask}
use Rattle.query_model.specs.declared.line.Ask.TheVariants as ask
use Rattle.query_model.specs.declared.line.Line.{Line}
use Rattle.query_model.specs.declared.reply.Reply.{Reply}
use Rattle.query_model.specs.declared.reply.Reply.TheVariants as reply
use Rattle.query_model.specs.Answers.{answer}
use Rattle.query_model.specs.Order.{Asked, Outcome, Turn, asked_in, comes_before, docs_before, due_of, left_in, outcome_of, replies_of, turn_by, turn_of, turns_of}
use Rattle.query_model.specs.Sorting.{sorted_by}
use Rattle.query_model.proofs.ListLaws.{filter-map}
use Rattle.query_model.proofs.SortedLists.{map-sorted_by}
use Rattle.query_model.proofs.SortingLaws.{turns_order}
use Rattle.fan_model.specs.Answered.{answered_in, early_of, is_answered, is_answered_by, late_of, line_of}
use Rattle.fan_model.specs.Laws.{answer_of, is_answer, tells}
use Rattle.fan_model.specs.Tasks.{task_run, task_runs}
use Rattle.fan_model.proofs.Sorts.{filter-sorted_by}

pub early_or_late : {X : Type 0} (stop_at : Option ℕ) (xs : List X) → early_of stop_at xs ++ late_of stop_at xs ≡ xs
early_or_late None xs = append-nil xs
early_or_late (Some n) xs = take-append-drop n xs

pub task_count : (lines : List Line) (shards : ℕ) (exec : ExecId) (queries : List Asked) → length (task_runs lines shards exec queries) ≡ length queries * shards
task_count lines shards exec [] = omega arith
task_count lines shards exec (q ∷ qs) =
    let one = length-map-range_with_len (task_run lines shards exec q) 0 shards in
    let both : length (task_runs lines shards exec (q ∷ qs)) ≡ length (map (task_run lines shards exec q) (range_with_len 0 shards)) + length (task_runs lines shards exec qs) =
    length-append (map (task_run lines shards exec q) (range_with_len 0 shards)) (task_runs lines shards exec qs) in
    let rest = task_count lines shards exec qs in
    omega arith

-- the turn of an answered query
abbrev turn_with_answer : List Line → Asked → Turn
turn_with_answer lines a = record { place = line_of (outcome_of lines a); due = due_of lines a; number = a.number; reply = answer a.query.ask (docs_before lines a) }

abbrev has_answer : Turn → Bool
has_answer t = tells t.reply

pub tell_all : (asks : Ask) (docs : List Doc) → tells (answer asks docs) ≡ true
tell_all (ask.Find e) docs = refl
tell_all (ask.Count e) docs = refl
tell_all (ask.Present e) docs = refl
tell_all (ask.Top k words) docs = refl

-- of the turns of queries those with answers
answered_turns : (lines : List Line) (queries : List Asked)
    → filter has_answer (filter_map (turn_of lines) queries) ≡ map (turn_with_answer lines) (filter (is_answered lines) queries)
answered_turns lines [] = refl
answered_turns lines (a ∷ queries) = by (outcome_of lines a) refl (answered_turns lines queries)
  where
    mk : ℕ → Turn
    mk place = record { place = place; due = due_of lines a; number = a.number; reply = answer a.query.ask (docs_before lines a) }

    T : List Turn
    T = filter_map (turn_of lines) queries

    F : List Asked
    F = filter (is_answered lines) queries

    by : (o : Outcome) → outcome_of lines a ≡ o → filter has_answer T ≡ map (turn_with_answer lines) F
        → filter has_answer (cons_option (turn_by lines a o) T) ≡ map (turn_with_answer lines) (cond (is_answered_by o) (a ∷ F) F)
    by (Outcome.answered place) is rest =
        ap (λ (b : Bool). cond b (mk place ∷ filter has_answer T) (filter has_answer T)) (tell_all a.query.ask (docs_before lines a))
        ∙ (ap (λ (l : List Turn). mk place ∷ l) rest ∙ ap (λ (o : Outcome). mk (line_of o) ∷ map (turn_with_answer lines) F) (sym is))
    by (Outcome.cancelled place) is rest = rest
    by Outcome.left is rest = rest

abbrev said : Turn → ℕ × Reply
said t = (t.number, t.reply)

abbrev unsaid : Asked → ℕ × Reply
unsaid a = (a.number, reply.Cancelled)

none_unsaid : (queries : List Asked) → filter is_answer (map unsaid queries) ≡ []
none_unsaid [] = refl
none_unsaid (a ∷ queries) = none_unsaid queries

said_answers : (lines : List Line) (queries : List Asked) → map said (map (turn_with_answer lines) queries) ≡ map (answer_of lines) queries
said_answers lines [] = refl
said_answers lines (a ∷ queries) = ap (λ (l : List (ℕ × Reply)). answer_of lines a ∷ l) (said_answers lines queries)

pub answers_in_order : (lines : List Line) → filter is_answer (replies_of lines) ≡ map (answer_of lines) (answered_in lines)
unfolding replies_of answered_in
answers_in_order lines =
    let sorted : filter has_answer (turns_of lines) ≡ map (turn_with_answer lines) (answered_in lines) =
    filter-sorted_by has_answer comes_before turns_order (filter_map (turn_of lines) (asked_in lines))
    ∙ (ap (sorted_by comes_before) (answered_turns lines (asked_in lines))
    ∙ map-sorted_by (turn_with_answer lines) comes_before (filter (is_answered lines) (asked_in lines))) in
    filter-append is_answer (map said (turns_of lines)) (map unsaid (left_in lines))
    ∙ (ap (λ (l : List (ℕ × Reply)). filter is_answer (map said (turns_of lines)) ++ l) (none_unsaid (left_in lines))
    ∙ (append-nil (filter is_answer (map said (turns_of lines)))
    ∙ (filter-map is_answer said (turns_of lines) ∙ (ap (map said) sorted ∙ said_answers lines (answered_in lines)))))
