-- What comes, and the replies and the answered queries.
use Rattle.std.proofs.Common.{◌≡◌, ℕ, List, [], ◌∷◌, ◌++◌, true, cond, Some, refl, sym, ap, ◌∙◌, map, filter, append-nil}
use Rattle.std.specs.Prelude.{option_map, slice_get}
use Rattle.std.specs.List.{AllByRecursion, cons_option, filter_map}
use Rattle.std.proofs.lemmas.List.{map-append}
use Rattle.std.proofs.lemmas.List.Elements.{filter_map-append}
use Rattle.std.proofs.lemmas.Option.{slice_get-map}
use Rattle.query_model.specs.declared.line.Line.{Line}
use Rattle.query_model.specs.declared.reply.Reply.{Reply}
use Rattle.query_model.specs.declared.reply.Reply.TheVariants as reply
use Rattle.query_model.specs.Order.{Asked, Outcome, Turn, asked_in, comes_before, due_of, left_in, outcome_of, replies_of, turn_by, turn_of, turns_of}
use Rattle.query_model.specs.Sorting.{sorted_by, IsOrder}
use Rattle.query_model.proofs.ListLaws.{all-filter, all-map, filter-filter}
use Rattle.query_model.proofs.SortedLists.{all-sorted_by, map-sorted_by}
use Rattle.query_model.proofs.SortingLaws.{turns_order}
use Rattle.fan_model.specs.Answered.{answered_before, answered_in, is_answered, is_answered_by, line_of, standing}
use Rattle.fan_model.specs.Comings.{Coming, ComesAt, IsAsked, begun_by, come_in, comes, comes_by, coming_by, coming_of, comings_of, query_of, reply_to}
use Rattle.fan_model.specs.Places.{IsReplyAt}
use Rattle.fan_model.proofs.AskedLaws.{all_asked}
use Rattle.fan_model.proofs.Sorts.{filter-sorted_by, map-map}

-- the turn of a query that comes at a line
abbrev pub turn_as : List Line → Asked → Turn
turn_as lines a = record { place = line_of (outcome_of lines a); due = due_of lines a; number = a.number; reply = (reply_to lines (coming_of lines a)).1 }

turns_as : (lines : List Line) (queries : List Asked) → filter_map (turn_of lines) queries ≡ map (turn_as lines) (filter (comes lines) queries)
turns_as lines [] = refl
turns_as lines (a ∷ queries) = by (outcome_of lines a) refl (turns_as lines queries)
  where
    T : List Turn
    T = filter_map (turn_of lines) queries

    F : List Asked
    F = filter (comes lines) queries

    turn_at : Outcome → Turn
    turn_at o = record { place = line_of o; due = due_of lines a; number = a.number; reply = (reply_to lines (coming_by a o)).1 }

    by : (o : Outcome) → outcome_of lines a ≡ o → T ≡ map (turn_as lines) F
        → cons_option (turn_by lines a o) T ≡ map (turn_as lines) (cond (comes_by o) (a ∷ F) F)
    by (Outcome.answered place) is rest =
        ap (λ (l : List Turn). turn_at (Outcome.answered place) ∷ l) rest ∙ ap (λ (o : Outcome). turn_at o ∷ map (turn_as lines) F) (sym is)
    by (Outcome.cancelled place) is rest =
        ap (λ (l : List Turn). turn_at (Outcome.cancelled place) ∷ l) rest ∙ ap (λ (o : Outcome). turn_at o ∷ map (turn_as lines) F) (sym is)
    by Outcome.left is rest = rest

-- the queries that come at lines, in order
abbrev pub coming_queries : List Line → List Asked
coming_queries lines = sorted_by (answered_before lines) (filter (comes lines) (asked_in lines))

pub turns_sorted : (lines : List Line) → turns_of lines ≡ map (turn_as lines) (coming_queries lines)
turns_sorted lines =
    ap (sorted_by comes_before) (turns_as lines (asked_in lines)) ∙ map-sorted_by (turn_as lines) comes_before (filter (comes lines) (asked_in lines))

abbrev said : Turn → ℕ × Reply
said t = (t.number, t.reply)

reply_number : (lines : List Line) (a : Asked) (o : Outcome) → reply_to lines (coming_by a o) ≡ (a.number, (reply_to lines (coming_by a o)).1)
reply_number lines a (Outcome.answered place) = refl
reply_number lines a (Outcome.cancelled place) = refl
reply_number lines a Outcome.left = refl

said_comings : (lines : List Line) → map (reply_to lines) (come_in lines) ≡ map said (turns_of lines)
unfolding come_in
said_comings lines =
    let both : Asked → ℕ × Reply = λ a. reply_to lines (coming_of lines a) in
    map-map (coming_of lines) (reply_to lines) both (λ a. refl) (coming_queries lines)
    ∙ (sym (map-map (turn_as lines) said both (λ a. sym (reply_number lines a (outcome_of lines a))) (coming_queries lines))
    ∙ ap (map said) (sym (turns_sorted lines)))

-- all that comes gives all replies
pub all_replied : (lines : List Line) → map (reply_to lines) (comings_of lines) ≡ replies_of lines
unfolding comings_of replies_of
all_replied lines =
    map-append (reply_to lines) (come_in lines) (map Coming.cancels (left_in lines))
    ∙ (ap (λ (l : List (ℕ × Reply)). l ++ map (reply_to lines) (map Coming.cancels (left_in lines))) (said_comings lines)
    ∙ ap (λ (l : List (ℕ × Reply)). map said (turns_of lines) ++ l)
    (map-map Coming.cancels (reply_to lines) (λ (a : Asked). (a.number, reply.Cancelled)) (λ a. refl) (left_in lines)))

pub reply_at : (lines : List Line) (place : ℕ) (coming : Coming) → ComesAt lines place coming
    → IsReplyAt lines place (reply_to lines coming).0 (reply_to lines coming).1
reply_at lines place coming is =
    let both : slice_get (map (reply_to lines) (comings_of lines)) place ≡ Some (reply_to lines coming) = slice_get-map (reply_to lines) (comings_of lines) place ∙ ap (option_map (reply_to lines)) is.at in
    record { at = ap (λ (l : List (ℕ × Reply)). slice_get l place) (sym (all_replied lines)) ∙ both }

-- the queries that are begun are the answered ones
order_of : (lines : List Line) → IsOrder (answered_before lines)
order_of lines = record {
  one_way = λ a b h. turns_order.one_way (standing lines a) (standing lines b) h;
  between = λ a b c h g. turns_order.between (standing lines a) (standing lines b) (standing lines c) h g;
}

begun-filter : (lines : List Line) (queries : List Asked) → filter_map begun_by (map (coming_of lines) queries) ≡ filter (is_answered lines) queries
begun-filter lines [] = refl
begun-filter lines (a ∷ queries) = by (outcome_of lines a) (begun-filter lines queries)
  where
    B : List Asked
    B = filter_map begun_by (map (coming_of lines) queries)

    F : List Asked
    F = filter (is_answered lines) queries

    by : (o : Outcome) → B ≡ F → cons_option (begun_by (coming_by a o)) B ≡ cond (is_answered_by o) (a ∷ F) F
    by (Outcome.answered place) rest = ap (λ (l : List Asked). a ∷ l) rest
    by (Outcome.cancelled place) rest = rest
    by Outcome.left rest = rest

answered_come : (o : Outcome) → is_answered_by o ≡ true → comes_by o ≡ true
answered_come (Outcome.answered place) h = refl
answered_come (Outcome.cancelled place) h = refl
answered_come Outcome.left h = h

pub begun_in_order : (lines : List Line) → filter_map begun_by (come_in lines) ≡ answered_in lines
unfolding come_in answered_in
begun_in_order lines =
    begun-filter lines (coming_queries lines)
    ∙ (filter-sorted_by (is_answered lines) (answered_before lines) (order_of lines) (filter (comes lines) (asked_in lines))
    ∙ ap (sorted_by (answered_before lines))
    (filter-filter (is_answered lines) (comes lines) (λ a h. answered_come (outcome_of lines a) h) (asked_in lines)))

pub none_begun : (queries : List Asked) → filter_map begun_by (map Coming.cancels queries) ≡ []
none_begun [] = refl
none_begun (a ∷ queries) = none_begun queries

pub all_begun : (lines : List Line) → filter_map begun_by (comings_of lines) ≡ answered_in lines
unfolding comings_of
all_begun lines =
    filter_map-append begun_by (come_in lines) (map Coming.cancels (left_in lines))
    ∙ (ap (λ (l : List Asked). filter_map begun_by (come_in lines) ++ l) (none_begun (left_in lines))
    ∙ (append-nil (filter_map begun_by (come_in lines)) ∙ begun_in_order lines))

-- what comes are queries of the lines
pub all_come_asked : (lines : List Line) → AllByRecursion (λ (c : Coming). IsAsked lines (query_of c)) (come_in lines)
unfolding come_in
all_come_asked lines =
    all-map (IsAsked lines) (λ (c : Coming). IsAsked lines (query_of c)) (coming_of lines)
    (λ a is. is_moved a (outcome_of lines a) is) (coming_queries lines)
    (all-sorted_by (IsAsked lines) (answered_before lines) (filter (comes lines) (asked_in lines))
    (all-filter (IsAsked lines) (comes lines) (asked_in lines) (all_asked lines)))
  where
    is_moved : (a : Asked) (o : Outcome) → IsAsked lines a → IsAsked lines (query_of (coming_by a o))
    is_moved a (Outcome.answered place) is = is
    is_moved a (Outcome.cancelled place) is = is
    is_moved a Outcome.left is = is

pub all_left_asked : (lines : List Line) → AllByRecursion (IsAsked lines) (left_in lines)
all_left_asked lines = all-filter (IsAsked lines) _ (asked_in lines) (all_asked lines)
