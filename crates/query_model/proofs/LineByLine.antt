-- What one more line adds to the turns.
use Rattle.std.proofs.Common.{◌≡◌, ℕ, ◌+◌, ◌<◌, ◌≤◌, List, [], ◌∷◌, ◌++◌, length, take, Bool, true, false, ◌&&◌, ◌||◌, not, cond, nat_lt, Option, Some, None, refl, sym, ap, ◌∙◌, subst, arith, ◌⊎◌, inl, inr, length-append, append-nil}
use Rattle.std.specs.Prelude.{nat_le, map, filter, slice_get, is_none, ◌==◌}
use Rattle.std.specs.List.{AllByRecursion, count_by, filter_map, cons_option, sum_by}
use Rattle.std.specs.Option.{option_to_list}
use Rattle.std.proofs.lemmas.Bool.{lt-ltb, le-ltb, lt-leb}
use Rattle.std.proofs.lemmas.Bool.Decides.{nat_tests}
use Rattle.std.proofs.lemmas.List.Sums.{sum_by-cons, sum_by_push, sum_by-take-le}
use Rattle.std.proofs.lemmas.List.Elements.{filter-append}
use Rattle.std.proofs.Math.Seq.{take-append_seam}
use Rattle.fan_base.specs.declared.doc.Doc.{Doc}
use Rattle.query_model.specs.declared.line.Line.{Line}
use Rattle.query_model.specs.declared.line.Line.TheVariants as line
use Rattle.query_model.specs.declared.line.Query.{Query}
use Rattle.query_model.specs.declared.reply.Reply.TheVariants as reply
use Rattle.query_model.specs.Lines.{is_query, ticks_of}
use Rattle.query_model.specs.Sorting.{put_by, sorted_by, IsInOrder}
use Rattle.query_model.specs.Documents.{docs_of}
use Rattle.query_model.specs.Answers.{answer}
use Rattle.query_model.specs.Order.{Asked, asked_from, asked_in, now_at, due_tick, due_line, is_cancel_of, is_before, cancel_line, Outcome, outcome_by, outcome_after, outcome_of, due_with, due_of, docs_before, Turn, comes_before, turn_by, turn_of, turns_of, left_in}
use Rattle.query_model.specs.LineByLine.{next_asked, answered_at, cancelled_at, answered_now, is_due, is_numbered, numbered_before, Adds}
use Rattle.query_model.proofs.ListFacts.{filter_map-push}
use Rattle.query_model.proofs.ListLaws.{all-filter, all-implies}
use Rattle.query_model.proofs.SortedLists.{all-sorted_by, put-behind, put-front}
use Rattle.query_model.proofs.OrderLaws.{or_else, there, turn_of-more, find_below, find-none, now_at-more, now_at-all, due_below, turn_from}

-- what holds of each that is given holds of the list
all-filter_map : {A B : Type 0} (P : B → Type 0) (f : A → Option B) (xs : List A) → AllByRecursion (λ a. (b : B) → f a ≡ Some b → P b) xs → AllByRecursion P (filter_map f xs)
all-filter_map P f [] h = tt
all-filter_map {A = A} {B = B} P f (x ∷ xs) h = by (f x) refl (all-filter_map P f xs h.1)
  where
    by : (o : Option B) → f x ≡ o → AllByRecursion P (filter_map f xs) → AllByRecursion P (cons_option o (filter_map f xs))
    by (Some b) is rest = (h.0 b is, rest)
    by None is rest = rest

-- one more item behind all
sorted-push : {A : Type 0} (g : A → A → Bool) (t : A) (xs : List A) → AllByRecursion (λ x. g t x ≡ false) xs → sorted_by g (xs ++ t ∷ []) ≡ sorted_by g xs ++ t ∷ []
sorted-push g t [] h = refl
sorted-push g t (x ∷ xs) h = ap (put_by g x) (sorted-push g t xs h.1) ∙ put-front g x (sorted_by g xs) (t ∷ []) (h.0, tt)

-- Each item has a turn before a place, or else one at that place, or none.
record HasTurn (place : ℕ) (f h now : Asked → Option Turn) (a : Asked) : Type 0 where
  now_is : now a ≡ or_else (f a) (h a)
  old : (t : Turn) → f a ≡ Some t → t.place < place
  new : (t : Turn) → h a ≡ Some t → t.place ≡ place

old_first : (place : ℕ) (s t : Turn) → s.place < place → t.place ≡ place → comes_before s t ≡ true
old_first place s t low at = ap (λ (b : Bool). b || (s.place == t.place && (nat_lt s.due t.due || (s.due == t.due && nat_lt s.number t.number)))) (lt-ltb s.place t.place (omega arith))

new_later : (place : ℕ) (s t : Turn) → s.place < place → t.place ≡ place → comes_before t s ≡ false
new_later place s t low at = later s.place t.place (nat_lt t.due s.due || (t.due == s.due && nat_lt t.number s.number)) (omega arith)
  where
    later : (p q : ℕ) (b : Bool) → p < q → (nat_lt q p || (q == p && b)) ≡ false
    later p q b h = grind (arith, nat_tests)

-- the turns of items that are old, and those that come at the place
abbrev olds : (Asked → Option Turn) → List Asked → List Turn
olds f xs = sorted_by comes_before (filter_map f xs)

abbrev waiting_in : (Asked → Option Turn) → List Asked → List Asked
waiting_in f xs = filter (λ a. is_none (f a)) xs

all_old : (place : ℕ) (f h now : Asked → Option Turn) (xs : List Asked) → AllByRecursion (HasTurn place f h now) xs → AllByRecursion (λ (t : Turn). t.place < place) (olds f xs)
all_old place f h now xs each = all-sorted_by (λ (t : Turn). t.place < place) comes_before (filter_map f xs)
    (all-filter_map (λ (t : Turn). t.place < place) f xs (all-implies (HasTurn place f h now) (λ x. (t : Turn) → f x ≡ Some t → t.place < place) (λ x is. is.old) xs each))

all_new : (place : ℕ) (f h now : Asked → Option Turn) (xs : List Asked) → AllByRecursion (HasTurn place f h now) xs → AllByRecursion (λ (t : Turn). t.place ≡ place) (olds h (waiting_in f xs))
all_new place f h now xs each = all-sorted_by (λ (t : Turn). t.place ≡ place) comes_before (filter_map h (waiting_in f xs))
    (all-filter_map (λ (t : Turn). t.place ≡ place) h (waiting_in f xs)
    (all-filter (λ x. (t : Turn) → h x ≡ Some t → t.place ≡ place) (λ x. is_none (f x)) xs
    (all-implies (HasTurn place f h now) (λ x. (t : Turn) → h x ≡ Some t → t.place ≡ place) (λ x is. is.new) xs each)))

split-turns : (place : ℕ) (f h now : Asked → Option Turn) (xs : List Asked) → AllByRecursion (HasTurn place f h now) xs
    → olds now xs ≡ olds f xs ++ olds h (waiting_in f xs)
split-turns place f h now [] each = refl
split-turns place f h now (a ∷ xs) each = by_old (f a) refl (split-turns place f h now xs each.1)
  where
    by_new : (e : Option Turn) → h a ≡ e → f a ≡ None → olds now xs ≡ olds f xs ++ olds h (waiting_in f xs)
        → sorted_by comes_before (cons_option e (filter_map now xs)) ≡ olds f xs ++ sorted_by comes_before (cons_option e (filter_map h (waiting_in f xs)))
    by_new None is had rest = rest
    by_new (Some t) is had rest =
        let at : t.place ≡ place = each.0.new t is in
        ap (put_by comes_before t) rest
        ∙ put-behind comes_before t (olds f xs) (olds h (waiting_in f xs))
        (all-implies (λ (s : Turn). s.place < place) (λ (s : Turn). comes_before s t ≡ true) (λ s low. old_first place s t low at) (olds f xs) (all_old place f h now xs each.1))

    by_old : (o : Option Turn) → f a ≡ o → olds now xs ≡ olds f xs ++ olds h (waiting_in f xs) → olds now (a ∷ xs) ≡ olds f (a ∷ xs) ++ olds h (waiting_in f (a ∷ xs))
    by_old (Some t) is rest =
        let low : t.place < place = each.0.old t is in
        let n : now a ≡ Some t = each.0.now_is ∙ ap (λ (o : Option Turn). or_else o (h a)) is in
        ap (λ (o : Option Turn). sorted_by comes_before (cons_option o (filter_map now xs))) n
        ∙ (ap (put_by comes_before t) rest
        ∙ (put-front comes_before t (olds f xs) (olds h (waiting_in f xs))
        (all-implies (λ (s : Turn). s.place ≡ place) (λ (s : Turn). comes_before s t ≡ false) (λ s at. new_later place t s low at) (olds h (waiting_in f xs)) (all_new place f h now xs each.1))
        ∙ sym (ap (λ (o : Option Turn). sorted_by comes_before (cons_option o (filter_map f xs)) ++ sorted_by comes_before (filter_map h (cond (is_none o) (a ∷ waiting_in f xs) (waiting_in f xs)))) is)))
    by_old None is rest =
        let n : now a ≡ h a = each.0.now_is ∙ ap (λ (o : Option Turn). or_else o (h a)) is in
        ap (λ (o : Option Turn). sorted_by comes_before (cons_option o (filter_map now xs))) n
        ∙ (by_new (h a) refl is rest
        ∙ sym (ap (λ (o : Option Turn). sorted_by comes_before (cons_option o (filter_map f xs)) ++ sorted_by comes_before (filter_map h (cond (is_none o) (a ∷ waiting_in f xs) (waiting_in f xs)))) is))

-- those that wait on
split-waiting : (place : ℕ) (f h now : Asked → Option Turn) (xs : List Asked) → AllByRecursion (HasTurn place f h now) xs → waiting_in now xs ≡ filter (λ a. is_none (h a)) (waiting_in f xs)
split-waiting place f h now [] each = refl
split-waiting place f h now (a ∷ xs) each = by (f a) refl (split-waiting place f h now xs each.1)
  where
    by : (o : Option Turn) → f a ≡ o → waiting_in now xs ≡ filter (λ x. is_none (h x)) (waiting_in f xs) → waiting_in now (a ∷ xs) ≡ filter (λ x. is_none (h x)) (waiting_in f (a ∷ xs))
    by (Some t) is rest =
        let n : now a ≡ Some t = each.0.now_is ∙ ap (λ (o : Option Turn). or_else o (h a)) is in
        ap (λ (o : Option Turn). cond (is_none o) (a ∷ waiting_in now xs) (waiting_in now xs)) n
        ∙ (rest ∙ sym (ap (λ (o : Option Turn). filter (λ x. is_none (h x)) (cond (is_none o) (a ∷ waiting_in f xs) (waiting_in f xs))) is))
    by None is rest =
        let n : now a ≡ h a = each.0.now_is ∙ ap (λ (o : Option Turn). or_else o (h a)) is in
        ap (λ (o : Option Turn). cond (is_none o) (a ∷ waiting_in now xs) (waiting_in now xs)) n
        ∙ (ap (λ (l : List Asked). cond (is_none (h a)) (a ∷ l) l) rest
        ∙ sym (ap (λ (o : Option Turn). filter (λ x. is_none (h x)) (cond (is_none o) (a ∷ waiting_in f xs) (waiting_in f xs))) is))

-- the queries of lines, with one more line
asked_of : ℕ → ℕ → Line → Option Asked
asked_of number place (line.Doc doc) = None
asked_of number place (line.Query query) = Some (record { number = number; place = place; query = query })
asked_of number place (line.Tick n) = None
asked_of number place (line.Cancel n) = None

asked_alone : (number place : ℕ) (l : Line) → asked_from number place (l ∷ []) ≡ option_to_list (asked_of number place l)
unfolding asked_of
asked_alone number place (line.Doc doc) = refl
asked_alone number place (line.Query query) = refl
asked_alone number place (line.Tick n) = refl
asked_alone number place (line.Cancel n) = refl

abbrev one_if : Bool → ℕ
one_if b = cond b 1 0

queries-cons : (l : Line) (ls : List Line) → count_by is_query (l ∷ ls) ≡ one_if (is_query l) + count_by is_query ls
queries-cons l ls = sum_by-cons (λ x. one_if (is_query x)) l ls

asked-push : (number place : ℕ) (ls : List Line) (l : Line) → asked_from number place (ls ++ l ∷ []) ≡ asked_from number place ls ++ option_to_list (asked_of (number + count_by is_query ls) (place + length ls) l)
asked-push number place [] l =
    asked_alone number place l ∙ (ap (λ (n : ℕ). option_to_list (asked_of n place l)) (omega arith) ∙ ap (λ (n : ℕ). option_to_list (asked_of (number + 0) n l)) (omega arith))
asked-push number place (line.Doc doc ∷ ls) l =
    asked-push number (place + 1) ls l
    ∙ (ap (λ (n : ℕ). asked_from number (place + 1) ls ++ option_to_list (asked_of n (place + 1 + length ls) l)) (omega (arith, queries-cons (line.Doc doc) ls))
    ∙ ap (λ (n : ℕ). asked_from number (place + 1) ls ++ option_to_list (asked_of (number + count_by is_query (line.Doc doc ∷ ls)) n l)) (omega arith))
asked-push number place (line.Query query ∷ ls) l =
    ap (λ (rest : List Asked). record { number = number; place = place; query = query } ∷ rest) (asked-push (number + 1) (place + 1) ls l
    ∙ (ap (λ (n : ℕ). asked_from (number + 1) (place + 1) ls ++ option_to_list (asked_of n (place + 1 + length ls) l)) (omega (arith, queries-cons (line.Query query) ls))
    ∙ ap (λ (n : ℕ). asked_from (number + 1) (place + 1) ls ++ option_to_list (asked_of (number + count_by is_query (line.Query query ∷ ls)) n l)) (omega arith)))
asked-push number place (line.Tick k ∷ ls) l =
    asked-push number (place + 1) ls l
    ∙ (ap (λ (n : ℕ). asked_from number (place + 1) ls ++ option_to_list (asked_of n (place + 1 + length ls) l)) (omega (arith, queries-cons (line.Tick k) ls))
    ∙ ap (λ (n : ℕ). asked_from number (place + 1) ls ++ option_to_list (asked_of (number + count_by is_query (line.Tick k ∷ ls)) n l)) (omega arith))
asked-push number place (line.Cancel k ∷ ls) l =
    asked-push number (place + 1) ls l
    ∙ (ap (λ (n : ℕ). asked_from number (place + 1) ls ++ option_to_list (asked_of n (place + 1 + length ls) l)) (omega (arith, queries-cons (line.Cancel k) ls))
    ∙ ap (λ (n : ℕ). asked_from number (place + 1) ls ++ option_to_list (asked_of (number + count_by is_query (line.Cancel k ∷ ls)) n l)) (omega arith))

-- each stands at a place of the lines
asked_below : (number place : ℕ) (ls : List Line) → AllByRecursion (λ (a : Asked). a.place < place + length ls) (asked_from number place ls)
asked_below number place [] = tt
asked_below number place (line.Doc doc ∷ ls) = all-implies (λ (a : Asked). a.place < place + 1 + length ls) (λ (a : Asked). a.place < place + length (line.Doc doc ∷ ls)) (λ a h. omega arith) (asked_from number (place + 1) ls) (asked_below number (place + 1) ls)
asked_below number place (line.Query query ∷ ls) =
    (omega arith, all-implies (λ (a : Asked). a.place < place + 1 + length ls) (λ (a : Asked). a.place < place + length (line.Query query ∷ ls)) (λ a h. omega arith) (asked_from (number + 1) (place + 1) ls) (asked_below (number + 1) (place + 1) ls))
asked_below number place (line.Tick n ∷ ls) = all-implies (λ (a : Asked). a.place < place + 1 + length ls) (λ (a : Asked). a.place < place + length (line.Tick n ∷ ls)) (λ a h. omega arith) (asked_from number (place + 1) ls) (asked_below number (place + 1) ls)
asked_below number place (line.Cancel n ∷ ls) = all-implies (λ (a : Asked). a.place < place + 1 + length ls) (λ (a : Asked). a.place < place + length (line.Cancel n ∷ ls)) (λ a h. omega arith) (asked_from number (place + 1) ls) (asked_below number (place + 1) ls)

pub all_below : (ls : List Line) → AllByRecursion (λ (a : Asked). a.place < length ls) (asked_in ls)
all_below ls = all-implies (λ (a : Asked). a.place < 0 + length ls) (λ (a : Asked). a.place < length ls) (λ a h. omega arith) (asked_in ls) (asked_below 1 0 ls)

abbrev turn_place : Option Turn → ℕ
turn_place (Some t) = t.place
turn_place None = 0

-- a turn comes at a place of the lines
outcome_below : (ls : List Line) (a : Asked) (o : Outcome) (t : Turn) → turn_by ls a o ≡ Some t → ((place : ℕ) → (o ≡ Outcome.answered place) ⊎ (o ≡ Outcome.cancelled place) → place < length ls) → t.place < length ls
outcome_below ls a (Outcome.answered place) t e h =
    let made : turn_from place (due_of ls a) a.number (answer a.query.ask (docs_before ls a)) ≡ Some t = e in
    let same : place ≡ t.place = ap (λ (o : Option Turn). turn_place o) made in
    subst (λ (n : ℕ). n < length ls) same (h place (inl refl))
outcome_below ls a (Outcome.cancelled place) t e h =
    let made : turn_from place (due_of ls a) a.number reply.Cancelled ≡ Some t = e in
    let same : place ≡ t.place = ap (λ (o : Option Turn). turn_place o) made in
    subst (λ (n : ℕ). n < length ls) same (h place (inr refl))
outcome_below ls a Outcome.left t e h = absurd cc

cancel_below : (ls : List Line) (a : Asked) (due : Option ℕ) (place : ℕ) → cancel_line ls a due ≡ Some place → place < length ls
cancel_below ls a due place e =
    let h = find_below (λ k. nat_lt a.place k && (is_before k due && is_cancel_of a.number (slice_get ls k))) 0 (length ls) place e in omega arith

outcome_place : (ls : List Line) (a : Asked) (delay : Option ℕ) → a.place < length ls → (place : ℕ) → (outcome_after ls a delay ≡ Outcome.answered place) ⊎ (outcome_after ls a delay ≡ Outcome.cancelled place) → place < length ls
outcome_place ls a None below place (inl e) =
    let made : Outcome.answered a.place ≡ Outcome.answered place = e in
    let same : a.place ≡ place = cc in
    omega arith
outcome_place ls a None below place (inr e) = absurd cc
outcome_place ls a (Some delay) below place h = by (cancel_line ls a (due_line ls (due_tick ls a.place delay))) (due_line ls (due_tick ls a.place delay)) refl refl h
  where
    by : (c d : Option ℕ) → cancel_line ls a (due_line ls (due_tick ls a.place delay)) ≡ c → due_line ls (due_tick ls a.place delay) ≡ d
        → (outcome_by c d ≡ Outcome.answered place) ⊎ (outcome_by c d ≡ Outcome.cancelled place) → place < length ls
    by (Some x) d ec ed (inl e) = absurd cc
    by (Some x) d ec ed (inr e) =
        let made : Outcome.cancelled x ≡ Outcome.cancelled place = e in
        let same : x ≡ place = cc in
        let low = cancel_below ls a (due_line ls (due_tick ls a.place delay)) x ec in
        omega arith
    by None (Some x) ec ed (inl e) =
        let made : Outcome.answered x ≡ Outcome.answered place = e in
        let same : x ≡ place = cc in
        let low = due_below ls (due_tick ls a.place delay) x ed in
        omega arith
    by None (Some x) ec ed (inr e) = absurd cc
    by None None ec ed (inl e) = absurd cc
    by None None ec ed (inr e) = absurd cc

turn_below : (ls : List Line) (a : Asked) (t : Turn) → a.place < length ls → turn_of ls a ≡ Some t → t.place < length ls
turn_below ls a t below e = outcome_below ls a (outcome_of ls a) t e (λ place h. outcome_place ls a a.query.delay below place h)

-- what comes at the line behind comes at its place
abbrev at_line : List Line → Line → Asked → Option Turn
at_line ls l a = turn_by ls a (there ls l a)

place_there : (ls : List Line) (l : Line) (a : Asked) (t : Turn) → at_line ls l a ≡ Some t → t.place ≡ length ls
place_there ls (line.Doc doc) a t e = absurd cc
place_there ls (line.Query query) a t e = absurd cc
place_there ls (line.Tick n) a t e = by (is_due ls n a) e
  where
    by : (b : Bool) → turn_by ls a (cond b (Outcome.answered (length ls)) Outcome.left) ≡ Some t → t.place ≡ length ls
    by true e =
        let made : turn_from (length ls) (due_of ls a) a.number (answer a.query.ask (docs_before ls a)) ≡ Some t = e in
        sym (ap (λ (o : Option Turn). turn_place o) made)
    by false e = absurd cc
place_there ls (line.Cancel n) a t e = by (is_numbered n a) e
  where
    by : (b : Bool) → turn_by ls a (cond b (Outcome.cancelled (length ls)) Outcome.left) ≡ Some t → t.place ≡ length ls
    by true e =
        let made : turn_from (length ls) (due_of ls a) a.number reply.Cancelled ≡ Some t = e in
        sym (ap (λ (o : Option Turn). turn_place o) made)
    by false e = absurd cc

-- each query of the lines has a turn there, or else one at the line behind, or waits on
has_turns : (ls : List Line) (l : Line) → AllByRecursion (HasTurn (length ls) (turn_of ls) (at_line ls l) (turn_of (ls ++ l ∷ []))) (asked_in ls)
has_turns ls l = all-implies (λ (a : Asked). a.place < length ls) (HasTurn (length ls) (turn_of ls) (at_line ls l) (turn_of (ls ++ l ∷ [])))
    (λ a below. record {
      now_is = turn_of-more ls l a below;
      old = λ t e. turn_below ls a t below e;
      new = λ t e. place_there ls l a t e;
    }) (asked_in ls) (all_below ls)

-- a line that is no query
asked_same : (ls : List Line) (l : Line) → asked_of (1 + count_by is_query ls) (0 + length ls) l ≡ None → asked_in (ls ++ l ∷ []) ≡ asked_in ls
asked_same ls l none = asked-push 1 0 ls l ∙ (ap (λ (o : Option Asked). asked_in ls ++ option_to_list o) none ∙ append-nil (asked_in ls))

turns-other : (ls : List Line) (l : Line) → asked_of (1 + count_by is_query ls) (0 + length ls) l ≡ None
    → turns_of (ls ++ l ∷ []) ≡ turns_of ls ++ sorted_by comes_before (filter_map (at_line ls l) (left_in ls))
turns-other ls l none =
    ap (olds (turn_of (ls ++ l ∷ []))) (asked_same ls l none)
    ∙ split-turns (length ls) (turn_of ls) (at_line ls l) (turn_of (ls ++ l ∷ [])) (asked_in ls) (has_turns ls l)

left-other : (ls : List Line) (l : Line) → asked_of (1 + count_by is_query ls) (0 + length ls) l ≡ None → left_in (ls ++ l ∷ []) ≡ filter (λ a. is_none (at_line ls l a)) (left_in ls)
left-other ls l none =
    ap (waiting_in (turn_of (ls ++ l ∷ []))) (asked_same ls l none)
    ∙ split-waiting (length ls) (turn_of ls) (at_line ls l) (turn_of (ls ++ l ∷ [])) (asked_in ls) (has_turns ls l)

-- where nothing comes, nothing is added and all wait on
nothing_comes : (h : Asked → Option Turn) (xs : List Asked) → ((a : Asked) → h a ≡ None) → (filter_map h xs ≡ []) × (filter (λ a. is_none (h a)) xs ≡ xs)
nothing_comes h [] none = (refl, refl)
nothing_comes h (x ∷ xs) none =
    let rest = nothing_comes h xs none in (
      ap (λ (o : Option Turn). cons_option o (filter_map h xs)) (none x) ∙ rest.0,
      ap (λ (o : Option Turn). cond (is_none o) (x ∷ filter (λ a. is_none (h a)) xs) (filter (λ a. is_none (h a)) xs)) (none x) ∙ ap (λ (l : List Asked). x ∷ l) rest.1,
    )

-- where a turn comes by a test, those that pass have it and the others wait on
some_come : (h : Asked → Option Turn) (test : Asked → Bool) (turn : Asked → Turn) (xs : List Asked) → ((a : Asked) → h a ≡ cond (test a) (Some (turn a)) None)
    → (filter_map h xs ≡ map turn (filter test xs)) × (filter (λ a. is_none (h a)) xs ≡ filter (λ a. not (test a)) xs)
some_come h test turn [] is = (refl, refl)
some_come h test turn (x ∷ xs) is = by (test x) refl (some_come h test turn xs is)
  where
    by : (b : Bool) → test x ≡ b → (filter_map h xs ≡ map turn (filter test xs)) × (filter (λ a. is_none (h a)) xs ≡ filter (λ a. not (test a)) xs)
        → (filter_map h (x ∷ xs) ≡ map turn (filter test (x ∷ xs))) × (filter (λ a. is_none (h a)) (x ∷ xs) ≡ filter (λ a. not (test a)) (x ∷ xs))
    by true e rest =
        let at : h x ≡ Some (turn x) = is x ∙ ap (λ (b : Bool). cond b (Some (turn x)) None) e in (
          ap (λ (o : Option Turn). cons_option o (filter_map h xs)) at ∙ (ap (λ (l : List Turn). turn x ∷ l) rest.0 ∙ sym (ap (λ (b : Bool). map turn (cond b (x ∷ filter test xs) (filter test xs))) e)),
          ap (λ (o : Option Turn). cond (is_none o) (x ∷ filter (λ a. is_none (h a)) xs) (filter (λ a. is_none (h a)) xs)) at
              ∙ (rest.1 ∙ sym (ap (λ (b : Bool). cond (not b) (x ∷ filter (λ a. not (test a)) xs) (filter (λ a. not (test a)) xs)) e)),
        )
    by false e rest =
        let at : h x ≡ None = is x ∙ ap (λ (b : Bool). cond b (Some (turn x)) None) e in (
          ap (λ (o : Option Turn). cons_option o (filter_map h xs)) at ∙ (rest.0 ∙ sym (ap (λ (b : Bool). map turn (cond b (x ∷ filter test xs) (filter test xs))) e)),
          ap (λ (o : Option Turn). cond (is_none o) (x ∷ filter (λ a. is_none (h a)) xs) (filter (λ a. is_none (h a)) xs)) at
              ∙ (ap (λ (l : List Asked). x ∷ l) rest.1 ∙ sym (ap (λ (b : Bool). cond (not b) (x ∷ filter (λ a. not (test a)) xs) (filter (λ a. not (test a)) xs)) e)),
        )

pub adds_doc : (ls : List Line) (doc : Doc) → Adds ls (line.Doc doc) [] (left_in ls)
unfolding asked_of
adds_doc ls doc =
    let none = nothing_comes (at_line ls (line.Doc doc)) (left_in ls) (λ a. refl) in
    record {
      turns_are = turns-other ls (line.Doc doc) refl ∙ ap (λ (ts : List Turn). turns_of ls ++ sorted_by comes_before ts) none.0;
      waiting_are = left-other ls (line.Doc doc) refl ∙ none.1;
    }

pub adds_tick : (ls : List Line) (n : ℕ) → Adds ls (line.Tick n) (map (answered_at ls) (filter (is_due ls n) (left_in ls))) (filter (λ a. not (is_due ls n a)) (left_in ls))
unfolding asked_of
adds_tick ls n =
    let some = some_come (at_line ls (line.Tick n)) (is_due ls n) (answered_at ls) (left_in ls) (λ a. by a (is_due ls n a)) in
    record {
      turns_are = turns-other ls (line.Tick n) refl ∙ ap (λ (ts : List Turn). turns_of ls ++ sorted_by comes_before ts) some.0;
      waiting_are = left-other ls (line.Tick n) refl ∙ some.1;
    }
  where
    by : (a : Asked) (b : Bool) → turn_by ls a (cond b (Outcome.answered (length ls)) Outcome.left) ≡ cond b (Some (answered_at ls a)) None
    by a true = refl
    by a false = refl

pub adds_cancel : (ls : List Line) (n : ℕ) → Adds ls (line.Cancel n) (map (cancelled_at ls) (filter (is_numbered n) (left_in ls))) (filter (λ a. not (is_numbered n a)) (left_in ls))
unfolding asked_of
adds_cancel ls n =
    let some = some_come (at_line ls (line.Cancel n)) (is_numbered n) (cancelled_at ls) (left_in ls) (λ a. by a (is_numbered n a)) in
    record {
      turns_are = turns-other ls (line.Cancel n) refl ∙ ap (λ (ts : List Turn). turns_of ls ++ sorted_by comes_before ts) some.0;
      waiting_are = left-other ls (line.Cancel n) refl ∙ some.1;
    }
  where
    by : (a : Asked) (b : Bool) → turn_by ls a (cond b (Outcome.cancelled (length ls)) Outcome.left) ≡ cond b (Some (cancelled_at ls a)) None
    by a true = refl
    by a false = refl

-- a line that is a query
or_none : {A : Type 0} (o : Option A) → or_else o None ≡ o
or_none (Some x) = refl
or_none None = refl

asked-query : (ls : List Line) (query : Query) → asked_in (ls ++ line.Query query ∷ []) ≡ asked_in ls ++ next_asked ls query ∷ []
unfolding asked_of
asked-query ls query = asked-push 1 0 ls (line.Query query) ∙ ap (λ (n : ℕ). asked_in ls ++ record { number = 1 + count_by is_query ls; place = n; query = query } ∷ []) (omega arith)

-- the turns of the queries before it stay
abbrev others_now : List Line → Query → List Turn
others_now ls query = filter_map (turn_of (ls ++ line.Query query ∷ [])) (asked_in ls)

others_same : (ls : List Line) (query : Query) → sorted_by comes_before (others_now ls query) ≡ turns_of ls
others_same ls query =
    let none = nothing_comes (at_line ls (line.Query query)) (left_in ls) (λ a. refl) in
    split-turns (length ls) (turn_of ls) (at_line ls (line.Query query)) (turn_of (ls ++ line.Query query ∷ [])) (asked_in ls) (has_turns ls (line.Query query))
    ∙ (ap (λ (ts : List Turn). turns_of ls ++ sorted_by comes_before ts) none.0 ∙ append-nil (turns_of ls))

others_below : (ls : List Line) (query : Query) → AllByRecursion (λ (t : Turn). t.place < length ls) (others_now ls query)
others_below ls query = all-filter_map (λ (t : Turn). t.place < length ls) (turn_of (ls ++ line.Query query ∷ [])) (asked_in ls)
    (all-implies (λ (a : Asked). a.place < length ls) (λ (a : Asked). (t : Turn) → turn_of (ls ++ line.Query query ∷ []) a ≡ Some t → t.place < length ls)
    (λ a below t e. turn_below ls a t below (sym (turn_of-more ls (line.Query query) a below ∙ or_none (turn_of ls a)) ∙ e)) (asked_in ls) (all_below ls))

others_waiting : (ls : List Line) (query : Query) → waiting_in (turn_of (ls ++ line.Query query ∷ [])) (asked_in ls) ≡ left_in ls
others_waiting ls query =
    let none = nothing_comes (at_line ls (line.Query query)) (left_in ls) (λ a. refl) in
    split-waiting (length ls) (turn_of ls) (at_line ls (line.Query query)) (turn_of (ls ++ line.Query query ∷ [])) (asked_in ls) (has_turns ls (line.Query query)) ∙ none.1

turns-query : (ls : List Line) (query : Query) (o : Option Turn) → turn_of (ls ++ line.Query query ∷ []) (next_asked ls query) ≡ o
    → turns_of (ls ++ line.Query query ∷ []) ≡ sorted_by comes_before (others_now ls query ++ option_to_list o)
turns-query ls query o e =
    ap (olds (turn_of (ls ++ line.Query query ∷ []))) (asked-query ls query)
    ∙ (ap (sorted_by comes_before) (filter_map-push (turn_of (ls ++ line.Query query ∷ [])) (asked_in ls) (next_asked ls query))
    ∙ ap (λ (x : Option Turn). sorted_by comes_before (others_now ls query ++ option_to_list x)) e)

left-query : (ls : List Line) (query : Query) (o : Option Turn) → turn_of (ls ++ line.Query query ∷ []) (next_asked ls query) ≡ o
    → left_in (ls ++ line.Query query ∷ []) ≡ left_in ls ++ cond (is_none o) (next_asked ls query ∷ []) []
left-query ls query o e =
    ap (waiting_in (turn_of (ls ++ line.Query query ∷ []))) (asked-query ls query)
    ∙ (filter-append (λ a. is_none (turn_of (ls ++ line.Query query ∷ []) a)) (asked_in ls) (next_asked ls query ∷ [])
    ∙ (ap (λ (l : List Asked). l ++ cond (is_none (turn_of (ls ++ line.Query query ∷ []) (next_asked ls query))) (next_asked ls query ∷ []) []) (others_waiting ls query)
    ∙ ap (λ (x : Option Turn). left_in ls ++ cond (is_none x) (next_asked ls query ∷ []) []) e))

-- it is answered at once where it has no delay
turn_now : (ls : List Line) (query : Query) → query.delay ≡ None → turn_of (ls ++ line.Query query ∷ []) (next_asked ls query) ≡ Some (answered_now ls query)
turn_now ls query none =
    ap (λ (d : Option ℕ). turn_by (ls ++ line.Query query ∷ []) (next_asked ls query) (outcome_after (ls ++ line.Query query ∷ []) (next_asked ls query) d)) none
    ∙ (ap (λ (d : Option ℕ). turn_from (length ls) (due_with (ls ++ line.Query query ∷ []) (length ls) d) (1 + count_by is_query ls) (answer query.ask (docs_of (take (length ls) (ls ++ line.Query query ∷ []))))) none
    ∙ ap (λ (l : List Line). turn_from (length ls) 0 (1 + count_by is_query ls) (answer query.ask (docs_of l))) (take-append_seam ls (line.Query query ∷ [])))

pub adds_answered : (ls : List Line) (query : Query) → query.delay ≡ None → Adds ls (line.Query query) (answered_now ls query ∷ []) (left_in ls)
adds_answered ls query none =
    let turn = turn_now ls query none in
    record {
      turns_are = turns-query ls query (Some (answered_now ls query)) turn
          ∙ (sorted-push comes_before (answered_now ls query) (others_now ls query)
          (all-implies (λ (t : Turn). t.place < length ls) (λ (t : Turn). comes_before (answered_now ls query) t ≡ false) (λ t low. new_later (length ls) t (answered_now ls query) low refl) (others_now ls query) (others_below ls query))
          ∙ ap (λ (ts : List Turn). ts ++ answered_now ls query ∷ []) (others_same ls query));
      waiting_are = left-query ls query (Some (answered_now ls query)) turn ∙ append-nil (left_in ls);
    }

-- and waits where it has one
waits_now : (ls : List Line) (query : Query) (delay : ℕ) → query.delay ≡ Some delay → 1 ≤ delay → turn_of (ls ++ line.Query query ∷ []) (next_asked ls query) ≡ None
waits_now ls query delay is some =
    let all : List Line = ls ++ line.Query query ∷ [] in
    let n : length (ls ++ line.Query query ∷ []) ≡ length ls + 1 = length-append ls (line.Query query ∷ []) in
    let now : now_at (ls ++ line.Query query ∷ []) (length ls) ≡ sum_by ticks_of ls = now_at-more ls (line.Query query) (length ls) (omega arith) ∙ now_at-all ls in
    let total : sum_by ticks_of (ls ++ line.Query query ∷ []) ≡ sum_by ticks_of ls + 0 = sum_by_push ticks_of ls (line.Query query) in
    let none_due : due_line (ls ++ line.Query query ∷ []) (due_tick (ls ++ line.Query query ∷ []) (length ls) delay) ≡ None =
    find-none (λ k. nat_le (due_tick (ls ++ line.Query query ∷ []) (length ls) delay) (now_at (ls ++ line.Query query ∷ []) (k + 1))) 0 (length (ls ++ line.Query query ∷ []))
    (λ k low high. lt-leb (due_tick (ls ++ line.Query query ∷ []) (length ls) delay) (now_at (ls ++ line.Query query ∷ []) (k + 1))
    (omega (arith, sum_by-take-le ticks_of (ls ++ line.Query query ∷ []) (k + 1), now, total))) in
    let none_cancels : cancel_line (ls ++ line.Query query ∷ []) (next_asked ls query) None ≡ None =
    find-none (λ k. nat_lt (length ls) k && (is_before k None && is_cancel_of (1 + count_by is_query ls) (slice_get (ls ++ line.Query query ∷ []) k))) 0 (length (ls ++ line.Query query ∷ []))
    (λ k low high. ap (λ (b : Bool). b && (is_before k None && is_cancel_of (1 + count_by is_query ls) (slice_get (ls ++ line.Query query ∷ []) k))) (le-ltb (length ls) k (omega arith))) in
    ap (λ (d : Option ℕ). turn_by (ls ++ line.Query query ∷ []) (next_asked ls query) (outcome_after (ls ++ line.Query query ∷ []) (next_asked ls query) d)) is
    ∙ (ap (λ (o : Option ℕ). turn_by (ls ++ line.Query query ∷ []) (next_asked ls query) (outcome_by (cancel_line (ls ++ line.Query query ∷ []) (next_asked ls query) o) o)) none_due
    ∙ ap (λ (o : Option ℕ). turn_by (ls ++ line.Query query ∷ []) (next_asked ls query) (outcome_by o None)) none_cancels)

pub adds_delayed : (ls : List Line) (query : Query) (delay : ℕ) → query.delay ≡ Some delay → 1 ≤ delay → Adds ls (line.Query query) [] (left_in ls ++ next_asked ls query ∷ [])
adds_delayed ls query delay is some =
    let turn = waits_now ls query delay is some in
    record {
      turns_are = turns-query ls query None turn ∙ (ap (sorted_by comes_before) (append-nil (others_now ls query)) ∙ (others_same ls query ∙ sym (append-nil (turns_of ls))));
      waiting_are = left-query ls query None turn;
    }

-- the numbers ascend
asked_from_on : (number place : ℕ) (ls : List Line) → AllByRecursion (λ (a : Asked). number ≤ a.number) (asked_from number place ls)
asked_from_on number place [] = tt
asked_from_on number place (line.Doc doc ∷ ls) = asked_from_on number (place + 1) ls
asked_from_on number place (line.Query query ∷ ls) =
    (omega arith, all-implies (λ (a : Asked). number + 1 ≤ a.number) (λ (a : Asked). number ≤ a.number) (λ a h. omega arith) (asked_from (number + 1) (place + 1) ls) (asked_from_on (number + 1) (place + 1) ls))
asked_from_on number place (line.Tick n ∷ ls) = asked_from_on number (place + 1) ls
asked_from_on number place (line.Cancel n ∷ ls) = asked_from_on number (place + 1) ls

asked_in_order : (number place : ℕ) (ls : List Line) → IsInOrder numbered_before (asked_from number place ls)
asked_in_order number place [] = tt
asked_in_order number place (line.Doc doc ∷ ls) = asked_in_order number (place + 1) ls
asked_in_order number place (line.Query query ∷ ls) = (
  all-implies (λ (a : Asked). number + 1 ≤ a.number) (λ (a : Asked). nat_lt a.number number ≡ false) (λ a h. le-ltb a.number number (omega arith)) (asked_from (number + 1) (place + 1) ls) (asked_from_on (number + 1) (place + 1) ls),
  asked_in_order (number + 1) (place + 1) ls,
)
asked_in_order number place (line.Tick n ∷ ls) = asked_in_order number (place + 1) ls
asked_in_order number place (line.Cancel n ∷ ls) = asked_in_order number (place + 1) ls

in_order-filter : {A : Type 0} (g : A → A → Bool) (p : A → Bool) (xs : List A) → IsInOrder g xs → IsInOrder g (filter p xs)
in_order-filter g p [] h = tt
in_order-filter {A = A} g p (x ∷ xs) h = by (p x) (in_order-filter g p xs h.1)
  where
    by : (b : Bool) → IsInOrder g (filter p xs) → IsInOrder g (cond b (x ∷ filter p xs) (filter p xs))
    by true rest = (all-filter (λ (y : A). g y x ≡ false) p xs h.0, rest)
    by false rest = rest

pub waiting_in_order : (ls : List Line) → IsInOrder numbered_before (left_in ls)
waiting_in_order ls = in_order-filter numbered_before (λ a. is_none (turn_of ls a)) (asked_in ls) (asked_in_order 1 0 ls)
