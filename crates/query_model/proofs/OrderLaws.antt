-- The order of answers, line by line.
use Rattle.std.proofs.Common.{◌≡◌, ℕ, zero, suc, ◌+◌, ◌-◌, ◌<◌, ◌≤◌, List, [], ◌∷◌, ◌++◌, length, take, Bool, true, false, ◌&&◌, cond, nat_lt, Option, Some, None, refl, sym, ap, ◌∙◌, subst, arith, length-append}
use Rattle.std.specs.Prelude.{nat_le, find, slice_get}
use Rattle.std.specs.List.{range_with_len, sum_by}
use Rattle.std.proofs.lemmas.Bool.{lt-ltb, le-ltb, lt-leb, leb-false}
use Rattle.std.proofs.lemmas.List.{take-append-le, take_all}
use Rattle.std.proofs.lemmas.List.Sums.{sum_by_push}
use Rattle.fan_base.specs.declared.doc.Doc.{Doc}
use Rattle.query_model.specs.declared.line.Line.{Line}
use Rattle.query_model.specs.declared.line.Line.TheVariants as line
use Rattle.query_model.specs.declared.reply.Reply.{Reply}
use Rattle.query_model.specs.declared.reply.Reply.TheVariants as reply
use Rattle.query_model.specs.Lines.{ticks_of}
use Rattle.query_model.specs.Documents.{docs_of}
use Rattle.query_model.specs.Answers.{answer}
use Rattle.query_model.specs.Order.{Asked, now_at, due_tick, due_line, is_cancel_of, is_before, cancel_line, Outcome, outcome_by, outcome_after, outcome_of, due_with, due_of, docs_before, Turn, turn_by, turn_of, places_of}
use Rattle.query_model.specs.LineByLine.{is_due, is_numbered}
use Rattle.query_model.proofs.ListFacts.{slice_get-append_left, slice_get-append_seam}

-- the first of two, or the second where there is no first
abbrev pub or_else : {A : Type 0} → Option A → Option A → Option A
or_else (Some x) other = Some x
or_else None other = other

-- finding among numbers in a row
find-push : (p : ℕ → Bool) (xs : List ℕ) (x : ℕ) → find p (xs ++ x ∷ []) ≡ or_else (find p xs) (cond (p x) (Some x) None)
find-push p [] x = refl
find-push p (y ∷ ys) x = by (p y) (find-push p ys x)
  where
    by : (b : Bool) → find p (ys ++ x ∷ []) ≡ or_else (find p ys) (cond (p x) (Some x) None)
        → cond b (Some y) (find p (ys ++ x ∷ [])) ≡ or_else (cond b (Some y) (find p ys)) (cond (p x) (Some x) None)
    by true rest = refl
    by false rest = rest

pub range-push : (a n : ℕ) → range_with_len a (n + 1) ≡ range_with_len a n ++ (a + n) ∷ []
range-push a zero = ap (λ (k : ℕ). k ∷ []) (omega arith)
range-push a (suc n) =
    let rest = range-push (a + 1) n in
    let e : suc n + 1 ≡ suc (n + 1) = omega arith in
    let f : a + 1 + n ≡ a + suc n = omega arith in
    ap (range_with_len a) e ∙ (ap (λ (l : List ℕ). a ∷ l) rest ∙ ap (λ (k : ℕ). (a ∷ range_with_len (a + 1) n) ++ k ∷ []) f)

find-same : (p q : ℕ → Bool) (a n : ℕ) → ((k : ℕ) → a ≤ k → k < a + n → p k ≡ q k) → find p (range_with_len a n) ≡ find q (range_with_len a n)
find-same p q a zero h = refl
find-same p q a (suc n) h =
    let rest = find-same p q (a + 1) n (λ k low high. h k (omega arith) (omega arith)) in
    ap (λ (b : Bool). cond b (Some a) (find p (range_with_len (a + 1) n))) (h a (omega arith) (omega arith)) ∙ ap (λ (o : Option ℕ). cond (q a) (Some a) o) rest

pub find-none : (p : ℕ → Bool) (a n : ℕ) → ((k : ℕ) → a ≤ k → k < a + n → p k ≡ false) → find p (range_with_len a n) ≡ None
find-none p a zero h = refl
find-none p a (suc n) h =
    ap (λ (b : Bool). cond b (Some a) (find p (range_with_len (a + 1) n))) (h a (omega arith) (omega arith)) ∙ find-none p (a + 1) n (λ k low high. h k (omega arith) (omega arith))

-- what is found is among them
pub find_below : (p : ℕ → Bool) (a n k : ℕ) → find p (range_with_len a n) ≡ Some k → k < a + n
find_below p a zero k e = absurd cc
find_below p a (suc n) k e = by (p a) e (λ h. find_below p (a + 1) n k h)
  where
    by : (b : Bool) → cond b (Some a) (find p (range_with_len (a + 1) n)) ≡ Some k → (find p (range_with_len (a + 1) n) ≡ Some k → k < a + 1 + n) → k < a + suc n
    by true e rest = let same : a ≡ k = cc in omega arith
    by false e rest = let below = rest e in omega arith

-- where none is found, the last one fails
last_fails : (p : ℕ → Bool) (a n : ℕ) → find p (range_with_len a (n + 1)) ≡ None → p (a + n) ≡ false
last_fails p a n e = by (find p (range_with_len a n)) (p (a + n)) refl (sym (ap (find p) (range-push a n) ∙ find-push p (range_with_len a n) (a + n)) ∙ e)
  where
    by : (o : Option ℕ) (b : Bool) → p (a + n) ≡ b → or_else o (cond b (Some (a + n)) None) ≡ None → p (a + n) ≡ false
    by (Some x) b is h = absurd cc
    by None true is h = absurd cc
    by None false is h = is

-- the ticks, with one more line
pub now_at-more : (ls : List Line) (l : Line) (place : ℕ) → place ≤ length ls → now_at (ls ++ l ∷ []) place ≡ now_at ls place
now_at-more ls l place h = ap (sum_by ticks_of) (take-append-le place ls (l ∷ []) h)

now_at-end : (ls : List Line) (l : Line) → now_at (ls ++ l ∷ []) (length ls + 1) ≡ sum_by ticks_of ls + ticks_of l
now_at-end ls l =
    let n : length ls + 1 ≡ length (ls ++ l ∷ []) = sym (length-append ls (l ∷ [])) in
    ap (λ (k : ℕ). sum_by ticks_of (take k (ls ++ l ∷ []))) n ∙ (ap (sum_by ticks_of) (take_all (length (ls ++ l ∷ [])) (ls ++ l ∷ []) (omega arith)) ∙ sum_by_push ticks_of ls l)

pub now_at-all : (ls : List Line) → now_at ls (length ls) ≡ sum_by ticks_of ls
now_at-all ls = ap (sum_by ticks_of) (take_all (length ls) ls (omega arith))

places-more : (ls : List Line) (l : Line) → places_of (ls ++ l ∷ []) ≡ places_of ls ++ length ls ∷ []
places-more ls l = ap (range_with_len 0) (length-append ls (l ∷ [])) ∙ (range-push 0 (length ls) ∙ ap (λ (k : ℕ). range_with_len 0 (length ls) ++ k ∷ []) (omega arith))

-- where the line behind these makes a query due
abbrev due_there : List Line → Line → ℕ → Option ℕ
due_there ls l due = cond (nat_le due (sum_by ticks_of ls + ticks_of l)) (Some (length ls)) None

due_line-more : (ls : List Line) (l : Line) (due : ℕ) → due_line (ls ++ l ∷ []) due ≡ or_else (due_line ls due) (due_there ls l due)
due_line-more ls l due =
    let p : ℕ → Bool = λ place. nat_le due (now_at (ls ++ l ∷ []) (place + 1)) in
    let q : ℕ → Bool = λ place. nat_le due (now_at ls (place + 1)) in
    ap (find p) (places-more ls l) ∙ (find-push p (places_of ls) (length ls)
    ∙ (ap (λ (o : Option ℕ). or_else o (cond (p (length ls)) (Some (length ls)) None)) (find-same p q 0 (length ls) (λ k low high. ap (λ (n : ℕ). nat_le due n) (now_at-more ls l (k + 1) (omega arith))))
    ∙ ap (λ (n : ℕ). or_else (due_line ls due) (cond (nat_le due n) (Some (length ls)) None)) (now_at-end ls l)))

pub due_below : (ls : List Line) (due place : ℕ) → due_line ls due ≡ Some place → place < length ls
due_below ls due place e = let h = find_below (λ k. nat_le due (now_at ls (k + 1))) 0 (length ls) place e in omega arith

due_above : (ls : List Line) (due : ℕ) → 0 < length ls → due_line ls due ≡ None → sum_by ticks_of ls < due
due_above ls due some e =
    let n : ℕ = length ls - 1 in
    let is : length ls ≡ n + 1 = omega arith in
    let p : ℕ → Bool = λ k. nat_le due (now_at ls (k + 1)) in
    let last = last_fails p 0 n (subst (λ (m : ℕ). find p (range_with_len 0 m) ≡ None) is e) in
    let at : 0 + n + 1 ≡ length ls = omega arith in
    let fails : nat_le due (sum_by ticks_of ls) ≡ false = sym (ap (nat_le due) (ap (now_at ls) at ∙ now_at-all ls)) ∙ last in
    leb-false due (sum_by ticks_of ls) fails

-- where the line behind these cancels a query
abbrev cancel_there : List Line → Line → Asked → Option ℕ → Option ℕ
cancel_there ls l asked due = cond (nat_lt asked.place (length ls) && (is_before (length ls) due && is_cancel_of asked.number (Some l))) (Some (length ls)) None

cancel_line-more : (ls : List Line) (l : Line) (asked : Asked) (due before : Option ℕ) → ((k : ℕ) → k < length ls → is_before k due ≡ is_before k before)
    → cancel_line (ls ++ l ∷ []) asked due ≡ or_else (cancel_line ls asked before) (cancel_there ls l asked due)
cancel_line-more ls l asked due before same =
    let p : ℕ → Bool = λ place. nat_lt asked.place place && (is_before place due && is_cancel_of asked.number (slice_get (ls ++ l ∷ []) place)) in
    let q : ℕ → Bool = λ place. nat_lt asked.place place && (is_before place before && is_cancel_of asked.number (slice_get ls place)) in
    ap (find p) (places-more ls l) ∙ (find-push p (places_of ls) (length ls)
    ∙ (ap (λ (o : Option ℕ). or_else o (cond (p (length ls)) (Some (length ls)) None)) (find-same p q 0 (length ls) (λ k low high.
    ap (λ (b : Bool). nat_lt asked.place k && (b && is_cancel_of asked.number (slice_get (ls ++ l ∷ []) k))) (same k (omega arith))
    ∙ ap (λ (x : Option Line). nat_lt asked.place k && (is_before k before && is_cancel_of asked.number x)) (slice_get-append_left ls (l ∷ []) k (omega arith))))
    ∙ ap (λ (x : Option Line). or_else (cancel_line ls asked before) (cond (nat_lt asked.place (length ls) && (is_before (length ls) due && is_cancel_of asked.number x)) (Some (length ls)) None)) (slice_get-append_seam ls l [] (length ls) refl)))

-- what the line behind these makes of a query that waits
abbrev pub there : List Line → Line → Asked → Outcome
there ls (line.Doc doc) asked = Outcome.left
there ls (line.Query query) asked = Outcome.left
there ls (line.Tick n) asked = cond (is_due ls n asked) (Outcome.answered (length ls)) Outcome.left
there ls (line.Cancel n) asked = cond (is_numbered n asked) (Outcome.cancelled (length ls)) Outcome.left

abbrev pub or_left : Outcome → Outcome → Outcome
or_left (Outcome.answered place) other = Outcome.answered place
or_left (Outcome.cancelled place) other = Outcome.cancelled place
or_left Outcome.left other = other

-- before what is there or not, a place behind the lines comes first
is_before-there : (ls : List Line) (l : Line) (due k : ℕ) → k < length ls → is_before k (due_there ls l due) ≡ true
is_before-there ls l due k h = by (nat_le due (sum_by ticks_of ls + ticks_of l))
  where
    by : (b : Bool) → is_before k (cond b (Some (length ls)) None) ≡ true
    by true = lt-ltb k (length ls) h
    by false = refl

-- the line makes nothing due that has no ticks
not_due : (ls : List Line) (l : Line) (due : ℕ) → sum_by ticks_of ls < due → ticks_of l ≡ 0 → due_there ls l due ≡ None
not_due ls l due h none =
    let low : sum_by ticks_of ls + ticks_of l < due = omega arith in
    ap (λ (b : Bool). cond b (Some (length ls)) None) (lt-leb due (sum_by ticks_of ls + ticks_of l) low)

-- a query that waits, by the line behind
waits : (ls : List Line) (l : Line) (asked : Asked) (delay : ℕ) → asked.query.delay ≡ Some delay → asked.place < length ls → sum_by ticks_of ls < due_tick ls asked.place delay
    → outcome_by (cancel_there ls l asked (due_there ls l (due_tick ls asked.place delay))) (due_there ls l (due_tick ls asked.place delay)) ≡ there ls l asked
waits ls (line.Doc doc) asked delay is below above =
    let due : ℕ = due_tick ls asked.place delay in
    let none : due_there ls (line.Doc doc) due ≡ None = not_due ls (line.Doc doc) due above refl in
    ap (λ (o : Option ℕ). outcome_by (cancel_there ls (line.Doc doc) asked o) o) none
    ∙ ap (λ (b : Bool). outcome_by (cond (b && false) (Some (length ls)) None) None) (lt-ltb asked.place (length ls) below)
waits ls (line.Query query) asked delay is below above =
    let due : ℕ = due_tick ls asked.place delay in
    let none : due_there ls (line.Query query) due ≡ None = not_due ls (line.Query query) due above refl in
    ap (λ (o : Option ℕ). outcome_by (cancel_there ls (line.Query query) asked o) o) none
    ∙ ap (λ (b : Bool). outcome_by (cond (b && false) (Some (length ls)) None) None) (lt-ltb asked.place (length ls) below)
waits ls (line.Cancel n) asked delay is below above =
    let due : ℕ = due_tick ls asked.place delay in
    let none : due_there ls (line.Cancel n) due ≡ None = not_due ls (line.Cancel n) due above refl in
    ap (λ (o : Option ℕ). outcome_by (cancel_there ls (line.Cancel n) asked o) o) none
    ∙ (ap (λ (b : Bool). outcome_by (cond (b && is_numbered n asked) (Some (length ls)) None) None) (lt-ltb asked.place (length ls) below)
    ∙ by (is_numbered n asked))
  where
    by : (b : Bool) → outcome_by (cond b (Some (length ls)) None) None ≡ cond b (Outcome.cancelled (length ls)) Outcome.left
    by true = refl
    by false = refl
waits ls (line.Tick n) asked delay is below above =
    let due : ℕ = due_tick ls asked.place delay in
    let test : Bool = nat_le due (sum_by ticks_of ls + n) in
    let same : is_due ls n asked ≡ test = ap (λ (d : Option ℕ). nat_le (due_with ls asked.place d) (sum_by ticks_of ls + n)) is in
    ap (λ (b : Bool). outcome_by (cond (b && (is_before (length ls) (due_there ls (line.Tick n) due) && false)) (Some (length ls)) None) (due_there ls (line.Tick n) due)) (lt-ltb asked.place (length ls) below)
    ∙ (by test ∙ sym (ap (λ (b : Bool). cond b (Outcome.answered (length ls)) Outcome.left) same))
  where
    by : (b : Bool) → outcome_by (cond (is_before (length ls) (cond b (Some (length ls)) None) && false) (Some (length ls)) None) (cond b (Some (length ls)) None) ≡ cond b (Outcome.answered (length ls)) Outcome.left
    by true = ap (λ (b : Bool). outcome_by (cond (b && false) (Some (length ls)) None) (Some (length ls))) (le-ltb (length ls) (length ls) (omega arith))
    by false = refl

outcome-more : (ls : List Line) (l : Line) (asked : Asked) (delay : Option ℕ) → asked.query.delay ≡ delay → asked.place < length ls
    → outcome_after (ls ++ l ∷ []) asked delay ≡ or_left (outcome_after ls asked delay) (there ls l asked)
outcome-more ls l asked None is below = refl
outcome-more ls l asked (Some delay) is below =
    ap (λ (now : ℕ). outcome_by (cancel_line (ls ++ l ∷ []) asked (due_line (ls ++ l ∷ []) (now + delay))) (due_line (ls ++ l ∷ []) (now + delay))) (now_at-more ls l asked.place (omega arith))
    ∙ (ap (λ (o : Option ℕ). outcome_by (cancel_line (ls ++ l ∷ []) asked o) o) (due_line-more ls l (due_tick ls asked.place delay))
    ∙ by_due (due_line ls (due_tick ls asked.place delay)) refl)
  where
    by_cancel : (o : Option ℕ) → cancel_line ls asked None ≡ o → due_line ls (due_tick ls asked.place delay) ≡ None
        → outcome_by (or_else o (cancel_there ls l asked (due_there ls l (due_tick ls asked.place delay)))) (due_there ls l (due_tick ls asked.place delay)) ≡ or_left (outcome_by o None) (there ls l asked)
    by_cancel (Some place) e none = refl
    by_cancel None e none = waits ls l asked delay is below (due_above ls (due_tick ls asked.place delay) (omega arith) none)

    kept_by : (o : Option ℕ) (place : ℕ) → outcome_by o (Some place) ≡ or_left (outcome_by o (Some place)) (there ls l asked)
    kept_by (Some other) place = refl
    kept_by None place = refl

    or_none : (o : Option ℕ) → or_else o None ≡ o
    or_none (Some x) = refl
    or_none None = refl

    by_due : (d : Option ℕ) → due_line ls (due_tick ls asked.place delay) ≡ d
        → outcome_by (cancel_line (ls ++ l ∷ []) asked (or_else d (due_there ls l (due_tick ls asked.place delay)))) (or_else d (due_there ls l (due_tick ls asked.place delay)))
        ≡ or_left (outcome_by (cancel_line ls asked d) d) (there ls l asked)
    by_due (Some place) e =
        let low = due_below ls (due_tick ls asked.place delay) place e in
        let no : nat_lt (length ls) place ≡ false = le-ltb (length ls) place (omega arith) in
        ap (λ (o : Option ℕ). outcome_by o (Some place)) (cancel_line-more ls l asked (Some place) (Some place) (λ k h. refl)
        ∙ (ap (λ (b : Bool). or_else (cancel_line ls asked (Some place)) (cond (nat_lt asked.place (length ls) && (b && is_cancel_of asked.number (Some l))) (Some (length ls)) None)) no
        ∙ (ap (λ (b : Bool). or_else (cancel_line ls asked (Some place)) (cond (b && false) (Some (length ls)) None)) (lt-ltb asked.place (length ls) below)
        ∙ or_none (cancel_line ls asked (Some place)))))
        ∙ kept_by (cancel_line ls asked (Some place)) place
    by_due None e =
        ap (λ (o : Option ℕ). outcome_by o (due_there ls l (due_tick ls asked.place delay)))
        (cancel_line-more ls l asked (due_there ls l (due_tick ls asked.place delay)) None (λ k h. is_before-there ls l (due_tick ls asked.place delay) k h))
        ∙ by_cancel (cancel_line ls asked None) refl e

-- the turn of a query, with one more line
pub docs_before-more : (ls : List Line) (l : Line) (asked : Asked) → asked.place < length ls → docs_before (ls ++ l ∷ []) asked ≡ docs_before ls asked
docs_before-more ls l asked below = ap docs_of (take-append-le asked.place ls (l ∷ []) (omega arith))

pub due_of-more : (ls : List Line) (l : Line) (asked : Asked) → asked.place ≤ length ls → due_of (ls ++ l ∷ []) asked ≡ due_of ls asked
due_of-more ls l asked below = by asked.query.delay
  where
    by : (delay : Option ℕ) → due_with (ls ++ l ∷ []) asked.place delay ≡ due_with ls asked.place delay
    by None = refl
    by (Some delay) = ap (λ (n : ℕ). n + delay) (now_at-more ls l asked.place below)

abbrev pub turn_from : ℕ → ℕ → ℕ → Reply → Option Turn
turn_from place due number given = Some (record { place = place; due = due; number = number; reply = given })

turn_by-more : (ls : List Line) (l : Line) (asked : Asked) (o : Outcome) → asked.place < length ls → turn_by (ls ++ l ∷ []) asked o ≡ turn_by ls asked o
turn_by-more ls l asked (Outcome.answered place) below =
    ap (λ (n : ℕ). turn_from place n asked.number (answer asked.query.ask (docs_before (ls ++ l ∷ []) asked))) (due_of-more ls l asked (omega arith))
    ∙ ap (λ (ds : List Doc). turn_from place (due_of ls asked) asked.number (answer asked.query.ask ds)) (docs_before-more ls l asked below)
turn_by-more ls l asked (Outcome.cancelled place) below =
    ap (λ (n : ℕ). turn_from place n asked.number reply.Cancelled) (due_of-more ls l asked (omega arith))
turn_by-more ls l asked Outcome.left below = refl

pub turn_of-more : (ls : List Line) (l : Line) (asked : Asked) → asked.place < length ls → turn_of (ls ++ l ∷ []) asked ≡ or_else (turn_of ls asked) (turn_by ls asked (there ls l asked))
turn_of-more ls l asked below =
    ap (turn_by (ls ++ l ∷ []) asked) (outcome-more ls l asked asked.query.delay refl below)
    ∙ (turn_by-more ls l asked (or_left (outcome_of ls asked) (there ls l asked)) below
    ∙ by (outcome_of ls asked))
  where
    by : (o : Outcome) → turn_by ls asked (or_left o (there ls l asked)) ≡ or_else (turn_by ls asked o) (turn_by ls asked (there ls l asked))
    by (Outcome.answered place) = refl
    by (Outcome.cancelled place) = refl
    by Outcome.left = refl
