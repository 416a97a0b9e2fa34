-- The queries of an input by their numbers.
use Rattle.std.proofs.Common.{◌≡◌, ℕ, suc, ◌+◌, ◌-◌, ◌≤◌, List, [], ◌∷◌, ◌++◌, length, cond, Option, Some, None, refl, sym, ap, ◌∙◌, arith, append_assoc, length-append, take, ◌<◌}
use Rattle.std.specs.Prelude.{slice_get, map}
use Rattle.std.specs.List.{AllByRecursion, count_by, range_with_len, sum_by}
use Rattle.std.proofs.Math.Seq.{take-append_seam}
use Rattle.std.proofs.lemmas.List.{take-append-le}
use Rattle.std.proofs.lemmas.List.Sums.{sum_by-cons}
use Rattle.std.proofs.lemmas.Option.{slice_get_within}
use Rattle.query_model.specs.declared.line.Line.{Line}
use Rattle.query_model.specs.declared.line.Line.TheVariants as line
use Rattle.query_model.specs.declared.line.Query.{Query}
use Rattle.query_model.specs.Documents.{docs_of}
use Rattle.query_model.specs.Lines.{is_query, ticks_of}
use Rattle.query_model.specs.Order.{Asked, asked_from, asked_in, docs_before, due_of, due_with, now_at}
use Rattle.query_model.specs.LineByLine.{next_asked}
use Rattle.query_model.proofs.ListFacts.{slice_get-append_seam, slice_get-append_some}
use Rattle.query_model.proofs.ListLaws.{all-implies}
use Rattle.fan_model.specs.Comings.{IsAsked}

-- the same among any list of queries
abbrev Stands : List Line → List Asked → Asked → Type 0
Stands lines all a = (slice_get all (a.number - 1) ≡ Some a) × (1 ≤ a.number) × (slice_get lines a.place ≡ Some (line.Query a.query))

all_stand : (lines done rest : List Line) (all front : List Asked) (number place : ℕ)
    → lines ≡ done ++ rest → all ≡ front ++ asked_from number place rest → length front + 1 ≡ number → length done ≡ place
    → AllByRecursion (Stands lines all) (asked_from number place rest)
all_stand lines done [] all front number place whole is many far = tt
all_stand lines done (line.Doc doc ∷ rest) all front number place whole is many far =
    all_stand lines (done ++ line.Doc doc ∷ []) rest all front number (place + 1) (whole ∙ sym (append_assoc done (line.Doc doc ∷ []) rest)) is many
    (length-append done (line.Doc doc ∷ []) ∙ omega arith)
all_stand lines done (line.Tick n ∷ rest) all front number place whole is many far =
    all_stand lines (done ++ line.Tick n ∷ []) rest all front number (place + 1) (whole ∙ sym (append_assoc done (line.Tick n ∷ []) rest)) is many
    (length-append done (line.Tick n ∷ []) ∙ omega arith)
all_stand lines done (line.Cancel n ∷ rest) all front number place whole is many far =
    all_stand lines (done ++ line.Cancel n ∷ []) rest all front number (place + 1) (whole ∙ sym (append_assoc done (line.Cancel n ∷ []) rest)) is many
    (length-append done (line.Cancel n ∷ []) ∙ omega arith)
all_stand lines done (line.Query query ∷ rest) all front number place whole is many far =
    let a : Asked = record { number = number; place = place; query = query } in
    let back : List Asked = asked_from (number + 1) (place + 1) rest in
    let at : slice_get all (number - 1) ≡ Some a =
    ap (λ (l : List Asked). slice_get l (number - 1)) is ∙ slice_get-append_seam front a back (number - 1) (omega arith) in
    let from_line : slice_get lines place ≡ Some (line.Query query) =
    ap (λ (l : List Line). slice_get l place) whole ∙ slice_get-append_seam done (line.Query query) rest place (sym far) in
    let from_one : 1 ≤ number = omega arith in (
      (at, from_one, from_line),
      all_stand lines (done ++ line.Query query ∷ []) rest all (front ++ a ∷ []) (number + 1) (place + 1) (whole ∙ sym (append_assoc done (line.Query query ∷ []) rest))
          (is ∙ sym (append_assoc front (a ∷ []) back)) (omega (arith, length-append front (a ∷ []))) (length-append done (line.Query query ∷ []) ∙ omega arith),
    )

pub all_asked : (lines : List Line) → AllByRecursion (IsAsked lines) (asked_in lines)
all_asked lines =
    all-implies (Stands lines (asked_in lines)) (IsAsked lines) (λ a h. record { at = h.0; from_one = h.1; line = h.2 }) (asked_in lines)
    (all_stand lines [] lines (asked_in lines) [] 1 0 refl refl refl refl)

-- of each number there is one query
pub one_of_number : (lines : List Line) (a b : Asked) → IsAsked lines a → IsAsked lines b → a.number ≡ b.number → a ≡ b
one_of_number lines a b is also same =
    let one : slice_get (asked_in lines) (b.number - 1) ≡ Some a = ap (λ (n : ℕ). slice_get (asked_in lines) (n - 1)) (sym same) ∙ is.at in
    let both : Some a ≡ Some b = sym one ∙ also.at in
    cc

-- one query more where the first line is one
queries-cons : (query : Query) (xs : List Line) → count_by is_query (line.Query query ∷ xs) ≡ 1 + count_by is_query xs
queries-cons query xs = sum_by-cons (λ (l : Line). cond (is_query l) 1 0) (line.Query query) xs

-- the numbers and places by which those behind some lines are told
asked_at : (number place m p : ℕ) (ys : List Line) → number ≡ m → place ≡ p → asked_from number place ys ≡ asked_from m p ys
asked_at number place m p ys same here = ap (λ (n : ℕ). asked_from n place ys) same ∙ ap (λ (q : ℕ). asked_from m q ys) here

asked-append : (number place : ℕ) (xs ys : List Line)
    → asked_from number place (xs ++ ys) ≡ asked_from number place xs ++ asked_from (number + count_by is_query xs) (place + length xs) ys
asked-append number place [] ys = asked_at number place (number + 0) (place + 0) ys (omega arith) (omega arith)
asked-append number place (line.Doc doc ∷ xs) ys =
    asked-append number (place + 1) xs ys
    ∙ ap (λ (l : List Asked). asked_from number (place + 1) xs ++ l)
    (asked_at (number + count_by is_query xs) (place + 1 + length xs) (number + count_by is_query xs) (place + length (line.Doc doc ∷ xs)) ys refl (omega arith))
asked-append number place (line.Tick k ∷ xs) ys =
    asked-append number (place + 1) xs ys
    ∙ ap (λ (l : List Asked). asked_from number (place + 1) xs ++ l)
    (asked_at (number + count_by is_query xs) (place + 1 + length xs) (number + count_by is_query xs) (place + length (line.Tick k ∷ xs)) ys refl (omega arith))
asked-append number place (line.Cancel k ∷ xs) ys =
    asked-append number (place + 1) xs ys
    ∙ ap (λ (l : List Asked). asked_from number (place + 1) xs ++ l)
    (asked_at (number + count_by is_query xs) (place + 1 + length xs) (number + count_by is_query xs) (place + length (line.Cancel k ∷ xs)) ys refl (omega arith))
asked-append number place (line.Query query ∷ xs) ys =
    let a : Asked = record { number = number; place = place; query = query } in
    ap (λ (l : List Asked). a ∷ l) (asked-append (number + 1) (place + 1) xs ys
    ∙ ap (λ (l : List Asked). asked_from (number + 1) (place + 1) xs ++ l)
    (asked_at (number + 1 + count_by is_query xs) (place + 1 + length xs) (number + count_by is_query (line.Query query ∷ xs)) (place + length (line.Query query ∷ xs)) ys
    (omega (arith, queries-cons query xs)) (omega arith)))

-- a query of some lines is one of these and further ones
pub asked_more : (xs ys : List Line) (a : Asked) → IsAsked xs a → IsAsked (xs ++ ys) a
asked_more xs ys a is = record {
  at = ap (λ (l : List Asked). slice_get l (a.number - 1)) (asked-append 1 0 xs ys)
      ∙ slice_get-append_some (asked_in xs) (asked_from (1 + count_by is_query xs) (0 + length xs) ys) (a.number - 1) a is.at;
  from_one = is.from_one;
  line = slice_get-append_some xs ys a.place (line.Query a.query) is.line;
}

asked_many : (number place : ℕ) (xs : List Line) → length (asked_from number place xs) ≡ count_by is_query xs
asked_many number place [] = refl
asked_many number place (line.Doc doc ∷ xs) = asked_many number (place + 1) xs
asked_many number place (line.Tick n ∷ xs) = asked_many number (place + 1) xs
asked_many number place (line.Cancel n ∷ xs) = asked_many number (place + 1) xs
asked_many number place (line.Query query ∷ xs) = omega (arith, asked_many (number + 1) (place + 1) xs, queries-cons query xs)

-- the query of the line behind some
pub next_is_asked : (xs : List Line) (query : Query) → IsAsked (xs ++ line.Query query ∷ []) (next_asked xs query)
next_is_asked xs query =
    let all : asked_in (xs ++ line.Query query ∷ []) ≡ asked_in xs ++ next_asked xs query ∷ [] =
    asked-append 1 0 xs (line.Query query ∷ [])
    ∙ ap (λ (l : List Asked). asked_in xs ++ l)
    (asked_at (1 + count_by is_query xs) (0 + length xs) (1 + count_by is_query xs) (length xs) (line.Query query ∷ []) refl (omega arith)) in
    record {
      at = ap (λ (l : List Asked). slice_get l (1 + count_by is_query xs - 1)) all
          ∙ slice_get-append_seam (asked_in xs) (next_asked xs query) [] (1 + count_by is_query xs - 1) (omega (arith, asked_many 1 0 xs));
      from_one = omega arith;
      line = slice_get-append_seam xs (line.Query query) [] (length xs) refl;
    }

pub numbers_are : (number place : ℕ) (xs : List Line) → map (λ (a : Asked). a.number) (asked_from number place xs) ≡ range_with_len number (count_by is_query xs)
numbers_are number place [] = refl
numbers_are number place (line.Doc doc ∷ xs) = numbers_are number (place + 1) xs
numbers_are number place (line.Tick n ∷ xs) = numbers_are number (place + 1) xs
numbers_are number place (line.Cancel n ∷ xs) = numbers_are number (place + 1) xs
numbers_are number place (line.Query query ∷ xs) =
    let many : suc (count_by is_query xs) ≡ count_by is_query (line.Query query ∷ xs) = omega (arith, queries-cons query xs) in
    ap (λ (l : List ℕ). number ∷ l) (numbers_are (number + 1) (place + 1) xs) ∙ ap (range_with_len number) many

-- what is known of a query by the lines before its own
lines_before : (xs ys : List Line) (a : Asked) → IsAsked xs a → take a.place (xs ++ ys) ≡ take a.place xs
lines_before xs ys a is =
    let within : a.place < length xs = slice_get_within xs a.place (line.Query a.query) is.line in
    let le : a.place ≤ length xs = omega arith in
    rw take-append-le refl

pub same_due : (xs ys : List Line) (a : Asked) → IsAsked xs a → due_of (xs ++ ys) a ≡ due_of xs a
same_due xs ys a is = by a.query.delay (ap (λ (l : List Line). sum_by ticks_of l) (lines_before xs ys a is))
  where
    by : (delay : Option ℕ) → now_at (xs ++ ys) a.place ≡ now_at xs a.place → due_with (xs ++ ys) a.place delay ≡ due_with xs a.place delay
    by None same = refl
    by (Some delay) same = ap (λ (n : ℕ). n + delay) same

pub same_docs : (xs ys : List Line) (a : Asked) → IsAsked xs a → docs_before (xs ++ ys) a ≡ docs_before xs a
same_docs xs ys a is = ap docs_of (lines_before xs ys a is)

pub next_due : (xs : List Line) (query : Query) (delay : ℕ) → query.delay ≡ Some delay
    → due_of (xs ++ line.Query query ∷ []) (next_asked xs query) ≡ sum_by ticks_of xs + delay
next_due xs query delay is =
    ap (λ (d : Option ℕ). due_with (xs ++ line.Query query ∷ []) (length xs) d) is
    ∙ ap (λ (l : List Line). sum_by ticks_of l + delay) (take-append_seam xs (line.Query query ∷ []))

pub next_docs : (xs : List Line) (query : Query) → docs_before (xs ++ line.Query query ∷ []) (next_asked xs query) ≡ docs_of xs
next_docs xs query = ap docs_of (take-append_seam xs (line.Query query ∷ []))
