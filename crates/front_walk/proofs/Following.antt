-- What a walk keeps, one line more.
use Rattle.std.proofs.Common.{◌≡◌, ℕ, zero, suc, ◌+◌, List, [], ◌∷◌, ◌++◌, length, take, drop, Bool, cond, Some, sym, ap, ◌∙◌, subst, arith, map, length-append}
use Rattle.std.specs.Prelude.{slice_get}
use Rattle.std.specs.List.{AllByRecursion}
use Rattle.std.proofs.lemmas.List.Elements.{filter_map-append, recursion_from_All}
use Rattle.std.proofs.lemmas.List.Sums.{sum_by_push}
use Rattle.fan_base.specs.declared.doc.Doc.{Doc}
use Rattle.query_model.specs.declared.line.Line.{Line}
use Rattle.query_model.specs.Documents.{IsLine, doc_of_line, docs_of}
use Rattle.query_model.specs.Lines.{is_query, ticks_of}
use Rattle.query_model.specs.Order.{Asked, docs_before, due_of, left_in}
use Rattle.query_model.proofs.ListLaws.{all-implies, all-right, map-same}
use Rattle.fan_model.specs.Comings.{Coming, IsAsked, come_at_line, come_in, left_at_line}
use Rattle.query_timers.specs.declared.query.DelayedQuery.{DelayedQuery}
use Rattle.front_walk.specs.declared.state.WalkState.{WalkState}
use Rattle.front_walk.specs.Laws.{Laws}
use Rattle.front_walk.specs.Following.{Follows, IsInput, is_delayed, kept_in}

-- the list cut round the item at a place
cut_at : {A : Type 0} (xs : List A) (i : ℕ) (x : A) → slice_get xs i ≡ Some x → xs ≡ take i xs ++ x ∷ drop (suc i) xs
cut_at [] i x h = absurd cc
cut_at {A = A} (y ∷ xs) zero x h = let same : y ≡ x = cc in ap (λ (z : A). z ∷ xs) same
cut_at {A = A} (y ∷ xs) (suc i) x h = ap (λ (l : List A). y ∷ l) (cut_at xs i x h)

-- what is kept of a query stays as lines are added
pub kept_more : Laws → (lines rest : List Line) (a : Asked) → IsAsked lines a → kept_in lines a ≡ kept_in (lines ++ rest) a
kept_more laws lines rest a is =
    ap (λ (n : ℕ). let q : DelayedQuery = record { number = a.number; line = a.place; documents = n; due = due_of lines a } in q) (ap (λ (l : List Doc). length l) (sym (laws.docs lines rest a is)))
    ∙ ap (λ (d : ℕ). let q : DelayedQuery = record { number = a.number; line = a.place; documents = length (docs_before (lines ++ rest) a); due = d } in q) (sym (laws.due lines rest a is))

pub all_kept : Laws → (lines rest : List Line) (queries : List Asked) → AllByRecursion (IsAsked lines) queries → map (kept_in lines) queries ≡ map (kept_in (lines ++ rest)) queries
all_kept laws lines rest queries are =
    map-same (kept_in lines) (kept_in (lines ++ rest)) queries (all-implies (IsAsked lines) (λ a. kept_in lines a ≡ kept_in (lines ++ rest) a) (λ a is. kept_more laws lines rest a is) queries are)

pub left_are : Laws → (lines : List Line) → AllByRecursion (IsAsked lines) (left_in lines)
left_are laws lines = recursion_from_All (IsAsked lines) (left_in lines) (laws.left_asked lines)

abbrev one_if : Bool → ℕ
one_if b = cond b 1 0

docs_more : (lines : List Line) (l : Line) → length (docs_of (lines ++ l ∷ [])) ≡ length (docs_of lines) + length (docs_of (l ∷ []))
docs_more lines l =
    ap (λ (d : List Doc). length d) (filter_map-append doc_of_line lines (l ∷ [])) ∙ length-append (docs_of lines) (docs_of (l ∷ []))

-- one line more, from what changed in each part
pub follows_more : Laws → (all lines : List Line) (l : Line) (old new : WalkState) → IsLine l → Follows all lines old
    → new.timers.tick ≡ old.timers.tick + ticks_of l
    → new.timers.asked ≡ old.timers.asked + one_if (is_query l)
    → new.timers.waiting ≡ map (kept_in (lines ++ l ∷ [])) (left_at_line lines l)
    → new.timers.fired ≡ []
    → new.timers.homes + one_if (is_delayed l) ≡ old.timers.homes
    → new.documents ≡ old.documents + length (docs_of (l ∷ []))
    → new.place ≡ old.place + length (come_at_line lines l)
    → Follows all (lines ++ l ∷ []) new
follows_more laws all lines l old new is follows tick asked waiting fired homes documents place = record {
  tick = tick ∙ (ap (λ (n : ℕ). n + ticks_of l) follows.tick ∙ sym (sum_by_push ticks_of lines l));
  asked = asked ∙ (ap (λ (n : ℕ). n + one_if (is_query l)) follows.asked ∙ sym (sum_by_push (λ (k : Line). one_if (is_query k)) lines l));
  waiting = waiting ∙ ap (map (kept_in (lines ++ l ∷ []))) (sym (laws.left lines l is));
  fired = fired;
  homes = ap (λ (n : ℕ). new.timers.homes + n) (sum_by_push (λ (k : Line). one_if (is_delayed k)) lines l) ∙ omega (arith, homes, follows.homes);
  documents = documents ∙ (ap (λ (n : ℕ). n + length (docs_of (l ∷ []))) follows.documents ∙ sym (docs_more lines l));
  place = place ∙ (ap (λ (n : ℕ). n + length (come_at_line lines l)) follows.place
      ∙ (sym (length-append (come_in lines) (come_at_line lines l)) ∙ ap (λ (c : List Coming). length c) (sym (laws.comes lines l is))));
}

-- the lines of an input round the one at a place
pub record Around (all : List Line) (i : ℕ) (l : Line) : Type 0 where
  pub all_are : all ≡ take i all ++ l ∷ drop (suc i) all
  pub is_line : IsLine l
  pub rest_are : AllByRecursion IsLine (drop (suc i) all)

pub around : (all : List Line) (i : ℕ) (l : Line) → IsInput all → slice_get all i ≡ Some l → Around all i l
around all i l input at =
    let cut = cut_at all i l at in
    let are = recursion_from_All IsLine all input.limits.lines_are in
    let both = all-right IsLine (take i all) (l ∷ drop (suc i) all) (subst (λ (x : List Line). AllByRecursion IsLine x) cut are) in
    record { all_are = cut; is_line = both.0; rest_are = both.1 }
