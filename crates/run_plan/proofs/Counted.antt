-- One more query is counted.
use Rattle.std.proofs.Common.{◌≡◌, ℕ, ◌+◌, ◌<◌, ◌≤◌, List, [], ◌∷◌, ◌++◌, length, set, get_or, map, replicate, Bool, true, false, cond, refl, sym, ap, subst, ◌∙◌, arith}
use Rattle.std.specs.Prelude.{◌==◌}
use Rattle.std.specs.List.{All, count_by, range_with_len}
use Rattle.std.proofs.lemmas.Bool.Decides.{nat_tests}
use Rattle.std.proofs.lemmas.List.{length-append}
use Rattle.std.proofs.lemmas.List.FromFn.{get_or-map-range_with_len, length-map-range_with_len}
use Rattle.std.proofs.lemmas.List.Sums.{count_by-le-length}
use Rattle.std.proofs.lemmas.Bool.{eq-eqb}
use Rattle.query_model.specs.declared.line.Line.{Line}
use Rattle.query_model.specs.Order.{Asked}
use Rattle.fan_model.specs.Answered.{answered_in, is_top, tops_in}
use Rattle.fan_model.specs.Notes.{base_of}
use Rattle.run_notes.specs.declared.counting.Counted.{Counted}
use Rattle.run_notes.specs.Counting.{HasCounted, gathered_on}
use Rattle.run_plan.specs.Counting.{HasCountedTo}
use Rattle.run_plan.specs.Turns.{begun_between}
use Rattle.run_plan.proofs.Lists.{all_computed, count_push, set_computed, zeros_computed}

count_yes : {A : Type 0} (p : A → Bool) (xs : List A) (x : A) → p x ≡ true → count_by p (xs ++ x ∷ []) ≡ count_by p xs + 1
count_yes p xs x is = count_push p xs x ∙ ap (λ (b : Bool). cond b (count_by p xs + 1) (count_by p xs)) is

count_no : {A : Type 0} (p : A → Bool) (xs : List A) (x : A) → p x ≡ false → count_by p (xs ++ x ∷ []) ≡ count_by p xs
count_no p xs x is = count_push p xs x ∙ ap (λ (b : Bool). cond b (count_by p xs + 1) (count_by p xs)) is

other : (i j : ℕ) → (i == j) ≡ false → (j == i) ≡ false
other i j e = grind (arith, nat_tests)

-- by base
pub gathered_more : (bases : ℕ) (queries : List Asked) (a : Asked) (k : ℕ) → k < bases → 1 + k ≡ base_of bases a.number
    → set (map (gathered_on bases queries) (range_with_len 1 bases)) k (get_or (map (gathered_on bases queries) (range_with_len 1 bases)) k 0 + 1) ≡ map (gathered_on bases (queries ++ a ∷ [])) (range_with_len 1 bases)
gathered_more bases queries a k lt is =
    let f : ℕ → ℕ = gathered_on bases queries in
    let g : ℕ → ℕ = gathered_on bases (queries ++ a ∷ []) in
    let at : get_or (map f (range_with_len 1 bases)) k 0 ≡ f (1 + k) = get_or-map-range_with_len f 1 bases k (1 + k) 0 lt refl in
    let here : g (1 + k) ≡ f (1 + k) + 1 = count_yes (λ (b : Asked). base_of bases b.number == 1 + k) queries a (ap (λ (n : ℕ). n == 1 + k) (sym is) ∙ eq-eqb (1 + k) (1 + k) refl) in
    ap (λ (n : ℕ). set (map f (range_with_len 1 bases)) k (n + 1)) at
    ∙ set_computed f g 1 bases k lt here (λ i no. count_no (λ (b : Asked). base_of bases b.number == i) queries a (ap (λ (n : ℕ). n == i) (sym is) ∙ other i (1 + k) no))

pub none_counted : (lines : List Line) (bases : ℕ) (counted : Counted) → begun_between lines 0 0 ≡ [] → counted.answered ≡ 0 → counted.tops ≡ 0 → counted.by_base.items ≡ replicate bases 0
    → HasCountedTo lines bases 0 counted
none_counted lines bases counted none answered tops by_base = record {
  answered = answered ∙ ap length (sym none);
  tops = tops ∙ ap tops_in (sym none);
  by_base = by_base ∙ (zeros_computed (gathered_on bases []) 1 bases (λ i. refl) ∙ ap (λ (queries : List Asked). map (gathered_on bases queries) (range_with_len 1 bases)) (sym none));
}

pub one_more_counted : (lines : List Line) (bases place : ℕ) (asked : Asked) (old new : Counted) → begun_between lines 0 (place + 1) ≡ begun_between lines 0 place ++ asked ∷ [] → (k : ℕ) → k < bases
    → 1 + k ≡ base_of bases asked.number → HasCountedTo lines bases place old → new.answered ≡ old.answered + 1 → new.tops ≡ cond (is_top asked.query.ask) (old.tops + 1) old.tops
    → new.by_base.items ≡ set old.by_base.items k (get_or old.by_base.items k 0 + 1) → HasCountedTo lines bases (place + 1) new
one_more_counted lines bases place asked old new more k lt is has answered tops by_base =
    let queries : List Asked = begun_between lines 0 place in
    record {
      answered = answered ∙ (ap (λ (n : ℕ). n + 1) has.answered ∙ (sym (length-append queries (asked ∷ [])) ∙ ap length (sym more)));
      tops = tops ∙ (ap (λ (n : ℕ). cond (is_top asked.query.ask) (n + 1) n) has.tops ∙ (sym (count_push (λ (b : Asked). is_top b.query.ask) queries asked) ∙ ap tops_in (sym more)));
      by_base = by_base ∙ (ap (λ (l : List ℕ). set l k (get_or l k 0 + 1)) has.by_base
          ∙ (gathered_more bases queries asked k lt is ∙ ap (λ (qs : List Asked). map (gathered_on bases qs) (range_with_len 1 bases)) (sym more)));
    }

pub same_counted : (lines : List Line) (bases place : ℕ) (counted : Counted) → begun_between lines 0 (place + 1) ≡ begun_between lines 0 place → HasCountedTo lines bases place counted → HasCountedTo lines bases (place + 1) counted
same_counted lines bases place counted same has = record {
  answered = has.answered ∙ ap length (sym same);
  tops = has.tops ∙ ap tops_in (sym same);
  by_base = has.by_base ∙ ap (λ (queries : List Asked). map (gathered_on bases queries) (range_with_len 1 bases)) (sym same);
}

pub all_counted : (lines : List Line) (bases place : ℕ) (counted : Counted) → begun_between lines 0 place ≡ answered_in lines → HasCountedTo lines bases place counted → HasCounted lines bases counted
all_counted lines bases place counted all has = record {
  answered = has.answered ∙ ap length all;
  tops = has.tops ∙ ap tops_in all;
  by_base = has.by_base ∙ ap (λ (queries : List Asked). map (gathered_on bases queries) (range_with_len 1 bases)) all;
}

-- no number is more than that of the queries
pub record IsFew (bases most : ℕ) (counted : Counted) : Type 0 where
  pub answered : counted.answered ≤ most
  pub tops : counted.tops ≤ most
  pub as_many : length counted.by_base.items ≡ bases
  pub each : (k : ℕ) → k < bases → get_or counted.by_base.items k 0 ≤ most
  pub all : All (λ (count : ℕ). count ≤ most) counted.by_base.items

pub few_counted : (lines : List Line) (bases place most : ℕ) (counted : Counted) → length (begun_between lines 0 place) ≤ most → HasCountedTo lines bases place counted → IsFew bases most counted
few_counted lines bases place most counted few has =
    let queries : List Asked = begun_between lines 0 place in
    let f : ℕ → ℕ = gathered_on bases queries in
    let below : (i : ℕ) → f i ≤ most = λ (i : ℕ). at_most (f i) (length queries) most (count_by-le-length (λ (b : Asked). base_of bases b.number == i) queries) few in
    record {
      answered = omega (arith, has.answered, few);
      tops = omega (arith, has.tops, few, count_by-le-length (λ (b : Asked). is_top b.query.ask) queries);
      as_many = ap length has.by_base ∙ length-map-range_with_len f 1 bases;
      each = λ k lt. subst (λ (l : List ℕ). get_or l k 0 ≤ most) (sym has.by_base) (subst (λ (n : ℕ). n ≤ most) (sym (get_or-map-range_with_len f 1 bases k (1 + k) 0 lt refl)) (below (1 + k)));
      all = subst (λ (l : List ℕ). All (λ (count : ℕ). count ≤ most) l) (sym has.by_base) (all_computed f most 1 bases below);
    }
  where
    at_most : (a b d : ℕ) → a ≤ b → b ≤ d → a ≤ d
    at_most a b d p q = omega arith
