-- Which places of one list stand in another.
use Rattle.std.proofs.Common.{◌≡◌, ℕ, zero, suc, ◌+◌, ◌-◌, ◌<◌, ◌≤◌, List, [], ◌∷◌, ◌++◌, length, Bool, true, false, not, ◌&&◌, ◌||◌, cond, eqb, leb, ltb, get_or, take, filter, inl, inr, ◌⊎◌, append-nil, append_assoc, drop, set, refl, sym, ap, subst, ◌∙◌, arith}
use mir.Val.{bool_byte}
use Rattle.std.specs.List.{AllByRecursion}
use Rattle.std.proofs.lemmas.Bool.Decides.{nat_tests}
use Rattle.std.proofs.lemmas.List.{drop_all, take_all, take_more, take_more_set, take-set, get_or_default}
use Rattle.std.proofs.lemmas.List.Elements.{filter-append}
use Rattle.std.proofs.lemmas.List.Folds.{list_any_at, list_any_none}
use Rattle.std.proofs.lemmas.Bool.{eq-eqb, leb-false, leb-true, le-ltb, lt-ltb, ltb-false, ltb-true}
use Rattle.fan_base.specs.declared.doc.Doc.{Doc}
use Rattle.shard_index.specs.Narrowing.{AreParted, StandWhere, has_place, passes}
use Rattle.shard_index.specs.Places.{places_from, places_where}
use Rattle.shard_index.proofs.JoinLemmas.{from_here}
use Rattle.shard_index.proofs.PlaceLemmas.{places-above, neq-below}
use Rattle.word_table.proofs.PairLemmas.{all-at}

eqb-more : (x y : ℕ) → y < x → eqb x y ≡ false
eqb-more x y h = grind (arith, nat_tests)

-- of ascending places, those in front of a lower one are lower
lower : (places : List ℕ) (x k m : ℕ) → AreParted places → k ≤ m → m < length places → get_or places m 0 < x → get_or places k 0 < x
lower places x k m parted low within less = ltb-true (get_or places k 0) x (parted x k m 0 low within (lt-ltb (get_or places m 0) x less))

-- a place is one of ascending ones where it stands behind those that are lower
pub found : (places : List ℕ) (x at : ℕ) → AreParted places → at ≤ length places → (0 < at → get_or places (at - 1) 0 < x) → (at < length places → x ≤ get_or places at 0)
    → has_place places x ≡ (ltb at (length places) && eqb (get_or places at 0) x)
found places x at parted within front behind = by (ltb at (length places)) (ltb (get_or places at 0) (suc x)) refl refl
  where
    before : (k : ℕ) → k < at → get_or places k 0 < x
    before k low = lower places x k (at - 1) parted (omega (arith, low)) (omega (arith, low, within)) (front (omega (arith, low)))

    other : (k : ℕ) (b : Bool) → ltb k at ≡ b → (ltb k at ≡ false → x < get_or places k 0) → eqb x (get_or places k 0) ≡ false
    other k true is past = eqb-more x (get_or places k 0) (before k (ltb-true k at is))
    other k false is past = neq-below x (get_or places k 0) (past is)

    none : ((k : ℕ) → k < length places → at ≤ k → x < get_or places k 0) → has_place places x ≡ false
    none past = list_any_none (eqb x) places (λ k d low.
        ap (λ n. eqb x n) (get_or_default places k d 0 low) ∙ other k (ltb k at) refl (λ is. past k low (ltb-false k at is)))

    by : (b c : Bool) → ltb at (length places) ≡ b → ltb (get_or places at 0) (suc x) ≡ c → has_place places x ≡ (b && eqb (get_or places at 0) x)
    by false c is less = none (λ k low from. absurd (omega (arith, low, from, ltb-false at (length places) is)))
    by true true is less =
        let same : get_or places at 0 ≡ x = omega (arith, behind (ltb-true at (length places) is), ltb-true (get_or places at 0) (suc x) less) in
        list_any_at (eqb x) places at 0 (ltb-true at (length places) is) (ap (λ n. eqb x n) same ∙ eq-eqb x x refl) ∙ sym (ap (λ n. eqb n x) same ∙ eq-eqb x x refl)
    by true false is less =
        let more = ltb-false (get_or places at 0) (suc x) less in
        none (λ k low from. past k low from (ltb (get_or places k 0) (suc x)) refl more) ∙ sym (eqb-more (get_or places at 0) x (omega (arith, more)))
      where
        past : (k : ℕ) → k < length places → at ≤ k → (b : Bool) → ltb (get_or places k 0) (suc x) ≡ b → suc x ≤ get_or places at 0 → x < get_or places k 0
        past k low from true is more = absurd (omega (arith, more, lower places (suc x) at k parted from low (ltb-true (get_or places k 0) (suc x) is)))
        past k low from false is more = omega (arith, ltb-false (get_or places k 0) (suc x) is)

-- places that ascend, each once
abbrev pub Ascend : List ℕ → Type 0
Ascend places = (k m : ℕ) → k < m → m < length places → get_or places k 0 < get_or places m 0

-- what is kept of the first places, and where the search goes on
pub record HasKept (places by : List ℕ) (wanted : Bool) (index at : ℕ) (kept : List ℕ) : Type 0 where
  pub are : kept ≡ filter (passes by wanted) (take index places)
  pub front : 0 < at → (m : ℕ) → index ≤ m → m < length places → get_or by (at - 1) 0 < get_or places m 0

pub kept-more : (places by kept more : List ℕ) (wanted has : Bool) (index at next : ℕ) → Ascend places → AreParted by → HasKept places by wanted index at kept
    → index < length places → at ≤ next → next ≤ length by → (at < next → get_or by (next - 1) 0 < get_or places index 0)
    → (next < length by → get_or places index 0 ≤ get_or by next 0) → has ≡ (ltb next (length by) && eqb (get_or by next 0) (get_or places index 0))
    → more ≡ kept ++ cond (cond wanted has (not has)) (get_or places index 0 ∷ []) [] → HasKept places by wanted (index + 1) next more
kept-more places by kept more wanted has index at next ascend parted before low further within lower_before behind is more_are = record {
  are = more_are
      ∙ (ap (λ (ks : List ℕ). ks ++ cond (cond wanted has (not has)) (x ∷ []) []) before.are
      ∙ (ap (λ (b : Bool). filter (passes by wanted) (take index places) ++ cond (cond wanted b (not b)) (x ∷ []) []) (is ∙ sym (found by x next parted within fronts behind))
      ∙ (ap (λ (ks : List ℕ). filter (passes by wanted) (take index places) ++ ks) (one (passes by wanted x))
      ∙ (sym (filter-append (passes by wanted) (take index places) (x ∷ [])) ∙ ap (λ (ks : List ℕ). filter (passes by wanted) ks) (sym (take_more places index 0 low))))));
  front = λ some m from to. further_on (ltb at next) refl some m from to;
}
  where
    x : ℕ
    x = get_or places index 0

    fronts : 0 < next → get_or by (next - 1) 0 < x
    fronts some = cases (ltb at next) refl
      where
        cases : (b : Bool) → ltb at next ≡ b → get_or by (next - 1) 0 < x
        cases true less = lower_before (ltb-true at next less)
        cases false less =
            let same : at ≡ next = (let past = ltb-false at next less in omega (arith, past, further)) in
            subst (λ (n : ℕ). get_or by (n - 1) 0 < x) same (before.front (omega (arith, same, some)) index (omega arith) low)

    further_on : (b : Bool) → ltb at next ≡ b → 0 < next → (m : ℕ) → index + 1 ≤ m → m < length places → get_or by (next - 1) 0 < get_or places m 0
    further_on b less some m from to = omega (arith, fronts some, ascend index m (omega (arith, from)) to)

    one : (b : Bool) → cond b (x ∷ []) [] ≡ cond b (x ∷ filter (passes by wanted) []) (filter (passes by wanted) [])
    one true = refl
    one false = refl

pub kept-none : (places by : List ℕ) (wanted : Bool) → HasKept places by wanted 0 0 []
kept-none places by wanted = record { are = refl; front = λ some m from to. absurd (omega (arith, some)) }

-- the places of documents ascend

ascend-from : (place : ℕ) (test : Doc → Bool) (docs : List Doc) → Ascend (places_from place test docs)
ascend-from place test [] = λ k m low within. absurd (omega (arith, within))
ascend-from place test (d ∷ ds) = by (test d) (ascend-from (place + 1) test ds)
  where
    rest : List ℕ
    rest = places_from (place + 1) test ds

    first : Ascend rest → (k m : ℕ) → k < m → m < length (place ∷ rest) → get_or (place ∷ rest) k 0 < get_or (place ∷ rest) m 0
    first more zero zero low within = absurd (omega (arith, low))
    first more (suc k) zero low within = absurd (omega (arith, low))
    first more zero (suc m) low within = all-at (λ x. place < x) rest m 0 (places-above place (place + 1) test ds (omega arith)) (omega (arith, within))
    first more (suc k) (suc m) low within = more k m (omega (arith, low)) (omega (arith, within))

    by : (b : Bool) → Ascend rest → Ascend (cond b (place ∷ rest) rest)
    by true more = first more
    by false more = more

pub ascend-where : (test : Doc → Bool) (docs : List Doc) (places : List ℕ) → places ≡ places_where test docs → Ascend places
ascend-where test docs places is = subst Ascend (sym is) (ascend-from 0 test docs)

-- those kept of the places of documents that pass a test
pub kept-from : (place : ℕ) (p s : Doc → Bool) (t : ℕ → Bool) (docs : List Doc) → ((i : ℕ) (d : Doc) → i < length docs → t (place + i) ≡ s (get_or docs i d))
    → filter t (places_from place p docs) ≡ places_from place (λ d. p d && s d) docs
kept-from place p s t [] same = refl
kept-from place p s t (d ∷ ds) same = by (p d) (s d) here (kept-from (place + 1) p s t ds later)
  where
    rest : List ℕ
    rest = places_from (place + 1) p ds

    both : List ℕ
    both = places_from (place + 1) (λ d. p d && s d) ds

    here : t place ≡ s d
    here = ap t (let e : place ≡ place + 0 = omega arith in e) ∙ same 0 d (omega arith)

    later : (i : ℕ) (e : Doc) → i < length ds → t (place + 1 + i) ≡ s (get_or ds i e)
    later i e low = ap t (let eq : place + 1 + i ≡ place + suc i = omega arith in eq) ∙ same (suc i) e (omega (arith, low))

    by : (b c : Bool) → t place ≡ c → filter t rest ≡ both → filter t (cond b (place ∷ rest) rest) ≡ cond (b && c) (place ∷ both) both
    by true c is more = ap (λ b. cond b (place ∷ filter t rest) (filter t rest)) is ∙ kept c more
      where
        kept : (c : Bool) → filter t rest ≡ both → cond c (place ∷ filter t rest) (filter t rest) ≡ cond c (place ∷ both) both
        kept true more = ap (λ xs. place ∷ xs) more
        kept false more = more
    by false c is more = more

pub kept-where : (places by kept : List ℕ) (wanted : Bool) (index at : ℕ) (p q : Doc → Bool) (docs : List Doc) → length places ≤ index → HasKept places by wanted index at kept
    → places ≡ places_where p docs → StandWhere by q docs → kept ≡ places_where (λ doc. p doc && cond wanted (q doc) (not (q doc))) docs
kept-where places by kept wanted index at p q docs past has are stand =
    has.are ∙ (ap (λ (ps : List ℕ). filter (passes by wanted) ps) (take_all index places past ∙ are)
    ∙ kept-from 0 p (λ doc. cond wanted (q doc) (not (q doc))) (passes by wanted) docs
    (λ i d low. ap (λ (b : Bool). cond wanted b (not b)) (ap (λ n. has_place by n) (let e : 0 + i ≡ i = omega arith in e) ∙ stand.are i d low)))

-- two lists, one step after another

pub one-more : (at step many : ℕ) (b : Bool) → at < many → step ≡ bool_byte b → at + step ≤ many
one-more at step many true low is = omega (arith, low, is)
one-more at step many false low is = omega (arith, low, is)

-- the next place is written where it belongs, and counted where it is kept
pub written : (room : List ℕ) (many next x : ℕ) (b : Bool) → many < length room → next ≡ many + bool_byte b → take next (set room many x) ≡ take many room ++ cond b (x ∷ []) []
written room many next x true low is = ap (λ n. take n (set room many x)) is ∙ take_more_set room many x low
written room many next x false low is = ap (λ n. take n (set room many x)) (let e : next ≡ many = omega (arith, is) in e) ∙ (take-set room many x ∙ sym (append-nil (take many room)))

-- no more are kept than were gone over
pub no-further : (x y many index step on : ℕ) (b c : Bool) → ltb x y ≡ b → leb x y ≡ c → many ≤ index → step ≡ bool_byte b → on ≡ bool_byte c → many + step ≤ index + on
no-further x y many index step on true false is same low one other =
    let below = ltb-true x y is in
    let above = leb-false x y same in
    absurd (omega (arith, below, above))
no-further x y many index step on true true is same low one other = omega (arith, low, one, other)
no-further x y many index step on false c is same low one other = omega (arith, low, one)

module _ (places by : List ℕ) where
  moved : (kept : List ℕ) (wanted : Bool) (index at next further : ℕ) → next ≡ index → further ≡ at → HasKept places by wanted index at kept → HasKept places by wanted next further kept
  moved kept wanted index at next further same also has =
      subst (λ n. HasKept places by wanted n further kept) (sym same) (subst (λ n. HasKept places by wanted index n kept) (sym also) has)

  -- the next of the others is below all places that are left
  kept-past : (kept : List ℕ) (wanted : Bool) (index at : ℕ) → Ascend places → HasKept places by wanted index at kept → (index < length places → get_or by at 0 < get_or places index 0)
      → HasKept places by wanted index (at + 1) kept
  kept-past kept wanted index at ascend has low = record {
    are = has.are;
    front = λ some m from to. subst (λ n. get_or by n 0 < get_or places m 0) (let e : at ≡ at + 1 - 1 = omega arith in e) (cases (ltb index m) m refl from to);
  }
    where
      cases : (b : Bool) (m : ℕ) → ltb index m ≡ b → index ≤ m → m < length places → get_or by at 0 < get_or places m 0
      cases true m less from to = omega (arith, low (omega (arith, from, to)), ascend index m (ltb-true index m less) to)
      cases false m less from to =
          let same : index ≡ m = (let past = ltb-false index m less in omega (arith, past, from)) in
          subst (λ n. get_or by at 0 < get_or places n 0) same (low (omega (arith, same, to)))

  -- the next place of each list, and how far each is gone then
  pub near-more : (kept more : List ℕ) (index at next further : ℕ) (up down : Bool) → Ascend places → AreParted by → HasKept places by true index at kept → index < length places → at < length by
      → leb (get_or places index 0) (get_or by at 0) ≡ up → leb (get_or by at 0) (get_or places index 0) ≡ down → next ≡ index + bool_byte up → further ≡ at + bool_byte down
      → more ≡ kept ++ cond (eqb (get_or places index 0) (get_or by at 0)) (get_or places index 0 ∷ []) [] → HasKept places by true next further more
  near-more kept more index at next further false false ascend parted has low among is same on also are =
      let below = leb-false (get_or places index 0) (get_or by at 0) is in
      let above = leb-false (get_or by at 0) (get_or places index 0) same in
      absurd (omega (arith, below, above))
  near-more kept more index at next further true false ascend parted has low among is same on also are =
      let x = get_or places index 0 in
      let y = get_or by at 0 in
      let below : x < y = leb-false y x same in
      moved more true (index + 1) at next further on (omega (arith, also))
      (kept-more places by kept more true false index at at ascend parted has low (omega arith) (omega (arith, among)) (λ later. absurd (omega (arith, later))) (λ within. omega (arith, below))
      (sym ((λ k. lt-ltb at (length by) among k && eqb y x) ∙ eqb-more y x below)) (are ∙ ap (λ b. kept ++ cond b (x ∷ []) []) (neq-below x y below)))
  near-more kept more index at next further false true ascend parted has low among is same on also are =
      let x = get_or places index 0 in
      let y = get_or by at 0 in
      let above : y < x = leb-false x y is in
      moved more true index (at + 1) next further (omega (arith, on)) also
      (subst (λ ks. HasKept places by true index (at + 1) ks) (sym (are ∙ (ap (λ b. kept ++ cond b (x ∷ []) []) (eqb-more x y above) ∙ append-nil kept)))
      (kept-past kept true index at ascend has (λ within. above)))
  near-more kept more index at next further true true ascend parted has low among is same on also are =
      let x = get_or places index 0 in
      let y = get_or by at 0 in
      let one : x ≡ y = (let up = leb-true x y is in let down = leb-true y x same in omega (arith, up, down)) in
      moved more true (index + 1) (at + 1) next further on also
      (kept-past more true (index + 1) at ascend
      (kept-more places by kept more true true index at at ascend parted has low (omega arith) (omega (arith, among)) (λ later. absurd (omega (arith, later))) (λ within. omega (arith, one))
      (sym ((λ k. lt-ltb at (length by) among k && eqb y x) ∙ eq-eqb y x (sym one))) (are ∙ ap (λ b. kept ++ cond b (x ∷ []) []) (eq-eqb x y one)))
      (λ within. omega (arith, one, ascend index (index + 1) (omega arith) within)))

  -- the same, where those that the others don't have are kept
  pub past-more : (kept more : List ℕ) (index at next further : ℕ) (up down : Bool) → Ascend places → AreParted by → HasKept places by false index at kept → index < length places → at < length by
      → leb (get_or places index 0) (get_or by at 0) ≡ up → leb (get_or by at 0) (get_or places index 0) ≡ down → next ≡ index + bool_byte up → further ≡ at + bool_byte down
      → more ≡ kept ++ cond (ltb (get_or places index 0) (get_or by at 0)) (get_or places index 0 ∷ []) [] → HasKept places by false next further more
  past-more kept more index at next further false false ascend parted has low among is same on also are =
      let below = leb-false (get_or places index 0) (get_or by at 0) is in
      let above = leb-false (get_or by at 0) (get_or places index 0) same in
      absurd (omega (arith, below, above))
  past-more kept more index at next further true false ascend parted has low among is same on also are =
      let x = get_or places index 0 in
      let y = get_or by at 0 in
      let below : x < y = leb-false y x same in
      moved more false (index + 1) at next further on (omega (arith, also))
      (kept-more places by kept more false false index at at ascend parted has low (omega arith) (omega (arith, among)) (λ later. absurd (omega (arith, later))) (λ within. omega (arith, below))
      (sym ((λ k. lt-ltb at (length by) among k && eqb y x) ∙ eqb-more y x below)) (are ∙ ap (λ b. kept ++ cond b (x ∷ []) []) (lt-ltb x y below)))
  past-more kept more index at next further false true ascend parted has low among is same on also are =
      let x = get_or places index 0 in
      let y = get_or by at 0 in
      let above : y < x = leb-false x y is in
      moved more false index (at + 1) next further (omega (arith, on)) also
      (subst (λ ks. HasKept places by false index (at + 1) ks) (sym (are ∙ (ap (λ b. kept ++ cond b (x ∷ []) []) (le-ltb x y (omega (arith, above))) ∙ append-nil kept)))
      (kept-past kept false index at ascend has (λ within. above)))
  past-more kept more index at next further true true ascend parted has low among is same on also are =
      let x = get_or places index 0 in
      let y = get_or by at 0 in
      let down : y ≤ x = leb-true y x same in
      let one : x ≡ y = (let up = leb-true x y is in omega (arith, up, down)) in
      moved more false (index + 1) (at + 1) next further on also
      (kept-past more false (index + 1) at ascend
      (kept-more places by kept more false true index at at ascend parted has low (omega arith) (omega (arith, among)) (λ later. absurd (omega (arith, later))) (λ within. omega (arith, one))
      (sym ((λ k. lt-ltb at (length by) among k && eqb y x) ∙ eq-eqb y x (sym one))) (are ∙ ap (λ b. kept ++ cond b (x ∷ []) []) (le-ltb x y down)))
      (λ within. omega (arith, one, ascend index (index + 1) (omega arith) within)))

  -- behind the last of the others no place is one of them
  kept-left : (n : ℕ) (kept : List ℕ) (wanted : Bool) (index at : ℕ) → Ascend places → AreParted by → at ≤ length by → length by ≤ at → HasKept places by wanted index at kept → index + n ≡ length places
      → HasKept places by wanted (length places) at (kept ++ cond wanted [] (drop index places))
  kept-left zero kept wanted index at ascend parted within past has all =
      moved (kept ++ cond wanted [] (drop index places)) wanted index at (length places) at (omega (arith, all)) refl
      (subst (λ ks. HasKept places by wanted index at ks) (sym (none wanted ∙ append-nil kept)) has)
    where
      none : (b : Bool) → kept ++ cond b [] (drop index places) ≡ kept ++ []
      none true = refl
      none false = ap (λ ks. kept ++ ks) (drop_all index places (omega (arith, all)))
  kept-left (suc n) kept wanted index at ascend parted within past has all =
      subst (λ ks. HasKept places by wanted (length places) at ks) (again wanted)
      (kept-left n (kept ++ cond (cond wanted false true) (get_or places index 0 ∷ []) []) wanted (index + 1) at ascend parted within past
      (kept-more places by kept (kept ++ cond (cond wanted false true) (get_or places index 0 ∷ []) []) wanted false index at at ascend parted has (omega (arith, all)) (omega arith) within
      (λ later. absurd (omega (arith, later))) (λ low. absurd (omega (arith, low, past)))
      (sym (λ k. le-ltb at (length by) past k && eqb (get_or by at 0) (get_or places index 0))) refl)
      (omega (arith, all)))
    where
      again : (b : Bool) → (kept ++ cond (cond b false true) (get_or places index 0 ∷ []) []) ++ cond b [] (drop (index + 1) places) ≡ kept ++ cond b [] (drop index places)
      again true = append-nil (kept ++ [])
      again false = append_assoc kept (get_or places index 0 ∷ []) (drop (index + 1) places) ∙ ap (λ ks. kept ++ ks) (sym (from_here places index (omega (arith, all))))

  pub near-where : (kept : List ℕ) (wanted : Bool) (index at : ℕ) (p q : Doc → Bool) (docs : List Doc) → (length by ≤ at) ⊎ (length places ≤ index) → index ≤ length places → at ≤ length by
      → HasKept places by wanted index at kept → places ≡ places_where p docs → StandWhere by q docs
      → kept ++ cond wanted [] (drop index places) ≡ places_where (λ doc. p doc && cond wanted (q doc) (not (q doc))) docs
  near-where kept wanted index at p q docs (inr past) low within has are stand = none wanted ∙ (append-nil kept ∙ kept-where places by kept wanted index at p q docs past has are stand)
    where
      none : (b : Bool) → kept ++ cond b [] (drop index places) ≡ kept ++ []
      none true = refl
      none false = ap (λ ks. kept ++ ks) (drop_all index places past)
  near-where kept wanted index at p q docs (inl past) low within has are stand =
      kept-where places by (kept ++ cond wanted [] (drop index places)) wanted (length places) at p q docs (omega arith)
      (kept-left (length places - index) kept wanted index at (ascend-where p docs places are) stand.parted within past has (omega (arith, low))) are stand

-- the places of documents that pass a test tell of their documents

none-there : (x : ℕ) (xs : List ℕ) → AllByRecursion (λ y. x < y) xs → has_place xs x ≡ false
none-there x [] h = refl
none-there x (y ∷ ys) h = (λ i. neq-below x y h.0 i || has_place ys x) ∙ none-there x ys h.1

has-from : (place : ℕ) (q : Doc → Bool) (docs : List Doc) (i : ℕ) (d : Doc) → i < length docs → has_place (places_from place q docs) (place + i) ≡ q (get_or docs i d)
has-from place q [] i d low = absurd (omega (arith, low))
has-from place q (e ∷ es) zero d low = ap (λ x. has_place (cond (q e) (place ∷ rest) rest) x) (let z : place + 0 ≡ place = omega arith in z) ∙ by (q e)
  where
    rest : List ℕ
    rest = places_from (place + 1) q es

    by : (b : Bool) → has_place (cond b (place ∷ rest) rest) place ≡ b
    by true = λ i. eq-eqb place place refl i || has_place rest place
    by false = none-there place rest (places-above place (place + 1) q es (omega arith))
has-from place q (e ∷ es) (suc i) d low = by (q e) (has-from (place + 1) q es i d (omega (arith, low)))
  where
    rest : List ℕ
    rest = places_from (place + 1) q es

    further : place + 1 + i ≡ place + suc i
    further = omega arith

    by : (b : Bool) → has_place rest (place + 1 + i) ≡ q (get_or es i d) → has_place (cond b (place ∷ rest) rest) (place + suc i) ≡ q (get_or es i d)
    by true more = (λ k. eqb-more (place + suc i) place (omega arith) k || has_place rest (place + suc i)) ∙ (ap (λ x. has_place rest x) (sym further) ∙ more)
    by false more = ap (λ x. has_place rest x) (sym further) ∙ more

ascend-parted : (places : List ℕ) → Ascend places → AreParted places
ascend-parted places ascend = λ front i j d low within holds. by i j d low within (ltb i j) refl front holds
  where
    by : (i j d : ℕ) → i ≤ j → j < length places → (b : Bool) → ltb i j ≡ b → (front : ℕ) → ltb (get_or places j d) front ≡ true → ltb (get_or places i d) front ≡ true
    by i j d low within true is front holds =
        let less = ascend i j (ltb-true i j is) within in
        lt-ltb (get_or places i d) front (omega (arith, ltb-true (get_or places j d) front holds, less, get_or_default places i d 0 (omega (arith, low, within)), get_or_default places j d 0 within))
    by i j d low within false is front holds =
        let same : i ≡ j = (let past = ltb-false i j is in omega (arith, low, past)) in
        ap (λ n. ltb (get_or places n d) front) same ∙ holds

pub stand-where : (q : Doc → Bool) (docs : List Doc) (places : List ℕ) → places ≡ places_where q docs → StandWhere places q docs
stand-where q docs places is = record {
  parted = ascend-parted places (ascend-where q docs places is);
  are = λ i d low. ap (λ (ps : List ℕ). has_place ps i) is ∙ (ap (λ n. has_place (places_where q docs) n) (let e : i ≡ 0 + i = omega arith in e) ∙ has-from 0 q docs i d low);
}
