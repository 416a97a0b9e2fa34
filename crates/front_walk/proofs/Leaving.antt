-- Behind all lines: those that wait still.
use Rattle.std.proofs.Common.{◌≡◌, ℕ, zero, suc, ◌+◌, ◌<◌, ◌≤◌, List, [], ◌∷◌, ◌++◌, length, Bool, true, false, not, cond, refl, sym, ap, ◌∙◌, subst, arith, map, filter, append-nil, append_assoc, length-append}
use Rattle.std.specs.Prelude.{◌==◌, slice_get}
use Rattle.std.specs.List.{AllByRecursion, count_by, range_with_len}
use Rattle.std.proofs.lemmas.Bool.{eqb-true}
use Rattle.std.proofs.lemmas.Bool.Decides.{nat_tests}
use Rattle.std.proofs.lemmas.List.{length-map, map-append}
use Rattle.query_model.specs.declared.line.Line.{Line}
use Rattle.query_model.specs.Lines.{is_query}
use Rattle.query_model.specs.Order.{Asked, asked_in, left_in}
use Rattle.query_model.proofs.ListFacts.{slice_get-append_seam}
use Rattle.query_model.proofs.ListLaws.{all-filter, heads_same, tails_same}
use Rattle.fan_model.specs.Comings.{Coming, ComesAt, come_in, comings_of}
use Rattle.query_timers.specs.declared.query.DelayedQuery.{DelayedQuery}
use Rattle.query_timers.specs.Seen.{TimersSeen, has_number, without}
use Rattle.front_walk.specs.declared.state.WalkState.{WalkState}
use Rattle.front_walk.specs.Coming.{Came, IsCut}
use Rattle.front_walk.specs.Following.{Follows, kept_in}
use Rattle.front_walk.specs.Laws.{CountLaws}
use Rattle.front_walk.specs.Turns.{IsCancelling}
use Rattle.front_walk.proofs.Cutting.{came-append, came_none, came_one, cut_behind, cut_first}

-- numbers from this one on, each above that before it
abbrev pub RisesFrom : ℕ → List Asked → Type 0
RisesFrom n [] = Unit {0}
RisesFrom n (a ∷ queries) = (n ≤ a.number) × RisesFrom (a.number + 1) queries

rises-lower : (n m : ℕ) (queries : List Asked) → n ≤ m → RisesFrom m queries → RisesFrom n queries
rises-lower n m [] le h = tt
rises-lower n m (a ∷ queries) le h = (omega (arith, h.0), h.1)

rises-filter : (p : Asked → Bool) (n : ℕ) (queries : List Asked) → RisesFrom n queries → RisesFrom n (filter p queries)
rises-filter p n [] h = tt
rises-filter p n (a ∷ queries) h = by (p a) (rises-filter p (a.number + 1) queries h.1)
  where
    by : (b : Bool) → RisesFrom (a.number + 1) (filter p queries) → RisesFrom n (cond b (a ∷ filter p queries) (filter p queries))
    by true rest = (h.0, rest)
    by false rest = rises-lower n (a.number + 1) (filter p queries) (omega (arith, h.0)) rest

rises-range : (n count : ℕ) (queries : List Asked) → map (λ (a : Asked). a.number) queries ≡ range_with_len n count → RisesFrom n queries × AllByRecursion (λ (a : Asked). a.number < n + count) queries
rises-range n count [] h = (tt, tt)
rises-range n zero (a ∷ queries) h = absurd cc
rises-range n (suc count) (a ∷ queries) h =
    let first : a.number ≡ n = heads_same a.number n (map (λ (b : Asked). b.number) queries) (range_with_len (n + 1) count) h in
    let rest = rises-range (n + 1) count queries (tails_same a.number n (map (λ (b : Asked). b.number) queries) (range_with_len (n + 1) count) h) in (
      (omega (arith, first), subst (λ (k : ℕ). RisesFrom (k + 1) queries) (sym first) rest.0),
      (omega (arith, first), few queries rest.1),
    )
  where
    few : (qs : List Asked) → AllByRecursion (λ (b : Asked). b.number < n + 1 + count) qs → AllByRecursion (λ (b : Asked). b.number < n + suc count) qs
    few [] k = tt
    few (q ∷ qs) k = (omega (arith, k.0), few qs k.1)

other : (n m : ℕ) → n < m → (m == n) ≡ false
other n m lt = grind (arith, nat_tests)

same : (n m : ℕ) → m ≡ n → (m == n) ≡ true
same n m e = grind (arith, nat_tests)

-- of those from a further number on none has this one
none_has : (all : List Line) (n m : ℕ) (queries : List Asked) → n < m → RisesFrom m queries
    → (filter (has_number n) (map (kept_in all) queries) ≡ []) × (filter (λ q. not (has_number n q)) (map (kept_in all) queries) ≡ map (kept_in all) queries)
none_has all n m [] lt h = (refl, refl)
none_has all n m (a ∷ queries) lt h =
    let rest = none_has all n (a.number + 1) queries (omega (arith, h.0)) h.1 in
    let no : (a.number == n) ≡ false = other n a.number (omega (arith, h.0)) in
    let k : DelayedQuery = kept_in all a in
    let ks : List DelayedQuery = map (kept_in all) queries in (
      ap (λ (b : Bool). cond b (k ∷ filter (has_number n) ks) (filter (has_number n) ks)) no ∙ rest.0,
      ap (λ (b : Bool). cond (not b) (k ∷ filter (λ q. not (has_number n q)) ks) (filter (λ q. not (has_number n q)) ks)) no ∙ ap (λ (l : List DelayedQuery). k ∷ l) rest.1,
    )

-- of those from a number on the first may have it
one_has : (all : List Line) (n : ℕ) (a : Asked) (queries : List Asked) → a.number ≡ n → RisesFrom (a.number + 1) queries
    → (filter (has_number n) (map (kept_in all) (a ∷ queries)) ≡ kept_in all a ∷ []) × (filter (λ q. not (has_number n q)) (map (kept_in all) (a ∷ queries)) ≡ map (kept_in all) queries)
one_has all n a queries e h =
    let rest = none_has all n (a.number + 1) queries (omega arith) h in
    let is : (a.number == n) ≡ true = same n a.number e in
    let k : DelayedQuery = kept_in all a in
    let ks : List DelayedQuery = map (kept_in all) queries in (
      ap (λ (b : Bool). cond b (k ∷ filter (has_number n) ks) (filter (has_number n) ks)) is ∙ ap (λ (l : List DelayedQuery). k ∷ l) rest.0,
      ap (λ (b : Bool). cond (not b) (k ∷ filter (λ q. not (has_number n q)) ks) (filter (λ q. not (has_number n q)) ks)) is ∙ rest.1,
    )

-- while those that wait are given up, up to a number
pub record GivenUp {W : Type 0} (does : ℕ → Coming → W → Bool → W → Type 0) (all : List Line) (number : ℕ) (old : WalkState) (w : W) (state : WalkState) (v : W) : Type 0 where
  pub done : List Asked
  pub todo : List Asked
  pub left : left_in all ≡ done ++ todo
  pub waiting : state.timers.waiting ≡ map (kept_in all) todo
  pub rises : RisesFrom (number + 1) todo
  pub few : AllByRecursion (λ (a : Asked). a.number < 1 + old.timers.asked) todo
  pub place : state.place ≡ old.place + length done
  pub came : Came does old.place w (map Coming.cancels done) v

pub none_given_up : {W : Type 0} (does : ℕ → Coming → W → Bool → W → Type 0) (all : List Line) (old : WalkState) (w : W) → CountLaws → Follows all all old → GivenUp does all 0 old w old w
none_given_up does all old w counts follows =
    let rises = rises-range 1 (count_by is_query all) (asked_in all) (counts.numbers all) in
    record {
      done = [];
      todo = left_in all;
      left = refl;
      waiting = follows.waiting;
      rises = rises-filter _ 1 (asked_in all) rises.0;
      few = subst (λ (n : ℕ). AllByRecursion (λ (a : Asked). a.number < 1 + n) (left_in all)) (sym follows.asked) (all-filter (λ (a : Asked). a.number < 1 + count_by is_query all) _ (asked_in all) rises.1);
      place = omega arith;
      came = came_none does old.place w;
    }

differs : (x y : ℕ) → y ≤ x → (x == y) ≡ false → y + 1 ≤ x
differs x y le misses = grind (arith, nat_tests)

-- where none has a number, all that rise from it rise from the next one
above : (all : List Line) (n : ℕ) (queries : List Asked) → RisesFrom n queries → [] ≡ filter (has_number n) (map (kept_in all) queries) → RisesFrom (n + 1) queries
above all n [] h e = tt
above all n (a ∷ queries) h e = (by (a.number == n) refl e, h.1)
  where
    by : (b : Bool) → (a.number == n) ≡ b → [] ≡ cond b (kept_in all a ∷ filter (has_number n) (map (kept_in all) queries)) (filter (has_number n) (map (kept_in all) queries)) → n + 1 ≤ a.number
    by true is k = absurd cc
    by false is k = differs a.number n h.0 is

-- nobody waits with the next number
pub none_there : {W : Type 0} (does : ℕ → Coming → W → Bool → W → Type 0) (all : List Line) (number : ℕ) (old : WalkState) (w : W) (state new : WalkState) (v : W) → GivenUp does all number old w state v
    → [] ≡ filter (has_number (number + 1)) state.timers.waiting → new.timers ≡ without (number + 1) state.timers → new.place ≡ state.place → GivenUp does all (number + 1) old w new v
none_there does all number old w state new v given none made place =
    let n : ℕ = number + 1 in
    let higher : RisesFrom (n + 1) given.todo = above all n given.todo given.rises (none ∙ ap (filter (has_number n)) given.waiting) in
    record {
      done = given.done;
      todo = given.todo;
      left = given.left;
      waiting = ap (λ (t : TimersSeen). t.waiting) made ∙ (ap (filter (λ q. not (has_number n q))) given.waiting ∙ (none_has all n (n + 1) given.todo (omega arith) higher).1);
      rises = higher;
      few = given.few;
      place = place ∙ given.place;
      came = given.came;
    }

-- the one with a number among those that rise from it is the first
record First (all : List Line) (n : ℕ) (todo : List Asked) (query : DelayedQuery) : Type 0 where
  asked : Asked
  more : List Asked
  is : todo ≡ asked ∷ more
  kept : query ≡ kept_in all asked
  number : asked.number ≡ n
  rises : RisesFrom (asked.number + 1) more

first_has : (all : List Line) (n : ℕ) (todo : List Asked) (query : DelayedQuery) → RisesFrom n todo → query ∷ [] ≡ filter (has_number n) (map (kept_in all) todo) → First all n todo query
first_has all n [] query h e = absurd cc
first_has all n (a ∷ queries) query h e = by (a.number == n) refl
  where
    later : (a.number == n) ≡ false → ⊥
    later is =
        let none = (none_has all n (n + 1) (a ∷ queries) (omega arith) (differs a.number n h.0 is, h.1)).0 in
        let bad : query ∷ [] ≡ [] = e ∙ none in
        absurd cc

    by : (b : Bool) → (a.number == n) ≡ b → First all n (a ∷ queries) query
    by true is =
        let number : a.number ≡ n = eqb-true a.number n is in
        let one : query ∷ [] ≡ kept_in all a ∷ [] = e ∙ (one_has all n a queries number h.1).0 in
        record { asked = a; more = queries; is = refl; kept = cc; number = number; rises = h.1 }
    by false is = absurd (later is)

-- the query with the next number waits
pub record There {W : Type 0} (does : ℕ → Coming → W → Bool → W → Type 0) (all : List Line) (number : ℕ) (old : WalkState) (w : W) (state : WalkState) (v : W) (query : DelayedQuery) (given : GivenUp does all number old w state v) : Type 0 where
  pub asked : Asked
  pub more : List Asked
  pub is : given.todo ≡ asked ∷ more
  pub names : query.number ≡ asked.number
  pub waiting : filter (λ q. not (has_number (number + 1) q)) state.timers.waiting ≡ map (kept_in all) more
  pub rises : RisesFrom (number + 2) more
  pub comes : ComesAt all state.place (Coming.cancels asked)

pub one_there : {W : Type 0} (does : ℕ → Coming → W → Bool → W → Type 0) (all : List Line) (number : ℕ) (old : WalkState) (w : W) (state : WalkState) (v : W) (query : DelayedQuery) → Follows all all old
    → (given : GivenUp does all number old w state v) → query ∷ [] ≡ filter (has_number (number + 1)) state.timers.waiting → There does all number old w state v query given
unfolding comings_of
one_there does all number old w state v query follows given those =
    let n : ℕ = number + 1 in
    let first = first_has all n given.todo query given.rises (those ∙ ap (filter (has_number n)) given.waiting) in
    let left : left_in all ≡ given.done ++ first.asked ∷ first.more = given.left ∙ ap (λ (x : List Asked). given.done ++ x) first.is in
    let cancels : map Coming.cancels (left_in all) ≡ map Coming.cancels given.done ++ Coming.cancels first.asked ∷ map Coming.cancels first.more =
    ap (map Coming.cancels) left ∙ map-append Coming.cancels given.done (first.asked ∷ first.more) in
    let comings : come_in all ++ map Coming.cancels (left_in all) ≡ (come_in all ++ map Coming.cancels given.done) ++ Coming.cancels first.asked ∷ map Coming.cancels first.more =
    ap (λ (x : List Coming). come_in all ++ x) cancels ∙ sym (append_assoc (come_in all) (map Coming.cancels given.done) (Coming.cancels first.asked ∷ map Coming.cancels first.more)) in
    let far : state.place ≡ length (come_in all ++ map Coming.cancels given.done) =
    omega (arith, given.place, follows.place, length-append (come_in all) (map Coming.cancels given.done), length-map given.done Coming.cancels) in
    record {
      asked = first.asked;
      more = first.more;
      is = first.is;
      names = ap (λ (q : DelayedQuery). q.number) first.kept;
      waiting = ap (filter (λ q. not (has_number n q))) (given.waiting ∙ ap (map (kept_in all)) first.is) ∙ (one_has all n first.asked first.more first.number first.rises).1;
      rises = subst (λ (k : ℕ). RisesFrom k first.more) (omega (arith, first.number)) first.rises;
      comes = record { at = ap (λ (x : List Coming). slice_get x state.place) comings ∙ slice_get-append_seam (come_in all ++ map Coming.cancels given.done) (Coming.cancels first.asked) (map Coming.cancels first.more) state.place far };
    }

pub there_names : {W : Type 0} (does : ℕ → Coming → W → Bool → W → Type 0) (all hooked : List Line) (number : ℕ) (old : WalkState) (w : W) (state : WalkState) (v : W) (query : DelayedQuery)
    (given : GivenUp does all number old w state v) → hooked ≡ all → (there : There does all number old w state v query given) → IsCancelling hooked state.place query.number
there_names does all hooked number old w state v query given names there =
    subst (λ (x : List Line). IsCancelling x state.place query.number) (sym names) (record { asked = there.asked; comes = there.comes; names = there.names })

pub one_more_given_up : {W : Type 0} (does : ℕ → Coming → W → Bool → W → Type 0) (all : List Line) (number : ℕ) (old : WalkState) (w : W) (state new : WalkState) (m v : W) (query : DelayedQuery)
    (given : GivenUp does all number old w state m) → (there : There does all number old w state m query given) → new.timers ≡ without (number + 1) state.timers → new.place ≡ state.place + 1
    → does state.place (Coming.cancels there.asked) m true v → GivenUp does all (number + 1) old w new v
one_more_given_up does all number old w state new m v query given there made place did = record {
  done = given.done ++ there.asked ∷ [];
  todo = there.more;
  left = given.left ∙ (ap (λ (x : List Asked). given.done ++ x) there.is ∙ sym (append_assoc given.done (there.asked ∷ []) there.more));
  waiting = ap (λ (t : TimersSeen). t.waiting) made ∙ there.waiting;
  rises = subst (λ (k : ℕ). RisesFrom k there.more) (omega arith) there.rises;
  few = (subst (λ (x : List Asked). AllByRecursion (λ (a : Asked). a.number < 1 + old.timers.asked) x) there.is given.few).1;
  place = place ∙ omega (arith, given.place, length-append given.done (there.asked ∷ []));
  came = subst (λ (x : List Coming). Came does old.place w x v) (sym (map-append Coming.cancels given.done (there.asked ∷ [])))
      (came-append does old.place w m v (map Coming.cancels given.done) (Coming.cancels there.asked ∷ []) given.came
      (came_one does (old.place + length (map Coming.cancels given.done)) (Coming.cancels there.asked) m v
      (subst (λ (p : ℕ). does p (Coming.cancels there.asked) m true v) (given.place ∙ ap (λ (k : ℕ). old.place + k) (sym (length-map given.done Coming.cancels))) did)));
}

pub given_up_cut : {W : Type 0} (does : ℕ → Coming → W → Bool → W → Type 0) (all : List Line) (number : ℕ) (old : WalkState) (w : W) (state : WalkState) (m v : W) (query : DelayedQuery)
    (given : GivenUp does all number old w state m) → (there : There does all number old w state m query given) → does state.place (Coming.cancels there.asked) m false v
    → IsCut does old.place w (map Coming.cancels (left_in all)) v
given_up_cut does all number old w state m v query given there did =
    let cancels : map Coming.cancels (left_in all) ≡ map Coming.cancels given.done ++ Coming.cancels there.asked ∷ map Coming.cancels there.more =
    ap (map Coming.cancels) (given.left ∙ ap (λ (x : List Asked). given.done ++ x) there.is) ∙ map-append Coming.cancels given.done (there.asked ∷ there.more) in
    subst (λ (x : List Coming). IsCut does old.place w x v) (sym cancels)
    (cut_behind does old.place w m v (map Coming.cancels given.done) (Coming.cancels there.asked ∷ map Coming.cancels there.more) given.came
    (cut_first does (old.place + length (map Coming.cancels given.done)) m v (Coming.cancels there.asked) (map Coming.cancels there.more)
    (subst (λ (p : ℕ). does p (Coming.cancels there.asked) m false v) (given.place ∙ ap (λ (k : ℕ). old.place + k) (sym (length-map given.done Coming.cancels))) did)))

-- behind the last number nobody waits
none_left : (n : ℕ) (queries : List Asked) → RisesFrom (n + 1) queries → AllByRecursion (λ (a : Asked). a.number < 1 + n) queries → queries ≡ []
none_left n [] h k = refl
none_left n (a ∷ queries) h k = absurd (omega (arith, h.0, k.0))

pub all_given_up : {W : Type 0} (does : ℕ → Coming → W → Bool → W → Type 0) (all : List Line) (number : ℕ) (old : WalkState) (w : W) (state : WalkState) (v : W) → number ≡ old.timers.asked
    → GivenUp does all number old w state v → Came does old.place w (map Coming.cancels (left_in all)) v
all_given_up does all number old w state v end given =
    let none : given.todo ≡ [] = none_left number given.todo given.rises (subst (λ (n : ℕ). AllByRecursion (λ (a : Asked). a.number < 1 + n) given.todo) (sym end) given.few) in
    let left : left_in all ≡ given.done = given.left ∙ (ap (λ (x : List Asked). given.done ++ x) none ∙ append-nil given.done) in
    subst (λ (x : List Coming). Came does old.place w x v) (sym (ap (map Coming.cancels) left)) given.came
