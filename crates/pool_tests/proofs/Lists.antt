-- What is known of each element of a list, and of what is made of them.
use Rattle.std.proofs.Common.{◌≡◌, ◌+◌, ◌≤◌, ℕ, zero, suc, List, [], ◌∷◌, ◌++◌, Option, Some, None, IfSome, MatchOption, All, Contains, length, length-append, map, ap, refl, subst, ◌∙◌, option_to_list, sym, arith}
use Rattle.std.proofs.lemmas.List.{length-map, get_or-map}
use Rattle.std.proofs.lemmas.List.Elements.{All-cons, All-head, All-nil, All-push, All-tail, All-contains, All-map, All-weaker}
use Rattle.std.specs.Prelude.{◌<◌, slice_index_or}
use Rattle.pool_model.specs.Passes.{AreAllEnds, AreNumbered, adds_of}
use Rattle.pool_model.specs.Seen.{PoolId, PoolSeen, PassSeen, EndSeen}
use Rattle.prio_pool.specs.Made.{new_workers, new_ends}
use Rattle.pool_tests.specs.Ending.{IsHelper, IsPassOf}

pub none_left : {X : Type 0} (all rest : List X) (x : X) → all ≡ rest ++ x ∷ [] → length all ≡ 1 → length rest ≡ 0
none_left all rest x is one = omega (arith, one, ap length is, length-append rest (x ∷ []))

pub one_is : {X : Type 0} (all rest : List X) (x : X) → all ≡ rest ++ x ∷ [] → length all ≡ 1 → all ≡ x ∷ []
one_is all [] x is one = is
one_is all (y ∷ ys) x is one = absurd (omega (arith, one, ap length is, length-append ys (x ∷ [])))

-- What is known of each of one is known of this one.
pub one_has : {X : Type 0} (P : X → Type 0) (all : List X) (x : X) → all ≡ x ∷ [] → All P all → P x
one_has P all x is holds = All-head P x [] (subst (All P) is holds)

pub map_has : {X Y : Type 0} (f : X → Y) (xs : List X) (x : X) → Contains xs x → Contains (map f xs) (f x)
map_has f xs x at = (at.0, omega (arith, at.1, length-map xs f), get_or-map f xs at.0 x (f x) at.1 ∙ ap f at.2)

-- Of at most one helper, whose pass is taken, none is left.
pub none_left_of : {len rest : ℕ} (h : Option EndSeen) → len ≤ 1 → MatchOption h ((len ≡ 0) × (rest ≡ 0)) (λ _. rest + 1 ≡ len) → rest ≡ 0
none_left_of None few cases = cases.1
none_left_of (Some e) few cases = omega (arith, few, cases)

pub one_helper : (pool : PoolSeen) (n len rest : ℕ) (h : Option EndSeen) → n ≤ 1 → pool.helpers ≡ n → len ≡ n → IfSome h (λ e. e.pool ≡ pool.id) → MatchOption h ((len ≡ 0) × (rest ≡ 0)) (λ _. rest + 1 ≡ len) → IsHelper pool h
one_helper pool n len rest None few count is same cases =
    let none : pool.helpers ≡ 0 = omega (arith, count, is, cases.0) in none
one_helper pool n len rest (Some e) few count is same cases =
    let one : pool.helpers ≡ 1 = omega (arith, count, is, few, cases) in (same, one)

pub helper_of_pool : (pool : PoolSeen) (o : Option EndSeen) (h : EndSeen) → IsHelper pool o → o ≡ Some h → h.pool ≡ pool.id
helper_of_pool pool o h has is = (subst (IsHelper pool) is has).0

pub helper_stays : (pool : PoolSeen) (o : Option EndSeen) (h more : EndSeen) → IsHelper pool o → o ≡ Some h → more.pool ≡ h.pool → IsHelper pool (Some more)
helper_stays pool o h more has is same =
    let was = subst (IsHelper pool) is has in
    (same ∙ was.0, was.1)

-- The list of its end is the list of all helpers' ends.
pub all_helped : (pool : PoolSeen) (h : Option EndSeen) (ends : List EndSeen) → IsHelper pool h → ends ≡ option_to_list h → AreAllEnds pool.id pool.helpers ends
all_helped pool None ends is list =
    let OfPool : EndSeen → Type 0 = λ e. e.pool ≡ pool.id in
    record { of_pool = subst (All OfPool) (sym list) (All-nil OfPool); count_is = ap length list ∙ sym is }
all_helped pool (Some e) ends is list =
    let OfPool : EndSeen → Type 0 = λ e. e.pool ≡ pool.id in
    record { of_pool = subst (All OfPool) (sym list) (All-push OfPool [] e (All-nil OfPool) is.0); count_is = ap length list ∙ sym is.1 }

pub count_workers : (pool : PoolId) (first n : ℕ) → length (new_workers pool first n) ≡ n
count_workers pool first zero = refl
count_workers pool first (suc n) = ap suc (count_workers pool (first + 1) n)

pub count_helpers : (pool : PoolId) (first n : ℕ) → length (new_ends pool first n) ≡ n
count_helpers pool first zero = refl
count_helpers pool first (suc n) = ap suc (count_helpers pool (first + 1) n)

-- What is known of each pass is known of each slot's, where that is one of these.
pub slots_have : {S P : Type 0} (pass : S → Option P) (Q : P → Type 0) (passes : List P) (slots : List S) → All Q passes → All (λ s. IfSome (pass s) (Contains passes)) slots → All (λ s. IfSome (pass s) Q) slots
slots_have {S} {P} pass Q passes slots all from = All-weaker (λ s. IfSome (pass s) (Contains passes)) (λ s. IfSome (pass s) Q) (λ s. some (pass s)) slots from
  where
    some : (o : Option P) → IfSome o (Contains passes) → IfSome o Q
    some (Some p) is = All-contains Q passes p all is
    some None is = tt

-- The ends of all slots of a pool's workers are all ends of its workers.
pub all_ended : {S : Type 0} (end : S → Option EndSeen) (pool : PoolId) (workers : ℕ) (slots : List S) (ends : List EndSeen) → All (λ s. IfSome (end s) (λ e. e.pool ≡ pool)) slots → All (λ e. Contains (map end slots) (Some e)) ends → length ends ≡ length slots → length slots ≡ workers → AreAllEnds pool workers ends
all_ended end pool workers slots ends all from count whole =
    let OfPool : EndSeen → Type 0 = λ e. e.pool ≡ pool in
    let Has : Option EndSeen → Type 0 = λ o. IfSome o OfPool in
    let found = All-map Has end slots all in
    record {
      of_pool = All-weaker (λ e. Contains (map end slots) (Some e)) OfPool (λ e is. All-contains Has (map end slots) (Some e) found is) ends from;
      count_is = count ∙ whole;
    }

-- The passes of two adders, in the order of their numbers.
pub two_numbered : (pool : PoolSeen) (a b : ℕ) (p q : PassSeen) (l : List PassSeen) → pool.adders ≡ 2 → IsPassOf pool 0 a p → IsPassOf pool 1 b q → l ≡ p ∷ q ∷ []
    → AreNumbered pool.id pool.adders l
two_numbered pool a b p q l two first second is = subst (λ (xs : List PassSeen). AreNumbered pool.id pool.adders xs) (sym is) (record { count = sym two; each = each })
  where
    each : (k : ℕ) (d : PassSeen) → k < length (p ∷ q ∷ []) → ((slice_index_or (p ∷ q ∷ []) k d).pool ≡ pool.id) × ((slice_index_or (p ∷ q ∷ []) k d).number ≡ k)
    each zero d lt = (first.of_pool, first.number_is)
    each (suc zero) d lt = (second.of_pool, second.number_is)
    each (suc (suc k)) d lt = absurd (omega (arith, lt))

-- The ends of two helpers.
pub two_ends : (pool : PoolSeen) (e f : EndSeen) (l : List EndSeen) → pool.helpers ≡ 2 → e.pool ≡ pool.id → f.pool ≡ pool.id → l ≡ e ∷ f ∷ [] → AreAllEnds pool.id pool.helpers l
two_ends pool e f l two one other is =
    let OfPool : EndSeen → Type 0 = λ x. x.pool ≡ pool.id in
    record {
      of_pool = subst (All OfPool) (sym is) (All-cons OfPool e (f ∷ []) one (All-cons OfPool f [] other (All-nil OfPool)));
      count_is = ap length is ∙ sym two;
    }

-- The passes of a new pool's two adders have added nothing.
pub two_new : (pool : PoolSeen) (l new : List PassSeen) (p q : PassSeen) → l ≡ new → l ≡ p ∷ q ∷ [] → All (λ x. (x.pool ≡ pool.id) × (adds_of x ≡ [])) new → AreNumbered pool.id 2 new
    → IsPassOf pool 0 0 p × IsPassOf pool 1 0 q
two_new pool l new p q is both unused numbered =
    let Unused : PassSeen → Type 0 = λ x. (x.pool ≡ pool.id) × (adds_of x ≡ []) in
    let same : new ≡ p ∷ q ∷ [] = sym is ∙ both in
    let all : All Unused (p ∷ q ∷ []) = subst (All Unused) same unused in
    let order : AreNumbered pool.id 2 (p ∷ q ∷ []) = subst (AreNumbered pool.id 2) same numbered in
    let first = All-head Unused p (q ∷ []) all in
    let second = All-head Unused q [] (All-tail Unused p (q ∷ []) all) in (
      record { of_pool = first.0; number_is = (order.each 0 p (omega arith)).1; added = ap length first.1 },
      record { of_pool = second.0; number_is = (order.each 1 p (omega arith)).1; added = ap length second.1 },
    )

-- Two helpers' passes that are new are of their pool.
pub two_helpers : (pool : PoolId) (l new : List EndSeen) (e f : EndSeen) → l ≡ new → l ≡ e ∷ f ∷ [] → All (λ x. x.pool ≡ pool) new → (e.pool ≡ pool) × (f.pool ≡ pool)
two_helpers pool l new e f is both all =
    let OfPool : EndSeen → Type 0 = λ x. x.pool ≡ pool in
    let these : All OfPool (e ∷ f ∷ []) = subst (All OfPool) (sym is ∙ both) all in
    (All-head OfPool e (f ∷ []) these, All-head OfPool f [] (All-tail OfPool e (f ∷ []) these))

-- Of two items, both of which are taken, none is left, and these are all.
pub none_of_two : {X : Type 0} (all mid rest : List X) (x y : X) → all ≡ mid ++ y ∷ [] → mid ≡ rest ++ x ∷ [] → length all ≡ 2 → length rest ≡ 0
none_of_two all mid rest x y second first two = omega (arith, two, ap length second, length-append mid (y ∷ []), ap length first, length-append rest (x ∷ []))

pub both_are : {X : Type 0} (all mid rest : List X) (x y : X) → all ≡ mid ++ y ∷ [] → mid ≡ rest ++ x ∷ [] → length all ≡ 2 → all ≡ x ∷ y ∷ []
both_are all mid [] x y second first two = second ∙ ap (λ (l : List _). l ++ y ∷ []) first
both_are all mid (z ∷ zs) x y second first two = absurd (omega (arith, none_of_two all mid (z ∷ zs) x y second first two))
