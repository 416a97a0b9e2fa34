-- In turns each take stands behind the looks that it wants.
use Rattle.std.proofs.Common.{◌≡◌, ◌≢◌, ℕ, zero, suc, ◌+◌, ◌-◌, ◌<◌, ◌≤◌, ◌⊎◌, inl, inr, ⊎_elim, List, [], ◌∷◌, ◌++◌, Option, Some, refl, sym, ap, ◌∙◌, subst, append_assoc, append-nil, arith}
use Rattle.std.specs.List.{All, flat_map}
use Rattle.std.proofs.lemmas.List.Elements.{All-head, All-tail}
use mathlib.Core.Logic.{dite}
use native.Mathlib.Decide.{ℕ_discrete}
use Rattle.pool_model.specs.declared.task.Ending.{Ending}
use Rattle.pool_model.specs.declared.task.Ending.TheVariants.{Stops}
use Rattle.pool_model.specs.declared.task.Entry.{Entry}
use Rattle.pool_model.specs.Tasks.{Task}
use Rattle.pool_model.specs.Steps.{Step, looked, found_empty, took, tasks_taken, empty_from_the_top, Turn, ran, idle, stopped, steps_of, GoesOn, IsLast, Worked, IsSinceTheLastTake, MayTake, TakesFromTheHighest}

pub taken-append : (xs ys : List Step) → tasks_taken (xs ++ ys) ≡ tasks_taken xs ++ tasks_taken ys
taken-append [] ys = refl
taken-append (looked found ∷ xs) ys = taken-append xs ys
taken-append (found_empty queue ∷ xs) ys = taken-append xs ys
taken-append (took queue e ∷ xs) ys = ap (λ (l : List Task). record { ticket = e.ticket; queue = queue; head = e.head } ∷ l) (taken-append xs ys)

pub none_taken : (queues count : ℕ) → tasks_taken (empty_from_the_top queues count) ≡ []
none_taken queues zero = refl
none_taken queues (suc count) = taken-append (empty_from_the_top queues count) (found_empty (queues - suc count) ∷ []) ∙ ap (λ (l : List Task). l ++ []) (none_taken queues count)

-- among steps without a take there is none
no_take_in : (xs before behind : List Step) (queue : ℕ) (e : Entry) → tasks_taken xs ≡ [] → xs ≡ before ++ took queue e ∷ behind → ⊥
no_take_in xs before behind queue e none is =
    let all : tasks_taken before ++ record { ticket = e.ticket; queue = queue; head = e.head } ∷ tasks_taken behind ≡ [] = sym (taken-append before (took queue e ∷ behind)) ∙ (sym (ap tasks_taken is) ∙ none) in
    not_none (tasks_taken before) record { ticket = e.ticket; queue = queue; head = e.head } (tasks_taken behind) all
  where
    not_none : (ts : List Task) (t : Task) (us : List Task) → ts ++ t ∷ us ≡ [] → ⊥
    not_none [] t us e = cc
    not_none (s ∷ ts) t us e = cc

-- where a step of two lists put together stands
split : (xs ys before behind : List Step) (s : Step) → xs ++ ys ≡ before ++ s ∷ behind
    → ((m : List Step) × (xs ≡ before ++ s ∷ m)) ⊎ ((m : List Step) × (before ≡ xs ++ m) × (ys ≡ m ++ s ∷ behind))
split [] ys before behind s e = inr (before, refl, e)
split (x ∷ xs) ys [] behind s e = inl (xs, ap (λ (y : Step). y ∷ xs) (first_is x s (xs ++ ys) behind e))
  where
    first_is : (x s : Step) (us vs : List Step) → x ∷ us ≡ s ∷ vs → x ≡ s
    first_is x s us vs e = cc
split (x ∷ xs) ys (b ∷ bs) behind s e = ⊎_elim
    (λ (r : (m : List Step) × (xs ≡ bs ++ s ∷ m)). inl (r.0, λ i. both_are.0 i ∷ r.1 i))
    (λ (r : (m : List Step) × (bs ≡ xs ++ m) × (ys ≡ m ++ s ∷ behind)). inr (r.0, (λ i. sym both_are.0 i ∷ r.1 i), r.2))
    (split xs ys bs behind s both_are.1)
  where
    both : (x y : Step) (us vs : List Step) → x ∷ us ≡ y ∷ vs → (x ≡ y) × (us ≡ vs)
    both x y us vs e = (cc, cc)

    both_are : (x ≡ b) × (xs ++ ys ≡ bs ++ s ∷ behind)
    both_are = both x b (xs ++ ys) (bs ++ s ∷ behind) e

-- a queue among the highest was found empty
found_there : (queues count other : ℕ) → other < queues → queues ≤ other + count → (a b : List Step) × (empty_from_the_top queues count ≡ a ++ found_empty other ∷ b) × (tasks_taken b ≡ [])
found_there queues zero other within from = absurd (omega (arith, within, from))
found_there queues (suc count) other within from = dite (ℕ_discrete (queues - suc count) other)
    (λ same. (empty_from_the_top queues count, [], ap (λ (k : ℕ). empty_from_the_top queues count ++ found_empty k ∷ []) same, refl))
    (λ apart.
    let h = found_there queues count other within (omega (arith, within, from, apart)) in (
      h.0,
      h.1 ++ found_empty (queues - suc count) ∷ [],
      ap (λ (l : List Step). l ++ found_empty (queues - suc count) ∷ []) h.2 ∙ append_assoc h.0 (found_empty other ∷ h.1) (found_empty (queues - suc count) ∷ []),
      taken-append h.1 (found_empty (queues - suc count) ∷ []) ∙ ap (λ (l : List Task). l ++ []) h.3,
    ))

-- what stood behind the last take stands there behind earlier steps too
behind_more : (front steps : List Step) (s : Step) → IsSinceTheLastTake steps s → IsSinceTheLastTake (front ++ steps) s
behind_more front steps s is = record {
  before = front ++ is.before;
  behind = is.behind;
  list = ap (λ (l : List Step). front ++ l) is.list ∙ sym (append_assoc front is.before (s ∷ is.behind));
  no_take = is.no_take;
}

may_more : (queues queue : ℕ) (front steps : List Step) → MayTake queues steps queue → MayTake queues (front ++ steps) queue
may_more queues queue front steps may = record {
  found = may.found;
  no_stop = may.no_stop;
  look = behind_more front steps (looked may.found) may.look;
  higher = λ other above within. behind_more front steps (found_empty other) (may.higher other above within);
}

-- the looks with which a turn begins let it take from this queue
looks_allow : (queues queue : ℕ) (found : Option Ending) → queue < queues → found ≢ Some Stops → MayTake queues (looked found ∷ empty_from_the_top queues (queues - suc queue)) queue
looks_allow queues queue found within no_stop = record {
  found = found;
  no_stop = no_stop;
  look = record { before = []; behind = empty_from_the_top queues (queues - suc queue); list = refl; no_take = none_taken queues (queues - suc queue) };
  higher = λ other above below.
      let h = found_there queues (queues - suc queue) other below (omega (arith, above, below)) in
      record { before = looked found ∷ h.0; behind = h.1; list = ap (λ (l : List Step). looked found ∷ l) h.2; no_take = h.3 };
}

one_is : (a b : ℕ) (d e : Entry) (m behind : List Step) → took a d ∷ [] ≡ m ++ took b e ∷ behind → (m ≡ []) × (a ≡ b)
one_is a b d e [] behind is = (refl, cc)
one_is a b d e (x ∷ []) behind is = absurd (cc)
one_is a b d e (x ∷ y ∷ m) behind is = absurd (cc)

turn_takes : (queues : ℕ) (end : Option Ending) (t : Turn) (before behind : List Step) (queue : ℕ) (e : Entry) → GoesOn queues t ⊎ IsLast end t → steps_of queues t ≡ before ++ took queue e ∷ behind → MayTake queues before queue
turn_takes queues end (ran found q d) before behind queue e well is =
    let within = ⊎_elim (λ (g : (q < queues) × (found ≢ Some Stops)). g) (λ l. absurd l) well in
    let front = looked found ∷ empty_from_the_top queues (queues - suc q) in
    ⊎_elim
    (λ (r : (m : List Step) × (front ≡ before ++ took queue e ∷ m)). absurd (no_take_in front before r.0 queue e (none_taken queues (queues - suc q)) r.1))
    (λ (r : (m : List Step) × (before ≡ front ++ m) × (took q d ∷ [] ≡ m ++ took queue e ∷ behind)).
    let one = one_is q queue d e r.0 behind r.2 in
    let front_is : front ≡ before = sym (r.1 ∙ (ap (λ (l : List Step). front ++ l) one.0 ∙ append-nil front)) in
    subst (λ (l : List Step). MayTake queues l queue) front_is (subst (λ (k : ℕ). MayTake queues front k) one.1 (looks_allow queues q found within.0 within.1)))
    (split front (took q d ∷ []) before behind (took queue e) is)
turn_takes queues end (idle found) before behind queue e well is = absurd (no_take_in (looked found ∷ empty_from_the_top queues queues) before behind queue e (none_taken queues queues) is)
turn_takes queues end stopped before behind queue e well is = absurd (no_take_in (looked (Some Stops) ∷ []) before behind queue e refl is)

turns_take : (queues : ℕ) (end : Option Ending) (turns : List Turn) (last : Turn) → All (GoesOn queues) turns → IsLast end last → (before behind : List Step) (queue : ℕ) (e : Entry)
    → flat_map (steps_of queues) turns ++ steps_of queues last ≡ before ++ took queue e ∷ behind → MayTake queues before queue
turns_take queues end [] last each ends before behind queue e is = turn_takes queues end last before behind queue e (inr ends) is
turns_take queues end (t ∷ ts) last each ends before behind queue e is =
    let rest = flat_map (steps_of queues) ts ++ steps_of queues last in
    let whole : steps_of queues t ++ rest ≡ before ++ took queue e ∷ behind = sym (append_assoc (steps_of queues t) (flat_map (steps_of queues) ts) (steps_of queues last)) ∙ is in
    ⊎_elim
    (λ (r : (m : List Step) × (steps_of queues t ≡ before ++ took queue e ∷ m)). turn_takes queues end t before r.0 queue e (inl (All-head (GoesOn queues) t ts each)) r.1)
    (λ (r : (m : List Step) × (before ≡ steps_of queues t ++ m) × (rest ≡ m ++ took queue e ∷ behind)).
    subst (λ (l : List Step). MayTake queues l queue) (sym r.1)
    (may_more queues queue (steps_of queues t) r.0 (turns_take queues end ts last (All-tail (GoesOn queues) t ts each) ends r.0 behind queue e r.2)))
    (split (steps_of queues t) rest before behind (took queue e) whole)

pub takes_from_the_highest : (queues : ℕ) (end : Option Ending) (steps : List Step) → Worked queues end steps → TakesFromTheHighest queues steps
takes_from_the_highest queues end steps worked = record { each = λ before behind queue e is. turns_take queues end worked.turns worked.last worked.each worked.ends before behind queue e (sym worked.list ∙ is) }
