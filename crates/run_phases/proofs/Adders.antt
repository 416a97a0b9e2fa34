-- The one adder of a run's pool.
use Rattle.std.proofs.Common.{◌≡◌, ℕ, zero, suc, ◌<◌, List, [], ◌∷◌, slice_index_or, slice_set, map, sym, ap, ◌∙◌, subst, append-nil, arith}
use Rattle.pool_model.specs.Passes.{AreNumbered, adds_of, tasks_of}
use Rattle.pool_model.specs.Seen.{PassSeen, PoolId}
use Rattle.pool_model.specs.Tasks.{numbered}
use Rattle.run_notes.specs.Accounts.{runs_added}
use Rattle.run_notes.specs.Told.{run_of_add}
use Rattle.fan_model.specs.Tasks.{Run}
use Rattle.run_phases.specs.Phases.{AreOfOneAdder}

pub at_first : (l : List PassSeen) (x p : PassSeen) → l ≡ p ∷ [] → x ≡ slice_index_or l 0 x → x ≡ p
at_first l x p is at = at ∙ ap (λ (xs : List PassSeen). slice_index_or xs 0 x) is

pub first_unused : (l : List PassSeen) (x p : PassSeen) → l ≡ p ∷ [] → x ≡ slice_index_or l 0 x → adds_of p ≡ [] → adds_of x ≡ []
first_unused l x p is at unused = ap (λ (q : PassSeen). adds_of q) (at_first l x p is at) ∙ unused

pub set_first : (l : List PassSeen) (p q : PassSeen) → l ≡ p ∷ [] → slice_set l 0 q ≡ q ∷ []
set_first l p q is = ap (λ (xs : List PassSeen). slice_set xs 0 q) is

pub one_numbered : (pool : PoolId) (n : ℕ) (l : List PassSeen) (q : PassSeen) → n ≡ 1 → l ≡ q ∷ [] → q.pool ≡ pool → q.number ≡ 0 → AreNumbered pool n l
one_numbered pool n l q one is of_pool number = subst (λ (xs : List PassSeen). AreNumbered pool n xs) (sym is) (record {
  count = sym one;
  each = λ k d within. each k d within;
}) where
  each : (k : ℕ) (d : PassSeen) → k < 1 → ((slice_index_or (q ∷ []) k d).pool ≡ pool) × ((slice_index_or (q ∷ []) k d).number ≡ k)
  each zero d within = (of_pool, number)
  each (suc k) d within = absurd (omega (arith, within))

pub runs_of_one : (l : List PassSeen) (q : PassSeen) (runs : List Run) → l ≡ q ∷ [] → map run_of_add (adds_of q) ≡ runs → runs_added l ≡ runs
runs_of_one l q runs is added = ap runs_added is ∙ (append-nil (map run_of_add (adds_of q)) ∙ added)

-- the pass that was put back is that of the adder 0, as the one before
pub still_one : (first last : List PassSeen) (p x q : PassSeen) → first ≡ p ∷ [] → x ≡ slice_index_or first 0 x → p.number ≡ 0 → q.number ≡ x.number → last ≡ slice_set first 0 q → AreOfOneAdder last
still_one first last p x q is at zeroth same set = record {
  pass = q;
  is = set ∙ set_first first p q is;
  number = same ∙ (ap (λ (y : PassSeen). y.number) (at_first first x p is at) ∙ zeroth);
}

-- the tasks of the one adder have the tickets (0, 0), (0, 1), and so on
pub tasks_of_one : (l : List PassSeen) (q : PassSeen) → l ≡ q ∷ [] → q.number ≡ 0 → tasks_of l ≡ numbered 0 0 (adds_of q)
tasks_of_one l q is number = ap tasks_of is ∙ (append-nil (numbered q.number 0 (adds_of q)) ∙ ap (λ (n : ℕ). numbered n 0 (adds_of q)) number)
