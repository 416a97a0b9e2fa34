-- A pool of one adder: its pass, and what the account of a join says of two tasks.
use Rattle.std.proofs.Common.{◌≡◌, ℕ, zero, suc, ◌+◌, ◌<◌, List, [], ◌∷◌, ◌++◌, length, subst, ◌∙◌, refl, arith}
use Rattle.std.specs.Prelude.{slice_index_or}
use Rattle.std.proofs.lemmas.List.Sums.{sum_by-cons}
use Rattle.pool_model.proofs.Lawful.{numbered_are_all}
use Rattle.pool_model.specs.Accounts.{AllRun, JoinAccounts, RanOnce, records_with}
use Rattle.pool_model.specs.Passes.{AreAllPasses, adds_of, adds_total}
use Rattle.pool_model.specs.Records.{Record}
use Rattle.pool_model.specs.Seen.{PassSeen, PoolId}
use Rattle.prio_pool.specs.Made.{new_pass, new_passes}
use Rattle.runtime_examples.proofs.Lists.{one_popped}

-- the only pass of a new pool, taken from the back
pub first_pass : (pool : PoolId) (all rest : List PassSeen) (pass : PassSeen) → all ≡ new_passes pool 0 1 → all ≡ rest ++ pass ∷ []
    → (rest ≡ []) × (pass ≡ new_pass pool 0)
first_pass pool all rest pass new last = one_popped (new_pass pool 0) all rest pass new last

pub total_of_one : (pass : PassSeen) → adds_total (pass ∷ []) ≡ length (adds_of pass)
total_of_one pass =
    let is : adds_total (pass ∷ []) ≡ length (adds_of pass) + 0 = sum_by-cons (λ (p : PassSeen). length (adds_of p)) pass [] in
    omega (arith, is)

one_each : (pool : PoolId) (pass : PassSeen) → pass.pool ≡ pool → pass.number ≡ 0 → (k : ℕ) (d : PassSeen) → k < length (pass ∷ [])
    → ((slice_index_or (pass ∷ []) k d).pool ≡ pool) × ((slice_index_or (pass ∷ []) k d).number ≡ k)
one_each pool pass of zero_is zero d within = (of, zero_is)
one_each pool pass of zero_is (suc k) d within = absurd (omega (arith, within))

pub one_is_all : (pool : PoolId) (pass : PassSeen) → pass.pool ≡ pool → pass.number ≡ 0 → AreAllPasses pool 1 (pass ∷ [])
one_is_all pool pass of zero_is =
    numbered_are_all pool 1 (pass ∷ []) (record { count = refl; each = one_each pool pass of zero_is })

-- each of the two tickets has one record, and there is no other record
pub two_ran : (pool : PoolId) (passes : List PassSeen) (pass : PassSeen) (records : List Record) → passes ≡ pass ∷ []
    → pass.pool ≡ pool → pass.number ≡ 0 → length (adds_of pass) ≡ 2 → JoinAccounts pool 1 (pass ∷ []) records → AllRun passes records
    → ((index : ℕ) → index < 2 → records_with 0 index records ≡ 1) × (length records ≡ 2)
two_ran pool passes pass records are of zero_is two account all =
    let ran : RanOnce (pass ∷ []) records =
    account (one_is_all pool pass of zero_is) (subst (λ (l : List PassSeen). AllRun l records) are all) in (
      λ index below. subst (λ (n : ℕ). records_with n index records ≡ 1) zero_is (ran.once 0 pass index refl (omega (arith, below, two))),
      ran.many ∙ (total_of_one pass ∙ two),
    )
