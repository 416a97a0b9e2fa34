use Rattle.std.proofs.Common.{◌≡◌, ◌≤◌, ◌⊎◌, ⊎_elim, ℕ, List, [], ◌∷◌, ◌++◌, length, ap, arith}
use Rattle.std.proofs.lemmas.List.{length-append}
use Rattle.job_tests.proofs.rows.run_notes.Goals as goal

longer : (before after : List ℕ) (n : ℕ) → (after ≡ before ++ n ∷ []) ⊎ (after ≡ before) → length before ≤ length after
longer before after n ran = ⊎_elim
    (λ more. let e = ap (λ (l : List ℕ). length l) more in let sum = length-append before (n ∷ []) in omega (arith, e, sum))
    (λ same. let e = ap (λ (l : List ℕ). length l) same in omega (arith, e))
    ran

pub returns : goal.returns
returns g c =
    c.related_by_each_run.ensures (λ w. omega arith) (λ w m v first second. omega (arith, first, second)) (λ id w mark v ran. longer w.items v.items id.0 ran) _ _ _ c.drain.ensures.ran.leads
