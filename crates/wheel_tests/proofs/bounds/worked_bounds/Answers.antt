use Rattle.std.proofs.Common.{◌≡◌, ℕ, ◌==◌, List, [], ◌∷◌, ◌++◌, refl, sym, subst, arith}
use Rattle.std.specs.List.{All}
use Rattle.std.specs.Prelude.{if◌then◌else◌}
use Rattle.std.proofs.lemmas.List.Elements.{All-head, All-tail}
use Rattle.std.proofs.lemmas.List.Sums.{sum_by-cons}
use Rattle.tick_wheel.specs.declared.timer.Timer.{Timer}
use Rattle.tick_wheel.specs.Steps.{count_due}
use Rattle.wheel_tests.specs.Rows.{timer_of}
use Rattle.wheel_tests.proofs.bounds.worked_bounds.Goals as goal

pub returns-clause-two : goal.returns-clause-two
returns-clause-two c = refl

abbrev IsFar : Timer ℕ → Type 0
IsFar t = t.due ≡ 100000

abbrev one_at : ℕ → ℕ
one_at due = if due == 1 then 1 else 0

-- none of the far ones is due at tick 1
one_alone : (far : List (Timer ℕ)) → All IsFar far → count_due 1 (far ++ timer_of 1 5000 ∷ []) ≡ 1
one_alone [] all = refl
one_alone (t ∷ ts) all =
    let none : one_at t.due ≡ 0 = subst (λ (d : ℕ). one_at d ≡ 0) (sym (All-head IsFar t ts all)) refl in
    omega (arith, none, sum_by-cons (λ (u : Timer ℕ). one_at u.due) t (ts ++ timer_of 1 5000 ∷ []), one_alone ts (All-tail IsFar t ts all))

pub returns-clause-one : goal.returns-clause-one
returns-clause-one c = λ far all. omega (arith, one_alone far all)
