-- Spots that wait, and what is seen at a spot.
use Rattle.std.proofs.Common.{◌≡◌, ◌≢◌, ℕ, ◌+◌, ◌<◌, ◌≤◌, ◌==◌, cond, List, [], ◌∷◌, ◌++◌, length, set, get_or, slice_get, Option, Some, None, sym, ap, ◌∙◌, subst, arith, ⊎_elim}
use Rattle.std.specs.Prelude.{IsSome}
use Rattle.std.proofs.lemmas.Option.{none-some, slice_get_within, get_or_from_slice_get}
use Rattle.std.proofs.lemmas.Bool.{cases_eq}
use Rattle.std.proofs.lemmas.List.Sums.{count_by-le-length, get_or-le-sum_by, sum_by_push, sum_by-set}
use Rattle.timer_slots.specs.Seen.{SlotsSeen, id_in, times, spot_at}
use Rattle.timer_slots.specs.Slots.{AreSlots}
use Rattle.timer_slots.proofs.Edits.{if_same, if_apart}

abbrev pub seen_of : List (List ℕ) → List ℕ → SlotsSeen
seen_of lists late = record { lists = lists; late = late }

-- 1 where the numbers are the same
abbrev pub one : ℕ → ℕ → ℕ
one q spot = cond (q == spot) 1 0

pub times_push : (late : List ℕ) (spot q : ℕ) → times (late ++ spot ∷ []) q ≡ times late q + one q spot
times_push late spot q = sum_by_push (one q) late spot

pub times_set : (late : List ℕ) (i to from q : ℕ) → i < length late → get_or late i from ≡ from → times (set late i to) q + one q from ≡ times late q + one q to
times_set late i to from q low is = subst (λ s. times (set late i to) q + one q s ≡ times late q + one q to) is (sum_by-set (one q) late i to from low)

-- nothing is no value
pub no_some : IsSome {T = ℕ} None → ⊥
no_some is = none-some {A = ℕ} 0 (ap (λ b. cond b (Some 0) None) is)

-- a spot that doesn't wait, and one that does
pub at_free : (lists : List (List ℕ)) (late : List ℕ) (q : ℕ) → times late q ≡ 0 → spot_at (seen_of lists late) q ≡ id_in lists q
at_free lists late q free = if_same (times late q) 0 (id_in lists q) None free

pub at_late : (lists : List (List ℕ)) (late : List ℕ) (q : ℕ) → times late q ≢ 0 → spot_at (seen_of lists late) q ≡ None
at_late lists late q waits = if_apart (times late q) 0 (id_in lists q) None waits

pub is_free : (lists : List (List ℕ)) (late : List ℕ) (q : ℕ) → IsSome (spot_at (seen_of lists late) q) → times late q ≡ 0
is_free lists late q some =
    ⊎_elim (λ e. e) (λ ne. absurd (no_some (subst (λ (o : Option ℕ). IsSome o) (at_late lists late q ne) some))) (cases_eq (times late q) 0)

pub same_at : (lists new : List (List ℕ)) (late then : List ℕ) (q : ℕ) → times then q ≡ times late q → id_in new q ≡ id_in lists q
    → spot_at (seen_of new then) q ≡ spot_at (seen_of lists late) q
same_at lists new late then q t e = ap (λ n. cond (n == 0) (id_in new q) None) t ∙ ap (λ (o : Option ℕ). cond (times late q == 0) o None) e

-- a spot at which there is no id doesn't wait
pub none_free : (lists : List (List ℕ)) (late : List ℕ) (q : ℕ) → AreSlots lists late → id_in lists q ≡ None → times late q ≡ 0
none_free lists late q slots none =
    ⊎_elim (λ e. e)
    (λ ne. absurd (no_some (subst (λ (o : Option ℕ). IsSome o) none (slots.within q (omega (arith, ne))))))
    (cases_eq (times late q) 0)

-- where few wait, none does
pub none_waits : (late : List ℕ) (q : ℕ) → length late ≡ 0 → times late q ≡ 0
none_waits late q none = omega (arith, none, count_by-le-length (λ other. q == other) late)

-- a spot that is found among them waits
pub found_waits : (late : List ℕ) (i q : ℕ) → slice_get late i ≡ Some q → 0 < times late q
found_waits late i q is =
    let some : one q (get_or late i q) ≤ times late q = get_or-le-sum_by (one q) late i q (slice_get_within late i q is) in
    omega (arith, some, if_same {X = ℕ} q (get_or late i q) 1 0 (sym (get_or_from_slice_get late i q q is)))
