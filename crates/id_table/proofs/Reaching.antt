-- No cell between an id's home and its own is empty: over functions from a cell to its mark and to its id's home.
use Rattle.std.proofs.Common.{◌≡◌, ◌≢◌, ℕ, ◌<◌, ◌≤◌, sym, subst, ⊎_elim, arith}
use Rattle.id_table.specs.Ring.{next, distance}
use Rattle.id_table.proofs.Steps.{le_or_lt, distance_same, same_distance, distance_next, nearer, may_move, may_stay, on_way}
use Rattle.id_table.proofs.Counts.{by_same}

abbrev pub Reached : ℕ → (ℕ → ℕ) → (ℕ → ℕ) → ℕ → Type 0
Reached n mark home gap = (k j : ℕ) → k < n → j < n → 0 < mark k → distance n (home k) j < distance n (home k) k → j ≢ gap → 0 < mark j

-- no cell between the gap and `at` has the gap on its way
abbrev pub Passed : ℕ → (ℕ → ℕ) → (ℕ → ℕ) → ℕ → ℕ → Type 0
Passed n mark home gap at = (k : ℕ) → k < n → 0 < mark k → distance n gap k < distance n gap at
    → distance n (home k) k ≤ distance n (home k) gap

-- what is before the next cell is before this one, or is this one
pub by_next_way : {C : Type 0} → (n from at j : ℕ) → from < n → at < n → j < n
    → distance n from j < distance n from (next n at)
    → (distance n from j < distance n from at → C) → (j ≡ at → C) → C
by_next_way n from at j hf ha hj far f g =
    let step = distance_next n from at hf ha in
    by_same (distance n from j) (distance n from at) (λ e. g (same_distance n from j at hf hj ha e)) (λ ne. f (omega arith))

-- a cell is filled
module _ (n : ℕ) (mark home mark' home' : ℕ → ℕ) (at : ℕ) where
  pub fill_reached : Reached n mark home n → 0 < mark' at
      → ((k : ℕ) → k ≢ at → mark' k ≡ mark k) → ((k : ℕ) → k ≢ at → home' k ≡ home k)
      → ((j : ℕ) → j < n → distance n (home' at) j < distance n (home' at) at → 0 < mark j)
      → Reached n mark' home' n
  fill_reached reached here marks homes way = λ k j hk hj some near apart.
      by_same j at
      (λ e. subst (λ x. 0 < mark' x) (sym e) here)
      (λ nj.
      let now = marks j nj in
      by_same k at
      (λ e. let was = way j hj (subst (λ x. distance n (home' x) j < distance n (home' x) x) e near) in omega arith)
      (λ nk.
      let own = marks k nk in
      let was = reached k j hk hj (omega arith) (subst (λ x. distance n x j < distance n x k) (homes k nk) near) apart in
      omega arith))

  -- a cell is emptied
  pub drop_reached : Reached n mark home n → mark' at ≡ 0
      → ((k : ℕ) → k ≢ at → mark' k ≡ mark k) → ((k : ℕ) → k ≢ at → home' k ≡ home k)
      → Reached n mark' home' at
  drop_reached reached here marks homes = λ k j hk hj some near apart.
      by_same k at
      (λ e. let none : mark' k ≡ 0 = subst (λ x. mark' x ≡ 0) (sym e) here in absurd (omega arith))
      (λ nk.
      let own = marks k nk in
      let now = marks j apart in
      let was = reached k j hk hj (omega arith) (subst (λ x. distance n x j < distance n x k) (homes k nk) near) (omega arith) in
      omega arith)

-- right after the gap no cell is passed
pub none_passed : (n : ℕ) (mark home : ℕ → ℕ) (gap : ℕ) → gap < n → mark gap ≡ 0 → Passed n mark home gap (next n gap)
none_passed n mark home gap hg empty = λ k hk some near.
    let start = distance_same n gap hg in
    by_next_way n gap gap k hg hg hk near
    (λ far. absurd (omega arith))
    (λ e. let none : mark k ≡ 0 = subst (λ x. mark x ≡ 0) (sym e) empty in absurd (omega arith))

-- the cell stays where it is
pub stay_passed : (n : ℕ) (mark home : ℕ → ℕ) (gap at : ℕ) → gap < n → at < n → home at < n
    → Passed n mark home gap at → distance n (home at) at < distance n gap at → Passed n mark home gap (next n at)
stay_passed n mark home gap at hg ha hh passed short = λ k hk some near.
    by_next_way n gap at k hg ha hk near
    (λ far. passed k hk some far)
    (λ e. subst (λ x. distance n (home x) x ≤ distance n (home x) gap) (sym e) (may_stay n (home at) gap at hh hg ha short))

pub stay_before : (n gap at end : ℕ) → gap < n → at < n → end < n → gap ≢ at
    → distance n at end < distance n at gap → at ≢ end
    → distance n (next n at) end < distance n (next n at) gap
stay_before n gap at end hg ha he apart before more =
    let one = nearer n at end ha he more in
    let other = nearer n at gap ha hg (omega arith) in
    omega arith

-- the cell moves into the gap, and leaves one
pub move_reached : (n : ℕ) (mark home mark' home' : ℕ → ℕ) (gap at : ℕ) → gap < n → at < n → home at < n → gap ≢ at
    → Reached n mark home gap → 0 < mark at → distance n gap at ≤ distance n (home at) at
    → mark' gap ≡ mark at → home' gap ≡ home at → mark' at ≡ 0
    → ((k : ℕ) → k ≢ gap → k ≢ at → mark' k ≡ mark k) → ((k : ℕ) → k ≢ gap → k ≢ at → home' k ≡ home k)
    → Reached n mark' home' at
move_reached n mark home mark' home' gap at hg ha hh apart reached filled far gap_mark gap_home empty marks homes = λ k j hk hj some near nja.
    let closer = may_move n (home at) gap at hh hg ha apart far in
    by_same j gap
    (λ e. let own : mark' j ≡ mark at = subst (λ x. mark' x ≡ mark at) (sym e) gap_mark in omega arith)
    (λ njg.
    let now = marks j njg nja in
    by_same k gap
    (λ e.
    let there : distance n (home' gap) j < distance n (home' gap) gap = subst (λ x. distance n (home' x) j < distance n (home' x) x) e near in
    let moved : distance n (home at) j < distance n (home at) gap = subst (λ x. distance n x j < distance n x gap) gap_home there in
    let was = reached at j ha hj filled (omega arith) njg in
    omega arith)
    (λ nkg.
    by_same k at
    (λ e. let none : mark' k ≡ 0 = subst (λ x. mark' x ≡ 0) (sym e) empty in absurd (omega arith))
    (λ nka.
    let own = marks k nkg nka in
    let was = reached k j hk hj (omega arith) (subst (λ x. distance n x j < distance n x k) (homes k nkg nka) near) njg in
    omega arith)))

-- at an empty cell the removal has ended: no cell has the gap on its way
pub end_reached : (n : ℕ) (mark home : ℕ → ℕ) (gap at : ℕ) → ((k : ℕ) → home k < n) → gap < n → at < n → gap ≢ at
    → mark at ≡ 0 → Reached n mark home gap → Passed n mark home gap at → Reached n mark home n
end_reached n mark home gap at hh hg ha apart empty reached passed = λ k j hk hj some near nj.
    by_same j gap
    (λ e.
    let gone : distance n (home k) gap < distance n (home k) k = subst (λ x. distance n (home k) x < distance n (home k) k) e near in
    absurd (⊎_elim
    (λ p. by_same (distance n gap k) (distance n gap at)
    (λ s.
    let same = same_distance n gap k at hg hk ha s in
    let none : mark k ≡ 0 = subst (λ x. mark x ≡ 0) (sym same) empty in
    omega arith)
    (λ ns.
    let beyond = on_way n (home k) gap at k (hh k) hg ha hk gone (omega arith) in
    let was = reached k at hk ha some beyond (omega arith) in
    omega arith))
    (λ q. let was = passed k hk some q in omega arith)
    (le_or_lt (distance n gap at) (distance n gap k))))
    (λ njg. reached k j hk hj some near njg)

-- an empty cell at which a look ends: the id is in none
pub look_missed : (n : ℕ) (mark home : ℕ → ℕ) (h at k : ℕ) → h < n → at < n → k < n → home k ≡ h
    → Reached n mark home n → mark at ≡ 0 → 0 < mark k → distance n h at ≤ distance n h k → ⊥
look_missed n mark home h at k hh ha hk own reached empty some past =
    by_same (distance n h k) (distance n h at)
    (λ s.
    let same = same_distance n h k at hh hk ha s in
    let none : mark k ≡ 0 = subst (λ x. mark x ≡ 0) (sym same) empty in
    omega arith)
    (λ ns.
    let was = reached k at hk ha some (subst (λ x. distance n x at < distance n x k) (sym own) (omega arith)) (omega arith) in
    omega arith)
