-- Each step on the free queue keeps its rule.
use Rattle.std.proofs.Common.{◌≡◌, ◌≢◌, ℕ, zero, suc, ◌+◌, ◌<◌, ◌≤◌, ⊎_elim, List, [], ◌∷◌, ◌++◌, length, refl, sym, ap, ◌∙◌, subst, arith}
use Rattle.std.specs.Prelude.{map, take, sum_by, slice_set}
use mathlib.Core.Option.{some, some-injective, some-ne-none}
use mathlib.Core.Logic.{dite}
use native.Mathlib.Decide.{ℕ_discrete}
use lib.ListN.{get_elem?}
use Rattle.std.proofs.lemmas.List.{length-map, append-nil}
use Rattle.std.proofs.lemmas.List.Sums.{sum_by-cons, sum_by-append, sum_by_push}
use Rattle.crossbeam_queue.specs.Fifo.{Pushes, Pops, Forks, Merges, Learns, Held}
use Rattle.core_cells.specs.Seen.{CellsId, SeenPass, first_key, took_by, put_by, AreFree, WereFree}
use Rattle.crossbeam_queue.proofs.Lists.{at_set, set_here, set_else, at_longer, at_snoc}
use Rattle.core_word.specs.Seen.{SeenHome, SeenKey}
use Rattle.core_cells.specs.declared.view.View.{View}
use Rattle.core_cells.specs.Rule.{opening, fills, left_by_count, right_by_count, left_by_fork, right_by_fork, with_pass, spent, takes, puts, Accounts, FreeHolds}
use Rattle.core_cells.proofs.Sums.{within, written, alone, parts}

abbrev made_of : View → ℕ
made_of v = v.made

abbrev held_of : View → ℕ
held_of v = v.held

abbrev passes_of : View → ℕ
passes_of v = v.passes

abbrev homes_of : View → List SeenKey
homes_of v = v.homes

abbrev took_of : (SeenKey → ℕ) → View → ℕ
took_of weight v = sum_by weight v.took

abbrev put_of : (SeenKey → ℕ) → View → ℕ
put_of weight v = sum_by weight v.put

-- a sum in which the changed place counts as before
kept_sum : (g : View → ℕ) (views : List View) (id : ℕ) (v w : View) → get_elem? views id ≡ some v → g w ≡ g v → sum_by g (slice_set views id w) ≡ sum_by g views
kept_sum g views id v w at same = omega (arith, same, written g views id v w at)

-- a fact of each view after one was written
after_set : (F : ℕ → View → Type 0) (views : List View) (id : ℕ) (w : View) → F id w → ((k : ℕ) (u : View) → k ≢ id → get_elem? views k ≡ some u → F k u)
    → (k : ℕ) (u : View) → get_elem? (slice_set views id w) k ≡ some u → F k u
after_set F views id w mine others k u e = ⊎_elim
    (λ (r : (k ≡ id) × (w ≡ u)). subst (λ (z : ℕ × View). F z.0 z.1) (λ i. (sym r.0 i, r.1 i)) mine)
    (λ (r : (k ≢ id) × (get_elem? views k ≡ some u)). others k u r.0 r.1)
    (at_set views id k w u e)

pub begins : FreeHolds [] (opening ∷ [])
begins = record {
  maker = 0;
  first = opening;
  at = refl;
  made = λ e. absurd (omega (arith, e));
  stands = refl;
  few = omega arith;
  homes = (refl, refl);
  makes = λ k v ne e. absurd (only k v ne e);
  told = told_so;
  idle = λ k v e none. absurd (counts k v e none);
  counted = refl;
  kept = λ weight. refl;
} where
  only : (k : ℕ) (v : View) → k ≢ 0 → get_elem? (opening ∷ []) k ≡ some v → ⊥
  only zero v ne e = ne refl
  only (suc k) v ne e = some-ne-none v (sym e)

  told_so : (k : ℕ) (v : View) → get_elem? (opening ∷ []) k ≡ some v → v.held ≢ 0 → (v.passes ≡ opening.passes) × (v.homes ≡ opening.homes)
  told_so zero v e held = let same = sym (some-injective opening v e) in (ap passes_of same, ap homes_of same)
  told_so (suc k) v e held = absurd (some-ne-none v (sym e))

  counts : (k : ℕ) (v : View) → get_elem? (opening ∷ []) k ≡ some v → v.held ≡ 0 → ⊥
  counts zero v e none = let same : 1 ≡ v.held = ap held_of (some-injective opening v e) in absurd (omega (arith, same, none))
  counts (suc k) v e none = some-ne-none v (sym e)

-- a pass that has made passes is the opening one
module _ {items : List SeenKey} {views : List View} (id : ℕ) (v : View) (h : FreeHolds items views) (at : get_elem? views id ≡ some v) where
  is_maker : v.made ≢ 0 → id ≡ h.maker
  is_maker made = dite (ℕ_discrete id h.maker) (λ e. e) (λ ne. absurd (made (h.makes id v ne at)))

  is_first : v.made ≢ 0 → h.first ≡ v
  is_first made = some-injective h.first v (sym h.at ∙ (ap (get_elem? views) (sym (is_maker made)) ∙ at))

  is_other : v.made ≡ 0 → id ≢ h.maker
  is_other none e = h.made (ap made_of (some-injective h.first v (sym h.at ∙ (ap (get_elem? views) (sym e) ∙ at))) ∙ none)

  -- nobody stands beside an opening pass that has made none
  none_beside : v.made ≡ 1 → v.held ≡ 1 → (k : ℕ) (u : View) → k ≢ id → get_elem? views k ≡ some u → u.held ≡ 0
  none_beside made held k u ne there =
      let maker : v.made ≢ 0 = λ z. absurd (omega (arith, z, made)) in
      let first : id ≡ h.maker = is_maker maker in
      let all : sum_by made_of views ≡ v.made = alone made_of views id v at (λ k w ne e. h.makes k w (λ z. ne (z ∙ sym first)) e) in
      omega (arith, h.counted, all, made, held, parts held_of views id k v u ne at there)

-- a pass puts a key
pub puts_key : (n id : ℕ) (v : View) (key : SeenKey) → v.made ≡ 0 → v.held ≢ 0 → Pushes FreeHolds n id v key (puts v key)
puts_key n id v key made acts items views short h at =
    let w : View = record { made = v.made; held = v.held; passes = v.passes; homes = v.homes; took = v.took; put = v.put ++ key ∷ [] } in
    let other = is_other id v h at made in (
      w,
      record {
        maker = h.maker;
        first = h.first;
        at = set_else views id h.maker w (λ e. other (sym e)) ∙ h.at;
        made = h.made;
        stands = h.stands;
        few = h.few;
        homes = h.homes;
        makes = λ k u ne e. after_set (λ k u. k ≢ h.maker → u.made ≡ 0) views id w (λ ne. h.makes id v ne at) (λ k u _ e ne. h.makes k u ne e) k u e ne;
        told = after_set (λ k u. u.held ≢ 0 → (u.passes ≡ h.first.passes) × (u.homes ≡ h.first.homes)) views id w (h.told id v at) (λ k u _ e. h.told k u e);
        idle = λ k u e none. after_set (λ k u. u.held ≡ 0 → (u.took ≡ []) × (u.put ≡ [])) views id w (λ none. absurd (acts none)) (λ k u _ e none. h.idle k u e none) k u e none;
        counted = kept_sum held_of views id v w at refl ∙ (h.counted ∙ sym (kept_sum made_of views id v w at refl));
        kept = λ weight. omega (arith, h.kept weight, sum_by_push weight items key, kept_sum (took_of weight) views id v w at refl, written (put_of weight) views id v w at, sum_by_push weight v.put key);
      },
      refl,
    )

-- the opening pass puts the first key of a home
pub fills_key : (n id : ℕ) (v : View) (key : SeenKey) → v.made ≡ 1 → v.held ≡ 1 → Pushes FreeHolds n id v key (fills v key)
fills_key n id v key made held items views short h at =
    let w : View = record { made = v.made; held = v.held; passes = v.passes; homes = v.homes ++ key ∷ []; took = v.took; put = v.put ++ key ∷ [] } in
    let maker : v.made ≢ 0 = λ z. absurd (omega (arith, z, made)) in
    let first = is_maker id v h at maker in
    let same = is_first id v h at maker in (
      w,
      record {
        maker = id;
        first = w;
        at = set_here views id w (within views id v at);
        made = maker;
        stands = held;
        few = subst (λ (x : View). x.made ≤ suc x.passes) same h.few;
        homes = (ap (λ (x : View). x.took) (sym same) ∙ h.homes.0, ap (λ ks. ks ++ key ∷ []) (ap (λ (x : View). x.put) (sym same) ∙ (h.homes.1 ∙ ap homes_of same)));
        makes = λ k u ne e. after_set (λ k u. k ≢ id → u.made ≡ 0) views id w (λ ne. absurd (ne refl)) (λ k u _ e ne. h.makes k u (λ z. ne (z ∙ sym first)) e) k u e ne;
        told = after_set (λ k u. u.held ≢ 0 → (u.passes ≡ w.passes) × (u.homes ≡ w.homes)) views id w (λ _. (refl, refl)) (λ k u ne e some. absurd (some (none_beside id v h at made held k u ne e)));
        idle = λ k u e none. after_set (λ k u. u.held ≡ 0 → (u.took ≡ []) × (u.put ≡ [])) views id w (λ none. absurd (omega (arith, none, held))) (λ k u _ e none. h.idle k u e none) k u e none;
        counted = kept_sum held_of views id v w at refl ∙ (h.counted ∙ sym (kept_sum made_of views id v w at refl));
        kept = λ weight. omega (arith, h.kept weight, sum_by_push weight items key, kept_sum (took_of weight) views id v w at refl, written (put_of weight) views id v w at, sum_by_push weight v.put key);
      },
      refl,
    )

-- a pass takes a key
pub takes_key : (id : ℕ) (v : View) → v.made ≡ 0 → v.held ≢ 0 → Pops FreeHolds id v (takes v)
takes_key id v made acts key items views h at =
    let w : View = record { made = v.made; held = v.held; passes = v.passes; homes = v.homes; took = v.took ++ key ∷ []; put = v.put } in
    let other = is_other id v h at made in (
      w,
      record {
        maker = h.maker;
        first = h.first;
        at = set_else views id h.maker w (λ e. other (sym e)) ∙ h.at;
        made = h.made;
        stands = h.stands;
        few = h.few;
        homes = h.homes;
        makes = λ k u ne e. after_set (λ k u. k ≢ h.maker → u.made ≡ 0) views id w (λ ne. h.makes id v ne at) (λ k u _ e ne. h.makes k u ne e) k u e ne;
        told = after_set (λ k u. u.held ≢ 0 → (u.passes ≡ h.first.passes) × (u.homes ≡ h.first.homes)) views id w (h.told id v at) (λ k u _ e. h.told k u e);
        idle = λ k u e none. after_set (λ k u. u.held ≡ 0 → (u.took ≡ []) × (u.put ≡ [])) views id w (λ none. absurd (acts none)) (λ k u _ e none. h.idle k u e none) k u e none;
        counted = kept_sum held_of views id v w at refl ∙ (h.counted ∙ sym (kept_sum made_of views id v w at refl));
        kept = λ weight. omega (arith, h.kept weight, sum_by-cons weight key items, kept_sum (put_of weight) views id v w at refl, written (took_of weight) views id v w at, sum_by_push weight v.took key);
      },
      refl,
    )

-- the opening pass counts one that there is to be
pub counts_pass : (id : ℕ) (v : View) → v.made ≡ 1 → v.held ≡ 1 → Forks FreeHolds id v (left_by_count v) (right_by_count v)
counts_pass id v made one items views h at =
    let left : View = left_by_count v in
    let here : List View = slice_set views id left in
    let maker : v.made ≢ 0 = λ z. absurd (omega (arith, z, made)) in
    let first = is_maker id v h at maker in
    let same = is_first id v h at maker in
    record {
      maker = id;
      first = left;
      at = at_longer here (spent ∷ []) id left (set_here views id left (within views id v at));
      made = maker;
      stands = one;
      few = omega (arith, made);
      homes = (ap (λ (x : View). x.took) (sym same) ∙ h.homes.0, ap (λ (x : View). x.put) (sym same) ∙ (h.homes.1 ∙ ap homes_of same));
      makes = λ k u ne e. ⊎_elim
          (λ (r : get_elem? here k ≡ some u). after_set (λ k u. k ≢ id → u.made ≡ 0) views id left (λ ne. absurd (ne refl)) (λ k u _ e ne. h.makes k u (λ z. ne (z ∙ sym first)) e) k u r ne)
          (λ (r : spent ≡ u). sym (ap made_of r))
          (at_snoc here spent u k e);
      told = λ k u e held. ⊎_elim
          (λ (r : get_elem? here k ≡ some u). after_set (λ k u. u.held ≢ 0 → (u.passes ≡ left.passes) × (u.homes ≡ left.homes)) views id left (λ _. (refl, refl)) (λ k u ne e acts. absurd (acts (none_beside id v h at made one k u ne e))) k u r held)
          (λ (r : spent ≡ u). absurd (held (sym (ap held_of r))))
          (at_snoc here spent u k e);
      idle = λ k u e none. ⊎_elim
          (λ (r : get_elem? here k ≡ some u). after_set (λ k u. u.held ≡ 0 → (u.took ≡ []) × (u.put ≡ [])) views id left (λ none. h.idle id v at none) (λ k u _ e none. h.idle k u e none) k u r none)
          (λ (r : spent ≡ u). (sym (ap (λ (x : View). x.took) r), sym (ap (λ (x : View). x.put) r)))
          (at_snoc here spent u k e);
      counted = omega (arith, h.counted, kept_sum held_of views id v left at refl, kept_sum made_of views id v left at refl, sum_by_push held_of here spent, sum_by_push made_of here spent);
      kept = λ weight. omega (arith, h.kept weight, kept_sum (took_of weight) views id v left at refl, kept_sum (put_of weight) views id v left at refl, sum_by_push (took_of weight) here spent, sum_by_push (put_of weight) here spent);
    }

-- and makes one
pub makes_pass : (id : ℕ) (v : View) → v.made ≢ 0 → v.made ≤ v.passes → Forks FreeHolds id v (left_by_fork v) (right_by_fork v)
makes_pass id v maker left_over items views h at =
    let left : View = left_by_fork v in
    let right : View = right_by_fork v in
    let here : List View = slice_set views id left in
    let first = is_maker id v h at maker in
    let same = is_first id v h at maker in
    record {
      maker = id;
      first = left;
      at = at_longer here (right ∷ []) id left (set_here views id left (within views id v at));
      made = λ z. absurd (omega (arith, z));
      stands = ap held_of (sym same) ∙ h.stands;
      few = omega (arith, left_over);
      homes = (ap (λ (x : View). x.took) (sym same) ∙ h.homes.0, ap (λ (x : View). x.put) (sym same) ∙ (h.homes.1 ∙ ap homes_of same));
      makes = λ k u ne e. ⊎_elim
          (λ (r : get_elem? here k ≡ some u). after_set (λ k u. k ≢ id → u.made ≡ 0) views id left (λ ne. absurd (ne refl)) (λ k u _ e ne. h.makes k u (λ z. ne (z ∙ sym first)) e) k u r ne)
          (λ (r : right ≡ u). sym (ap made_of r))
          (at_snoc here right u k e);
      told = λ k u e held. ⊎_elim
          (λ (r : get_elem? here k ≡ some u). after_set (λ k u. u.held ≢ 0 → (u.passes ≡ v.passes) × (u.homes ≡ v.homes)) views id left (λ _. (refl, refl))
          (λ k u ne e acts. let t = h.told k u e acts in (t.0 ∙ ap passes_of same, t.1 ∙ ap homes_of same)) k u r held)
          (λ (r : right ≡ u). (sym (ap passes_of r), sym (ap homes_of r)))
          (at_snoc here right u k e);
      idle = λ k u e none. ⊎_elim
          (λ (r : get_elem? here k ≡ some u). after_set (λ k u. u.held ≡ 0 → (u.took ≡ []) × (u.put ≡ [])) views id left (λ none. h.idle id v at none) (λ k u _ e none. h.idle k u e none) k u r none)
          (λ (r : right ≡ u). let one : 1 ≡ u.held = ap held_of r in absurd (omega (arith, one, none)))
          (at_snoc here right u k e);
      counted = omega (arith, h.counted, written held_of views id v left at, written made_of views id v left at, sum_by_push held_of here right, sum_by_push made_of here right);
      kept = λ weight. omega (arith, h.kept weight, kept_sum (took_of weight) views id v left at refl, kept_sum (put_of weight) views id v left at refl, sum_by_push (took_of weight) here right, sum_by_push (put_of weight) here right);
    }

with_none : (xs ys : List SeenKey) → ys ≡ [] → xs ++ ys ≡ xs
with_none xs ys e = ap (λ zs. xs ++ zs) e ∙ append-nil xs

-- a pass takes another in
pub takes_pass_in : (id other : ℕ) (v u : View) → v.made ≡ 0 → v.held ≢ 0 → u.made ≡ 0 → Merges FreeHolds id v other u (with_pass v u) spent
takes_pass_in id other v u made acts made_none items views h at apart there =
    let both : View = with_pass v u in
    let here : List View = slice_set views id both in
    let was : get_elem? views other ≡ some u = ⊎_elim (λ (r : (other ≡ id) × (both ≡ u)). absurd (apart r.0)) (λ (r : (other ≢ id) × (get_elem? views other ≡ some u)). r.1) (at_set views id other both u there) in
    let not_id = is_other id v h at made in
    let not_other = is_other other u h was made_none in
    record {
      maker = h.maker;
      first = h.first;
      at = set_else here other h.maker spent (λ e. not_other (sym e)) ∙ (set_else views id h.maker both (λ e. not_id (sym e)) ∙ h.at);
      made = h.made;
      stands = h.stands;
      few = h.few;
      homes = h.homes;
      makes = λ k y ne e. after_set (λ k y. k ≢ h.maker → y.made ≡ 0) here other spent (λ ne. refl)
          (λ k y _ e ne. after_set (λ k y. k ≢ h.maker → y.made ≡ 0) views id both (λ ne. made) (λ k y _ e ne. h.makes k y ne e) k y e ne) k y e ne;
      told = after_set (λ k y. y.held ≢ 0 → (y.passes ≡ h.first.passes) × (y.homes ≡ h.first.homes)) here other spent (λ held. absurd (held refl))
          (λ k y _ e. after_set (λ k y. y.held ≢ 0 → (y.passes ≡ h.first.passes) × (y.homes ≡ h.first.homes)) views id both (λ _. h.told id v at acts) (λ k y _ e. h.told k y e) k y e);
      idle = λ k y e none. after_set (λ k y. y.held ≡ 0 → (y.took ≡ []) × (y.put ≡ [])) here other spent (λ none. (refl, refl))
          (λ k y _ e none. after_set (λ k y. y.held ≡ 0 → (y.took ≡ []) × (y.put ≡ [])) views id both (λ none. absurd (acts (omega (arith, none)))) (λ k y _ e none. h.idle k y e none) k y e none) k y e none;
      counted = omega (arith, h.counted, made_none, written held_of views id v both at, written held_of here other u spent there, written made_of views id v both at, written made_of here other u spent there);
      kept = λ weight. omega (arith, h.kept weight, sum_by-append weight v.took u.took, sum_by-append weight v.put u.put, written (took_of weight) views id v both at, written (took_of weight) here other u spent there, written (put_of weight) views id v both at, written (put_of weight) here other u spent there);
    }

-- all that some views took, and put
abbrev all_took : List View → List SeenKey
all_took [] = []
all_took (v ∷ views) = v.took ++ all_took views

abbrev all_put : List View → List SeenKey
all_put [] = []
all_put (v ∷ views) = v.put ++ all_put views

took_sum : (weight : SeenKey → ℕ) (views : List View) → sum_by weight (all_took views) ≡ sum_by (took_of weight) views
took_sum weight [] = refl
took_sum weight (v ∷ views) = omega (arith, sum_by-append weight v.took (all_took views), took_sum weight views, sum_by-cons (took_of weight) v views)

put_sum : (weight : SeenKey → ℕ) (views : List View) → sum_by weight (all_put views) ≡ sum_by (put_of weight) views
put_sum weight [] = refl
put_sum weight (v ∷ views) = omega (arith, sum_by-append weight v.put (all_put views), put_sum weight views, sum_by-cons (put_of weight) v views)

none_took : (views : List View) → ((k : ℕ) (v : View) → get_elem? views k ≡ some v → (v.took ≡ []) × (v.put ≡ [])) → (all_took views ≡ []) × (all_put views ≡ [])
none_took [] none = (refl, refl)
none_took (v ∷ views) none =
    let first = none 0 v refl in
    let others = none_took views (λ k w e. none (suc k) w e) in
    (ap (λ (xs : List SeenKey). xs ++ all_took views) first.0 ∙ others.0, ap (λ (xs : List SeenKey). xs ++ all_put views) first.1 ∙ others.1)

-- all but one took and put nothing
sole_took : (views : List View) (i : ℕ) (m : View) → get_elem? views i ≡ some m → ((k : ℕ) (v : View) → k ≢ i → get_elem? views k ≡ some v → (v.took ≡ []) × (v.put ≡ []))
    → (all_took views ≡ m.took) × (all_put views ≡ m.put)
sole_took [] i m e none = absurd (some-ne-none m (sym e))
sole_took (v ∷ views) zero m e none =
    let same = some-injective v m e in
    let others = none_took views (λ k w at. none (suc k) w (λ z. let clash = z in cc) at) in
    (with_none v.took (all_took views) others.0 ∙ ap (λ (x : View). x.took) same, with_none v.put (all_put views) others.1 ∙ ap (λ (x : View). x.put) same)
sole_took (v ∷ views) (suc i) m e none =
    let first = none 0 v (λ z. let clash = z in cc) refl in
    let others = sole_took views i m e (λ k w ne at. none (suc k) w (λ z. ne (omega (arith, z))) at) in
    (ap (λ (xs : List SeenKey). xs ++ all_took views) first.0 ∙ others.0, ap (λ (xs : List SeenKey). xs ++ all_put views) first.1 ∙ others.1)

-- what a pass learns of the keys in the queue
pub learns : (id : ℕ) (v : View) → v.held ≢ 0 → Learns FreeHolds id v (Accounts v)
learns id v acts items views h at =
    let rest : List View = slice_set views id spent in
    record {
      took = all_took rest;
      put = all_put rest;
      accounted = λ weight. omega (arith, h.kept weight, sum_by-append weight v.took (all_took rest), sum_by-append weight v.put (all_put rest), took_sum weight rest, put_sum weight rest, written (took_of weight) views id v spent at, written (put_of weight) views id v spent at);
      none = λ alone_so.
          let maker : v.made ≢ 0 = λ z. acts (sym alone_so ∙ z) in
          let first = is_maker id v h at maker in
          let made : sum_by made_of views ≡ v.made = alone made_of views id v at (λ k w ne e. h.makes k w (λ z. ne (z ∙ sym first)) e) in
          let held : sum_by held_of views ≡ v.held = h.counted ∙ (made ∙ alone_so) in
          none_took rest (λ k w e. after_set (λ k w. (w.took ≡ []) × (w.put ≡ [])) views id spent (refl, refl)
          (λ k w ne e. h.idle k w e (omega (arith, held, parts held_of views id k v w ne at e))) k w e);
      all = λ none for_all.
          let other = is_other id v h at none in
          let told = h.told id v at acts in
          let first_at : get_elem? rest h.maker ≡ some h.first = set_else views id h.maker spent (λ e. other (sym e)) ∙ h.at in
          let made : sum_by made_of views ≡ h.first.made = alone made_of views h.maker h.first h.at h.makes in
          let beside : sum_by held_of rest + v.held ≡ sum_by held_of views + 0 = written held_of views id v spent at in
          let sum = sole_took rest h.maker h.first first_at (λ k w ne e. after_set (λ k w. k ≢ h.maker → (w.took ≡ []) × (w.put ≡ [])) views id spent (λ _. (refl, refl))
          (λ k w nid there ne. h.idle k w there (omega (arith, h.counted, h.few, told.0, for_all, made, beside, h.stands, parts held_of rest h.maker k h.first w ne first_at (set_else views id k spent nid ∙ there)))) k w e ne) in
          (sum.0 ∙ h.homes.0, sum.1 ∙ (h.homes.1 ∙ sym told.1));
    }

pub one_stands : (n : ℕ) → n ≡ 1 → n ≢ 0
one_stands n e z = absurd (omega (arith, e, z))

ones : {A : Type 0} (xs : List A) → sum_by (λ _. 1) xs ≡ length xs
ones [] = refl
ones (x ∷ xs) = omega (arith, ones xs, sum_by-cons (λ _. 1) x xs)

-- a queue in which all that was put can't be full before as many keys were put
pub never_full : (n : ℕ) (v : View) → v.made ≡ v.held → v.took ≡ [] → length v.put < n → Held n (Accounts v) → ⊥
never_full n v all none few h =
    let rest = h.2.none all in
    let took : sum_by (λ _. 1) h.2.took ≡ 0 = ap (sum_by (λ _. 1)) rest.0 in
    let put : sum_by (λ _. 1) h.2.put ≡ 0 = ap (sum_by (λ _. 1)) rest.1 in
    let mine : sum_by (λ _. 1) v.took ≡ 0 = ap (sum_by (λ _. 1)) none in
    absurd (omega (arith, few, h.1, h.2.accounted (λ _. 1), took, put, mine, sum_by-append (λ _. 1) v.took h.2.took, sum_by-append (λ _. 1) v.put h.2.put, ones h.0, ones v.put))

-- what is free, by a pass that stands for all of these passes
pub all_free : (n : ℕ) (v : View) (homes : List SeenKey) (passes : List SeenPass) → Held n (Accounts v) → v.made ≡ 0 → v.held ≡ v.passes → v.homes ≡ homes
    → ((weight : SeenKey → ℕ) → sum_by weight v.took ≡ took_by weight passes) → ((weight : SeenKey → ℕ) → sum_by weight v.put ≡ put_by weight passes)
    → (keys : List SeenKey) × (length keys ≡ n) × AreFree keys homes passes
all_free n v homes passes h none all same took_all put_all =
    let rest = h.2.all none all in (
      h.0,
      h.1,
      λ weight.
          let took : sum_by weight h.2.took ≡ 0 = ap (sum_by weight) rest.0 in
          let put : sum_by weight h.2.put ≡ sum_by weight homes = ap (sum_by weight) (rest.1 ∙ same) in
          omega (arith, h.2.accounted weight, took, put, took_all weight, put_all weight, sum_by-append weight v.took h.2.took, sum_by-append weight v.put h.2.put),
    )

-- the last of some passes, and the others
pub took_last : (weight : SeenKey → ℕ) (u : View) (before rest : List SeenPass) (pass : SeenPass) → before ≡ rest ++ pass ∷ [] → u.took ≡ pass.took → sum_by weight u.took + took_by weight rest ≡ took_by weight before
took_last weight u before rest pass items same = omega (arith, ap (took_by weight) items, ap (sum_by weight) same, sum_by_push (λ (p : SeenPass). sum_by weight p.took) rest pass)

pub put_last : (weight : SeenKey → ℕ) (u : View) (before rest : List SeenPass) (pass : SeenPass) → before ≡ rest ++ pass ∷ [] → u.put ≡ pass.put → sum_by weight u.put + put_by weight rest ≡ put_by weight before
put_last weight u before rest pass items same = omega (arith, ap (put_by weight) items, ap (sum_by weight) same, sum_by_push (λ (p : SeenPass). sum_by weight p.put) rest pass)

-- one more pass was taken in
pub took_in : (weight : SeenKey → ℕ) (v u w : View) (before rest : List SeenPass) (pass : SeenPass) (all : ℕ) → before ≡ rest ++ pass ∷ [] → w ≡ with_pass v u → u.took ≡ pass.took → sum_by weight v.took + took_by weight before ≡ all → sum_by weight w.took + took_by weight rest ≡ all
took_in weight v u w before rest pass all items e same was =
    let here : sum_by weight w.took ≡ sum_by weight (v.took ++ u.took) = ap (λ (x : View). sum_by weight x.took) e in
    omega (arith, here, was, ap (took_by weight) items, ap (sum_by weight) same, sum_by-append weight v.took u.took, sum_by_push (λ (p : SeenPass). sum_by weight p.took) rest pass)

pub put_in : (weight : SeenKey → ℕ) (v u w : View) (before rest : List SeenPass) (pass : SeenPass) (all : ℕ) → before ≡ rest ++ pass ∷ [] → w ≡ with_pass v u → u.put ≡ pass.put → sum_by weight v.put + put_by weight before ≡ all → sum_by weight w.put + put_by weight rest ≡ all
put_in weight v u w before rest pass all items e same was =
    let here : sum_by weight w.put ≡ sum_by weight (v.put ++ u.put) = ap (λ (x : View). sum_by weight x.put) e in
    omega (arith, here, was, ap (put_by weight) items, ap (sum_by weight) same, sum_by-append weight v.put u.put, sum_by_push (λ (p : SeenPass). sum_by weight p.put) rest pass)

-- a pass that knows what it knew
pub same_pass : (id now : CellsId) (v w : View) (pass : SeenPass) → now ≡ id → w ≡ v → record { cells = record { id = id; size = length v.homes }; homes = v.homes; passes = v.passes; took = v.took; put = v.put } ≡ pass
    → record { cells = record { id = now; size = length w.homes }; homes = w.homes; passes = w.passes; took = w.took; put = w.put } ≡ pass
same_pass id now v w pass e f is = (λ i. record { cells = record { id = e i; size = length (f i).homes }; homes = (f i).homes; passes = (f i).passes; took = (f i).took; put = (f i).put }) ∙ is

-- how many were free, for the one pass of its cells
were_free : (n : ℕ) (v : View) (id : CellsId) → v.made ≡ 0 → v.held ≡ 1 → Held n (Accounts v) → WereFree n record { cells = record { id = id; size = length v.homes }; homes = v.homes; passes = v.passes; took = v.took; put = v.put }
were_free n v id none held h one =
    let mine : SeenPass = record { cells = record { id = id; size = length v.homes }; homes = v.homes; passes = v.passes; took = v.took; put = v.put } in
    all_free n v v.homes (mine ∷ []) h none (held ∙ sym one) refl
    (λ weight. omega (arith, sum_by-cons (λ (p : SeenPass). sum_by weight p.took) mine []))
    (λ weight. omega (arith, sum_by-cons (λ (p : SeenPass). sum_by weight p.put) mine []))

pub were_free_as : (n m : ℕ) (v : View) (id : CellsId) (pass : SeenPass) → n ≡ m → v.made ≡ 0 → v.held ≡ 1 → record { cells = record { id = id; size = length v.homes }; homes = v.homes; passes = v.passes; took = v.took; put = v.put } ≡ pass → Held n (Accounts v) → WereFree m pass
were_free_as n m v id pass e none held is h = subst (λ (z : ℕ × SeenPass). WereFree z.0 z.1) (λ i. (e i, is i)) (were_free n v id none held h)

-- fewer keys than homes were put so far
pub few_keys : (put : List SeenKey) (i n : ℕ) (homes : List SeenHome) → put ≡ map first_key (take i homes) → i < length homes → n ≡ length homes → length put < n
few_keys put i n homes e less room = omega (arith, ap (λ (ks : List SeenKey). length ks) e, length-map (take i homes) first_key, length_take i homes, less, room)
  where
    length_take : {A : Type 0} (i : ℕ) (xs : List A) → length (take i xs) ≤ i
    length_take zero xs = omega arith
    length_take (suc i) [] = omega arith
    length_take (suc i) (x ∷ xs) = omega (arith, length_take i xs)
