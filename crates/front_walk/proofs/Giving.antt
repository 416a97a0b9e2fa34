-- What the calls of a hook leave, all together.
use Rattle.std.proofs.Common.{◌≡◌, ℕ, zero, suc, ◌+◌, ◌-◌, ◌<◌, ◌≤◌, inl, inr, List, [], ◌∷◌, ◌++◌, length, take, drop, Bool, true, false, nat_lt, Option, Some, None, refl, sym, ap, ◌∙◌, subst, arith, append-nil, append_assoc}
use Rattle.std.specs.List.{filter_map, flat_map}
use Rattle.std.proofs.lemmas.Bool.Decides.{nat_tests}
use Rattle.std.proofs.lemmas.List.{drop_at, take_at}
use Rattle.query_model.specs.Order.{Asked}
use Rattle.fan_model.specs.Answered.{early_of, late_of}
use Rattle.fan_model.specs.Comings.{Coming, begun_by}
use Rattle.front_walk.specs.Coming.{Came, ComesThrough, EndsAt, IsCut}
use Rattle.front_walk.specs.Keeping.{IsKeptByTurns, KeepsEarly, KeepsLate, is_early}

-- of queries before which so many were answered the early ones, and the late ones
abbrev early_from : Option ℕ → ℕ → List Asked → List Asked
early_from None n queries = queries
early_from (Some stop_at) n queries = take (stop_at - n) queries

abbrev late_from : Option ℕ → ℕ → List Asked → List Asked
late_from None n queries = []
late_from (Some stop_at) n queries = drop (stop_at - n) queries

abbrev begun : List Coming → List Asked
begun comings = filter_map begun_by comings

below : (n m : ℕ) → nat_lt n m ≡ true → m - n ≡ suc (m - (n + 1))
below n m h = let lt : n < m = lt_of n m h in omega arith
  where
    lt_of : (a b : ℕ) → nat_lt a b ≡ true → a < b
    lt_of a b e = grind (arith, nat_tests)

reached : (n m : ℕ) → nat_lt n m ≡ false → m - n ≡ 0
reached n m h = let le : m ≤ n = le_of n m h in omega arith
  where
    le_of : (a b : ℕ) → nat_lt a b ≡ false → b ≤ a
    le_of a b e = grind (arith, nat_tests)

early_is : (stop_at : Option ℕ) (n : ℕ) (a : Asked) (queries : List Asked) → is_early stop_at n ≡ true → early_from stop_at n (a ∷ queries) ≡ a ∷ early_from stop_at (n + 1) queries
early_is None n a queries h = refl
early_is (Some m) n a queries h = ap (λ (k : ℕ). take k (a ∷ queries)) (below n m h)

early_not : (stop_at : Option ℕ) (n : ℕ) (a : Asked) (queries : List Asked) → is_early stop_at n ≡ false → early_from stop_at n (a ∷ queries) ≡ early_from stop_at (n + 1) queries
early_not None n a queries h = absurd cc
early_not (Some m) n a queries h =
    let next : m - (n + 1) ≡ 0 = omega (arith, reached n m h) in
    ap (λ (k : ℕ). take k (a ∷ queries)) (reached n m h) ∙ (take_at [] (a ∷ queries) 0 refl ∙ (sym (take_at [] queries 0 refl) ∙ ap (λ (k : ℕ). take k queries) (sym next)))

late_is : (stop_at : Option ℕ) (n : ℕ) (a : Asked) (queries : List Asked) → is_early stop_at n ≡ false → late_from stop_at n (a ∷ queries) ≡ a ∷ late_from stop_at (n + 1) queries
late_is None n a queries h = absurd cc
late_is (Some m) n a queries h =
    let next : m - (n + 1) ≡ 0 = omega (arith, reached n m h) in
    ap (λ (k : ℕ). drop k (a ∷ queries)) (reached n m h) ∙ (drop_at [] (a ∷ queries) 0 refl ∙ ap (λ (l : List Asked). a ∷ l) (sym (drop_at [] queries 0 refl) ∙ ap (λ (k : ℕ). drop k queries) (sym next)))

late_not : (stop_at : Option ℕ) (n : ℕ) (a : Asked) (queries : List Asked) → is_early stop_at n ≡ true → late_from stop_at n (a ∷ queries) ≡ late_from stop_at (n + 1) queries
late_not None n a queries h = refl
late_not (Some m) n a queries h = ap (λ (k : ℕ). drop k (a ∷ queries)) (below n m h)

module _ {W X : Type 0} (does : ℕ → Coming → W → Bool → W → Type 0) (answered : W → ℕ) (kept : W → List X) (gives : Asked → List X) where
  abbrev Gave : (ℕ → List Asked → List Asked) → W → List Coming → W → Type 0
  Gave part w comings v = (kept v ≡ kept w ++ flat_map gives (part (answered w) (begun comings))) × (answered v ≡ answered w + length (begun comings))

  nothing_gave : (part : ℕ → List Asked → List Asked) → ((n : ℕ) → part n [] ≡ []) → (w v : W) → w ≡ v → Gave part w [] v
  nothing_gave part empty w v same =
      (ap kept (sym same) ∙ sym (ap (λ (l : List Asked). kept w ++ flat_map gives l) (empty (answered w)) ∙ append-nil (kept w)), ap answered (sym same) ∙ omega arith)

  -- one that gives, and one that doesn't
  one_gave : (part : ℕ → List Asked → List Asked) (a : Asked) (comings : List Coming) (w m v : W) → answered m ≡ answered w + 1 → kept m ≡ kept w ++ gives a
      → part (answered w) (a ∷ begun comings) ≡ a ∷ part (answered w + 1) (begun comings) → Gave part m comings v → Gave part w (Coming.begins a ∷ comings) v
  one_gave part a comings w m v count more first rest = (
    rest.0
        ∙ (ap (λ (l : List X). l ++ flat_map gives (part (answered m) (begun comings))) more
        ∙ (append_assoc (kept w) (gives a) (flat_map gives (part (answered m) (begun comings)))
        ∙ (ap (λ (n : ℕ). kept w ++ (gives a ++ flat_map gives (part n (begun comings)))) count
        ∙ ap (λ (l : List Asked). kept w ++ flat_map gives l) (sym first)))),
    rest.1 ∙ omega (arith, count),
  )

  one_passed : (part : ℕ → List Asked → List Asked) (a : Asked) (comings : List Coming) (w m v : W) → answered m ≡ answered w + 1 → kept m ≡ kept w
      → part (answered w) (a ∷ begun comings) ≡ part (answered w + 1) (begun comings) → Gave part m comings v → Gave part w (Coming.begins a ∷ comings) v
  one_passed part a comings w m v count same first rest = (
    rest.0
        ∙ (ap (λ (l : List X). l ++ flat_map gives (part (answered m) (begun comings))) same
        ∙ (ap (λ (n : ℕ). kept w ++ flat_map gives (part n (begun comings))) count
        ∙ ap (λ (l : List Asked). kept w ++ flat_map gives l) (sym first))),
    rest.1 ∙ omega (arith, count),
  )

  one_cancelled : (part : ℕ → List Asked → List Asked) (a : Asked) (comings : List Coming) (w m v : W) → (answered m ≡ answered w) × (kept m ≡ kept w)
      → Gave part m comings v → Gave part w (Coming.cancels a ∷ comings) v
  one_cancelled part a comings w m v same rest = (
    rest.0
        ∙ (ap (λ (l : List X). l ++ flat_map gives (part (answered m) (begun comings))) same.1
        ∙ ap (λ (n : ℕ). kept w ++ flat_map gives (part n (begun comings))) same.0),
    rest.1 ∙ omega (arith, same.0),
  )

  early_none : (stop_at : Option ℕ) (n : ℕ) → early_from stop_at n [] ≡ []
  early_none None n = refl
  early_none (Some m) n = by (m - n)
    where
      by : (k : ℕ) → take {A = Asked} k [] ≡ []
      by zero = refl
      by (suc k) = refl

  late_none : (stop_at : Option ℕ) (n : ℕ) → late_from stop_at n [] ≡ []
  late_none None n = refl
  late_none (Some m) n = by (m - n)
    where
      by : (k : ℕ) → drop {A = Asked} k [] ≡ []
      by zero = refl
      by (suc k) = refl

  early_through : (stop_at : Option ℕ) → KeepsEarly does answered kept gives stop_at → (place : ℕ) (w v : W) (comings : List Coming) → ComesThrough does place w comings v → Gave (early_from stop_at) w comings v
  early_through stop_at keeps place w v [] through = nothing_gave (early_from stop_at) (early_none stop_at) w v through
  early_through stop_at keeps place w v (Coming.cancels a ∷ comings) through =
      one_cancelled (early_from stop_at) a comings w through.0 v (keeps.cancelled place a w through.0 through.1) (early_through stop_at keeps (place + 1) through.0 v comings through.2)
  early_through stop_at keeps place w v (Coming.begins a ∷ comings) through = by (is_early stop_at (answered w)) refl (early_through stop_at keeps (place + 1) through.0 v comings through.2)
    where
      by : (b : Bool) → is_early stop_at (answered w) ≡ b → Gave (early_from stop_at) through.0 comings v → Gave (early_from stop_at) w (Coming.begins a ∷ comings) v
      by true is rest = one_gave (early_from stop_at) a comings w through.0 v (keeps.counts place a w through.0 through.1) (keeps.early place a w through.0 through.1 is) (early_is stop_at (answered w) a (begun comings) is) rest
      by false is rest = one_passed (early_from stop_at) a comings w through.0 v (keeps.counts place a w through.0 through.1) (keeps.late place a w through.0 through.1 is) (early_not stop_at (answered w) a (begun comings) is) rest

  late_through : (stop_at : Option ℕ) → KeepsLate does answered kept gives stop_at → (place : ℕ) (w v : W) (comings : List Coming) → ComesThrough does place w comings v → Gave (late_from stop_at) w comings v
  late_through stop_at keeps place w v [] through = nothing_gave (late_from stop_at) (late_none stop_at) w v through
  late_through stop_at keeps place w v (Coming.cancels a ∷ comings) through =
      one_cancelled (late_from stop_at) a comings w through.0 v (keeps.cancelled place a w through.0 through.1) (late_through stop_at keeps (place + 1) through.0 v comings through.2)
  late_through stop_at keeps place w v (Coming.begins a ∷ comings) through = by (is_early stop_at (answered w)) refl (late_through stop_at keeps (place + 1) through.0 v comings through.2)
    where
      by : (b : Bool) → is_early stop_at (answered w) ≡ b → Gave (late_from stop_at) through.0 comings v → Gave (late_from stop_at) w (Coming.begins a ∷ comings) v
      by false is rest = one_gave (late_from stop_at) a comings w through.0 v (keeps.counts place a w through.0 through.1) (keeps.late place a w through.0 through.1 is) (late_is stop_at (answered w) a (begun comings) is) rest
      by true is rest = one_passed (late_from stop_at) a comings w through.0 v (keeps.counts place a w through.0 through.1) (keeps.early place a w through.0 through.1 is) (late_not stop_at (answered w) a (begun comings) is) rest

  -- from none answered
  from_none_early : (stop_at : Option ℕ) (n : ℕ) (queries : List Asked) → n ≡ 0 → early_from stop_at n queries ≡ early_of stop_at queries
  from_none_early None n queries e = refl
  from_none_early (Some m) n queries e = let whole : m - n ≡ m = omega arith in ap (λ (k : ℕ). take k queries) whole

  from_none_late : (stop_at : Option ℕ) (n : ℕ) (queries : List Asked) → n ≡ 0 → late_from stop_at n queries ≡ late_of stop_at queries
  from_none_late None n queries e = refl
  from_none_late (Some m) n queries e = let whole : m - n ≡ m = omega arith in ap (λ (k : ℕ). drop k queries) whole

  pub early_given : (stop_at : Option ℕ) → KeepsEarly does answered kept gives stop_at → (w v : W) (comings : List Coming) (queries : List Asked) → answered w ≡ 0 → filter_map begun_by comings ≡ queries
      → Came does 0 w comings v → (kept v ≡ kept w ++ flat_map gives (early_of stop_at queries)) × (answered v ≡ length queries)
  early_given stop_at keeps w v comings queries none are came =
      let gave = early_through stop_at keeps 0 w v comings came.through in (
        gave.0 ∙ (ap (λ (l : List Asked). kept w ++ flat_map gives l) (from_none_early stop_at (answered w) (begun comings) none) ∙ ap (λ (l : List Asked). kept w ++ flat_map gives (early_of stop_at l)) are),
        gave.1 ∙ (ap (λ (n : ℕ). n + length (begun comings)) none ∙ omega (arith, ap (λ (l : List Asked). length l) are)),
      )

  pub late_given : (stop_at : Option ℕ) → KeepsLate does answered kept gives stop_at → (w v : W) (comings : List Coming) (queries : List Asked) → answered w ≡ 0 → filter_map begun_by comings ≡ queries
      → Came does 0 w comings v → (kept v ≡ kept w ++ flat_map gives (late_of stop_at queries)) × (answered v ≡ length queries)
  late_given stop_at keeps w v comings queries none are came =
      let gave = late_through stop_at keeps 0 w v comings came.through in (
        gave.0 ∙ (ap (λ (l : List Asked). kept w ++ flat_map gives l) (from_none_late stop_at (answered w) (begun comings) none) ∙ ap (λ (l : List Asked). kept w ++ flat_map gives (late_of stop_at l)) are),
        gave.1 ∙ (ap (λ (n : ℕ). n + length (begun comings)) none ∙ omega (arith, ap (λ (l : List Asked). length l) are)),
      )

module _ {W : Type 0} (does : ℕ → Coming → W → Bool → W → Type 0) (relates : W → W → Type 0) where
  related_through : IsKeptByTurns does relates → (place : ℕ) (w v : W) (comings : List Coming) → ComesThrough does place w comings v → relates w v
  related_through kept place w v [] through = subst (λ (u : W). relates w u) through (kept.same w)
  related_through kept place w v (c ∷ comings) through =
      kept.joined w through.0 v (kept.each place c w true through.0 through.1) (related_through kept (place + 1) through.0 v comings through.2)

  pub came_related : IsKeptByTurns does relates → (place : ℕ) (w v : W) (comings : List Coming) → Came does place w comings v → relates w v
  came_related kept place w v comings came = related_through kept place w v comings came.through

  ends_related : IsKeptByTurns does relates → (place : ℕ) (comings : List Coming) (w v : W) → EndsAt does place comings w v → relates w v
  ends_related kept place [] w v h = subst (λ (u : W). relates w u) (sym h) (kept.same w)
  ends_related kept place (c ∷ comings) w v (inl h) = subst (λ (u : W). relates w u) (sym h) (kept.same w)
  ends_related kept place (c ∷ comings) w v (inr h) = kept.each place c w false v h

  pub cut_related : IsKeptByTurns does relates → (place : ℕ) (w v : W) (comings : List Coming) → IsCut does place w comings v → relates w v
  cut_related kept place w v comings cut =
      kept.joined w cut.last v (came_related kept place w cut.last cut.before cut.came) (ends_related kept (place + length cut.before) cut.after cut.last v cut.ends)
