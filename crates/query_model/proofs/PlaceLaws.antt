-- The places of a shard's documents.
use Rattle.std.proofs.Common.{◌≡◌, ℕ, zero, suc, ◌+◌, ◌*◌, ◌-◌, ◌%◌, ◌<◌, ◌≤◌, ◌⊎◌, inl, inr, List, [], ◌∷◌, Bool, true, false, cond, eqb, refl, sym, ap, ◌∙◌, arith}
use Rattle.std.specs.List.{slice_get}
use Rattle.std.proofs.lemmas.Bool.{cases_lt}
use Rattle.std.proofs.lemmas.Bool.Decides.{nat_tests}
use Rattle.std.proofs.lemmas.Nat.{mod-mul-add}
use Rattle.fan_base.specs.declared.doc.Doc.{Doc}
use Rattle.query_model.specs.Parts.{part_from, part_of}

eqb-is : (x y : ℕ) → eqb x y ≡ true → x ≡ y
eqb-is x y h = grind (arith, nat_tests)

eqb-isnt : (x y : ℕ) → eqb x y ≡ false → x ≡ y → ⊥
eqb-isnt x y h e = grind (arith, nat_tests)

nearer_place : (a k : ℕ) → suc (a + k) ≡ a + suc k
nearer_place a k = omega arith

first_place : (shards k : ℕ) → k ≡ 0 → 0 ≡ 0 * shards + k
first_place shards k here = omega arith

none_there : (i j : ℕ) → slice_get {X = Doc} [] i ≡ slice_get [] j
none_there i j = refl

module _ (shards number : ℕ) (below : number < shards) where
  -- the shard's next place comes k places behind one that leaves the rest r
  abbrev IsAhead : ℕ → ℕ → Type 0
  IsAhead r k = (k < shards) × ((k + r ≡ number) ⊎ (k + r ≡ number + shards))

  none_ahead : (r k : ℕ) → r ≡ number → r < shards → IsAhead r k → k ≡ 0
  none_ahead r k is small (few, inl e) = omega arith
  none_ahead r k is small (few, inr e) = absurd (omega arith)

  some_ahead : (r k : ℕ) → (r ≡ number → ⊥) → r < shards → IsAhead r k → 0 < k
  some_ahead r zero isnt small (few, inl e) = absurd (isnt (omega arith))
  some_ahead r zero isnt small (few, inr e) = absurd (omega arith)
  some_ahead r (suc k) isnt small ahead = omega arith

  -- from the shard's own place its next one is all the shards ahead
  round : (r : ℕ) → r ≡ number → r + 1 < shards → IsAhead (r + 1) (shards - 1)
  round r is more = (omega arith, inr (omega arith))

  round_end : (r : ℕ) → r ≡ number → r + 1 ≡ shards → IsAhead 0 (shards - 1)
  round_end r is last = (omega arith, inl (omega arith))

  nearer : (r k : ℕ) → r + 1 < shards → IsAhead r (suc k) → IsAhead (r + 1) k
  nearer r k more (few, inl e) = (omega arith, inl (omega arith))
  nearer r k more (few, inr e) = (omega arith, inr (omega arith))

  nearer_end : (r k : ℕ) → r + 1 ≡ shards → IsAhead r (suc k) → IsAhead 0 k
  nearer_end r k last (few, inl e) = absurd (omega arith)
  nearer_end r k last (few, inr e) = (omega arith, inl (omega arith))

  next_round : (q place : ℕ) (r : ℕ) → place ≡ q * shards + r → r + 1 ≡ shards → place + 1 ≡ suc q * shards + 0
  next_round q place r is last = grind arith

  same_round : (q place : ℕ) (r : ℕ) → place ≡ q * shards + r → place + 1 ≡ q * shards + (r + 1)
  same_round q place r is = omega arith

  one_round : (j k : ℕ) → 0 < shards → k ≡ shards - 1 → suc j * shards + 0 ≡ suc (j * shards + k)
  one_round j k some is = grind arith

  end_or_more : (r : ℕ) → r < shards → (r + 1 < shards) ⊎ (r + 1 ≡ shards)
  end_or_more r small = by (cases_lt (r + 1) shards)
    where
      by : (r + 1 < shards) ⊎ (shards ≤ r + 1) → (r + 1 < shards) ⊎ (r + 1 ≡ shards)
      by (inl more) = inl more
      by (inr last) = inr (omega arith)

  from_place : (docs : List Doc) (place q r k i : ℕ) → place ≡ q * shards + r → r < shards → IsAhead r k
      → slice_get (part_from place docs shards number) i ≡ slice_get docs (i * shards + k)
  from_place [] place q r k i is small ahead = none_there i (i * shards + k)
  from_place (d ∷ ds) place q r k i is small ahead = by (eqb (place % shards) number) refl (end_or_more r small) k i ahead (from_place ds (place + 1))
    where
      rest : place % shards ≡ r
      rest = ap (λ n. n % shards) is ∙ mod-mul-add q shards r small

      by : (b : Bool) → eqb (place % shards) number ≡ b → (r + 1 < shards) ⊎ (r + 1 ≡ shards) → (k i : ℕ) → IsAhead r k
          → ((q' r' k' j : ℕ) → place + 1 ≡ q' * shards + r' → r' < shards → IsAhead r' k'
          → slice_get (part_from (place + 1) ds shards number) j ≡ slice_get ds (j * shards + k'))
          → slice_get (cond b (d ∷ part_from (place + 1) ds shards number) (part_from (place + 1) ds shards number)) i ≡ slice_get (d ∷ ds) (i * shards + k)
      by true mine step k zero ahead further =
          let here : k ≡ 0 = none_ahead r k (sym rest ∙ eqb-is (place % shards) number mine) small ahead in
          ap (λ n. slice_get (d ∷ ds) n) (first_place shards k here)
      by true mine (inl more) k (suc j) ahead further =
          let is_mine : r ≡ number = sym rest ∙ eqb-is (place % shards) number mine in
          let here : k ≡ 0 = none_ahead r k is_mine small ahead in
          further q (r + 1) (shards - 1) j (same_round q place r is) more (round r is_mine more)
          ∙ (ap (λ n. slice_get (d ∷ ds) n) (sym (one_round j (shards - 1) (omega arith) refl)) ∙ ap (λ n. slice_get (d ∷ ds) (suc j * shards + n)) (sym here))
      by true mine (inr last) k (suc j) ahead further =
          let is_mine : r ≡ number = sym rest ∙ eqb-is (place % shards) number mine in
          let here : k ≡ 0 = none_ahead r k is_mine small ahead in
          further (suc q) 0 (shards - 1) j (next_round q place r is last) (omega arith) (round_end r is_mine last)
          ∙ (ap (λ n. slice_get (d ∷ ds) n) (sym (one_round j (shards - 1) (omega arith) refl)) ∙ ap (λ n. slice_get (d ∷ ds) (suc j * shards + n)) (sym here))
      by false other step zero i ahead further = absurd (omega (arith, some_ahead r 0 (λ e. eqb-isnt (place % shards) number other (rest ∙ e)) small ahead))
      by false other (inl more) (suc k) i ahead further =
          further q (r + 1) k i (same_round q place r is) more (nearer r k more ahead)
          ∙ ap (λ n. slice_get (d ∷ ds) n) (nearer_place (i * shards) k)
      by false other (inr last) (suc k) i ahead further =
          further (suc q) 0 k i (next_round q place r is last) (omega arith) (nearer_end r k last ahead)
          ∙ ap (λ n. slice_get (d ∷ ds) n) (nearer_place (i * shards) k)

-- the documents of a shard are those at the places that leave its number
pub part_places : (docs : List Doc) (shards number i : ℕ) → number < shards → slice_get (part_of docs shards number) i ≡ slice_get docs (i * shards + number)
part_places docs shards number i below = from_place shards number below docs 0 0 0 number i (omega arith) (omega arith) (below, inl (omega arith))
