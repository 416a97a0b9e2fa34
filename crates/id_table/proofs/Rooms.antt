-- New cells, and what is put into them.
use Rattle.std.specs.List.{count_by}
use Rattle.std.proofs.Common.{◌≡◌, ℕ, suc, ◌+◌, ◌*◌, ◌^◌, ◌<◌, ◌≤◌, Bool, true, cond, List, [], ◌∷◌, ◌++◌, Option, None, length, take, drop, replicate, sym, ap, subst, ◌∙◌, arith, take_at, pow_mono, zero-add, IsPermutation}
use Rattle.std.proofs.lemmas.List.{length-replicate, get_or-replicate, append_assoc, append-nil}
use Rattle.std.proofs.lemmas.List.Concat.{flat_map-append}
use Rattle.std.proofs.lemmas.List.Sorted.{IsPermutation-trans}
use Rattle.std.proofs.lemmas.List.Sums.{sum_by-append}
use Rattle.std.proofs.Math.Nat.{pow-suc}
use Rattle.id_table.specs.Pairs.{has_id}
use Rattle.id_table.specs.declared.cell.Cell.{Cell}
use Rattle.id_table.specs.Cells.{id_of, mark_of, mark_at, pair_of, pairs_of, counted, held, filled}
use Rattle.id_table.specs.Probed.{IsOnce, IsProbed}
use Rattle.id_table.specs.Table.{IsTable, HasRoom}
use Rattle.id_table.proofs.Counts.{by_same, counted_own, counted_filled, held_pairs, held-replicate, none_held, filled_within}
use Rattle.id_table.proofs.Orders.{under, held_same}
use Rattle.id_table.proofs.Values.{as_many}

twice : (bits : ℕ) → 2 ^ (bits + 1) ≡ 2 ^ bits * 2
twice bits = let e : bits + 1 ≡ suc bits = omega arith in ap (λ (n : ℕ). 2 ^ n) e ∙ pow-suc 2 bits

size_more : (bits : ℕ) → 2 < bits → 2 ≤ 2 ^ bits
size_more bits some = let least : 0 < bits = omega arith in pow_mono least

module _ {V : Type 0} where
  -- a vector whose cells were lent and came back
  pub given_back : (ws xs : List (Option (Cell V))) (n : ℕ) → length ws ≡ n → take n (ws ++ drop (length ws) xs) ≡ ws
  given_back ws xs n size = take_at ws (drop (length ws) xs) n size

  pub fresh_probed : (bits : ℕ) → 2 < bits → bits < 57 → IsProbed {V = V} bits (replicate (3 * 2 ^ bits) None)
  fresh_probed bits some within =
      let size = length-replicate {A = Option (Cell V)} (3 * 2 ^ bits) None in
      record {
        sized = record { size = size; some = some; within = within };
        sparse = let none = held-replicate (λ (pair : ℕ × V). true) (3 * 2 ^ bits) in omega arith;
        once = λ id. let none : held {V = V} (has_id id) (replicate (3 * 2 ^ bits) None) ≡ 0 = held-replicate (has_id id) (3 * 2 ^ bits) in omega arith;
        reached = λ k j hk hj full near apart.
            let none : mark_at {V = V} (replicate (3 * 2 ^ bits) None) k ≡ 0 = ap mark_of (get_or-replicate (3 * 2 ^ bits) k None None (omega arith)) in
            absurd (omega arith);
      }

  -- the last of the old cells is carried

  -- as many as in the old cells and the new ones
  held_both : (test : ℕ × V → Bool) (all cells old : List (Option (Cell V))) → IsPermutation (pairs_of old ++ pairs_of cells) (pairs_of all)
      → held test old + held test cells ≡ held test all
  held_both test all cells old same =
      let many = as_many (pairs_of old ++ pairs_of cells) (pairs_of all) same test in
      let joined : count_by test (pairs_of old ++ pairs_of cells) ≡ count_by test (pairs_of old) + count_by test (pairs_of cells)
      = sum_by-append (λ p. cond (test p) 1 0) (pairs_of old) (pairs_of cells) in
      let a = held_pairs test all in
      let b = held_pairs test cells in
      let c = held_pairs test old in
      omega arith

  pub held_last : (test : ℕ × V → Bool) (cells rest : List (Option (Cell V))) (cell : Option (Cell V)) → cells ≡ rest ++ cell ∷ []
      → held test cells ≡ held test rest + counted test cell
  held_last test cells rest cell e =
      ap (held test) e ∙ sum_by-append (counted test) rest (cell ∷ []) ∙ ap (λ (n : ℕ). held test rest + n) (zero-add (counted test cell))

  pub carry_free : (all cells old rest : List (Option (Cell V))) (cell : Option (Cell V)) → IsOnce all → old ≡ rest ++ cell ∷ []
      → IsPermutation (pairs_of old ++ pairs_of cells) (pairs_of all) → 0 < mark_of cell → held (has_id (id_of cell)) cells ≡ 0
  carry_free all cells old rest cell once e same some =
      let both = held_both (has_id (id_of cell)) all cells old same in
      let last = held_last (has_id (id_of cell)) old rest cell e in
      let own = counted_own cell some in
      let most = once (id_of cell) in
      omega arith

  pub carry_room : (all cells old rest : List (Option (Cell V))) (cell : Option (Cell V)) (n : ℕ) → 3 * filled all ≤ 2 * n → old ≡ rest ++ cell ∷ []
      → IsPermutation (pairs_of old ++ pairs_of cells) (pairs_of all) → 0 < mark_of cell → 3 * (filled cells + 1) ≤ 2 * n
  carry_room all cells old rest cell n room e same some =
      let both = held_both (λ (pair : ℕ × V). true) all cells old same in
      let last = held_last (λ (pair : ℕ × V). true) old rest cell e in
      let own = counted_filled cell some in
      omega arith

  pairs_last : (rest : List (Option (Cell V))) (cell : Option (Cell V)) → pairs_of (rest ++ cell ∷ []) ≡ pairs_of rest ++ pair_of cell
  pairs_last rest cell = flat_map-append pair_of rest (cell ∷ []) ∙ ap (λ (us : List (ℕ × V)). pairs_of rest ++ us) (append-nil (pair_of cell))

  pub carry_step : (all cells new old rest : List (Option (Cell V))) (cell : Option (Cell V)) → old ≡ rest ++ cell ∷ []
      → IsPermutation (pairs_of old ++ pairs_of cells) (pairs_of all) → IsPermutation (pairs_of new) (pair_of cell ++ pairs_of cells)
      → IsPermutation (pairs_of rest ++ pairs_of new) (pairs_of all)
  carry_step all cells new old rest cell e same more =
      let parts : pairs_of old ≡ pairs_of rest ++ pair_of cell = ap pairs_of e ∙ pairs_last rest cell in
      IsPermutation-trans (pairs_of rest ++ pairs_of new) (pairs_of old ++ pairs_of cells) (pairs_of all)
      (subst (λ (us : List (ℕ × V)). IsPermutation (pairs_of rest ++ pairs_of new) (us ++ pairs_of cells)) (sym parts)
      (subst (λ (us : List (ℕ × V)). IsPermutation (pairs_of rest ++ pairs_of new) us) (sym (append_assoc (pairs_of rest) (pair_of cell) (pairs_of cells)))
      (under (pairs_of rest) (pairs_of new) (pair_of cell ++ pairs_of cells) more)))
      same

  -- the fields of a table

  pub table_once : (bits len : ℕ) (cells : List (Option (Cell V))) → IsTable bits len cells → IsOnce cells
  table_once bits len cells table =
      by_same (length cells) 0
      (λ e. λ id. let none = none_held id cells (λ k h. absurd (omega arith)) in omega arith)
      (λ ne. (table.probed (omega arith)).once)

  first_room : (bits len : ℕ) (cells : List (Option (Cell V))) → IsTable bits len cells → length cells ≡ 0 → len ≡ 0
  first_room bits len cells table none =
      let within = filled_within cells in
      let same = table.len_is in
      omega arith

  pub room_first : (bits len : ℕ) (cells : List (Option (Cell V))) → IsTable bits len cells → length cells ≡ 0 → len + 1 ≤ 2 * 2 ^ 3
  room_first bits len cells table none = let zero = first_room bits len cells table none in omega arith

  pub room_more : (bits len : ℕ) (cells : List (Option (Cell V))) → IsTable bits len cells → 0 < length cells → len + 1 ≤ 2 * 2 ^ (bits + 1)
  room_more bits len cells table some =
      let probed = table.probed some in
      let size = probed.sized.size in
      let sparse = probed.sparse in
      let same = table.len_is in
      let double = twice bits in
      let more = size_more bits probed.sized.some in
      omega arith

  pub room_new : (bits len more : ℕ) (cells new : List (Option (Cell V))) → IsTable bits len cells → IsProbed more new
      → IsPermutation (pairs_of new) (pairs_of cells) → len + 1 ≤ 2 * 2 ^ more → HasRoom more len new
  room_new bits len more cells new table probed same room =
      let all = held_same (λ (pair : ℕ × V). true) new cells same in
      let size = probed.sized.size in
      let len_is = table.len_is in
      record { len_is = omega arith; probed = probed; room = omega arith }
