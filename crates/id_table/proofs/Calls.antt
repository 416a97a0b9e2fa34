-- What the calls of a table need: of its fields, and of the list that contracts see.
use Rattle.std.proofs.Common.{◌≡◌, ◌≢◌, ℕ, ◌+◌, ◌-◌, ◌<◌, ◌∷◌, [], true, cond, nat_eq, List, Option, Some, None, length, get_or, set, refl, sym, ap, subst, ◌∙◌, arith, IsPermutation}
use Rattle.std.proofs.lemmas.List.{nil_from_length}
use Rattle.std.proofs.lemmas.List.Sorted.{IsPermutation-trans}
use Rattle.id_table.specs.declared.cell.Cell.{Cell}
use Rattle.id_table.specs.Pairs.{has_id, value_of, AreDistinct}
use Rattle.id_table.specs.Cells.{id_of, mark_of, mark_at, pairs_of, held, filled}
use Rattle.id_table.specs.Probed.{IsOnce, IsProbed, EndsLook}
use Rattle.id_table.specs.Table.{IsTable, HasRoom}
use Rattle.id_table.proofs.Counts.{counted_filled, held_pairs, filled_within}
use Rattle.id_table.proofs.Orders.{under, held_with, held_same, taken_pairs}
use Rattle.id_table.proofs.Rooms.{table_once}
use Rattle.id_table.proofs.Values.{count_all, as_many, same_values, value_here, no_value, none_of, added_values, added_len, left_values}

module _ {V : Type 0} where
  length_pairs : (cells : List (Option (Cell V))) → length (pairs_of cells) ≡ filled cells
  length_pairs cells = sym (count_all (pairs_of cells)) ∙ held_pairs (λ (pair : ℕ × V). true) cells

  pub once_distinct : (cells : List (Option (Cell V))) → IsOnce cells → AreDistinct (pairs_of cells)
  once_distinct cells once = λ id. let e = held_pairs (has_id id) cells in let was = once id in omega arith

  -- a pair more

  pub record HasMore (old new : List (ℕ × V)) (id : ℕ) (value : V) : Type 0 where
    pub values : (q : ℕ) → value_of new q ≡ cond (nat_eq q id) (Some value) (value_of old q)
    pub same : IsPermutation new ((id, value) ∷ old)
    pub len : length new ≡ length old + 1
    pub distinct : AreDistinct new

  pub put_more : (old room new : List (Option (Cell V))) (pairs : List (ℕ × V)) (bits id : ℕ) (value : V) → pairs_of old ≡ pairs
      → IsPermutation (pairs_of room) (pairs_of old) → IsPermutation (pairs_of new) ((id, value) ∷ pairs_of room) → IsProbed bits new
      → HasMore pairs (pairs_of new) id value
  put_more old room new pairs bits id value view same more probed =
      let all : IsPermutation (pairs_of new) ((id, value) ∷ pairs) = subst (λ (ps : List (ℕ × V)). IsPermutation (pairs_of new) ((id, value) ∷ ps)) view
      (IsPermutation-trans (pairs_of new) ((id, value) ∷ pairs_of room) ((id, value) ∷ pairs_of old) more
      (under ((id, value) ∷ []) (pairs_of room) (pairs_of old) same)) in
      record {
        values = added_values pairs (pairs_of new) id value all (once_distinct new probed.once);
        same = all;
        len = added_len pairs (pairs_of new) id value all;
        distinct = once_distinct new probed.once;
      }

  pub put_table : (bits len : ℕ) (cells new : List (Option (Cell V))) (cell : Cell V) → HasRoom bits len cells → IsProbed bits new
      → IsPermutation (pairs_of new) ((cell.id, cell.value) ∷ pairs_of cells) → IsTable bits (len + 1) new
  put_table bits len cells new cell room probed more =
      let one = held_with (λ (pair : ℕ × V). true) new cells (Some cell) more in
      let own = counted_filled (Some cell) (omega arith) in
      let same = room.len_is in
      record { len_is = omega arith; probed = λ _. probed }

  -- a pair less

  pub record HasLess (old new : List (ℕ × V)) (id : ℕ) (value : V) : Type 0 where
    pub was : Some value ≡ value_of old id
    pub values : (q : ℕ) → value_of new q ≡ cond (nat_eq q id) None (value_of old q)
    pub same : IsPermutation old ((id, value) ∷ new)
    pub len : length old ≡ length new + 1
    pub distinct : AreDistinct new

  module _ (bits len : ℕ) (cells : List (Option (Cell V))) (pairs : List (ℕ × V)) (table : IsTable bits len cells) (view : pairs_of cells ≡ pairs) where
    pub len_of : len ≡ length pairs
    len_of = table.len_is ∙ sym (length_pairs cells) ∙ ap length view

    pub distinct_of : AreDistinct pairs
    distinct_of = subst AreDistinct view (once_distinct cells (table_once bits len cells table))

    pub zero_there : (id : ℕ) → len ≡ 0 → value_of pairs id ≡ None
    zero_there id zero =
        let e : pairs ≡ [] = nil_from_length pairs (sym len_of ∙ zero) in
        subst (λ (ps : List (ℕ × V)). value_of ps id ≡ None) (sym e) refl

    pub some_there : len ≢ 0 → 0 < length cells
    some_there some =
        let within = filled_within cells in
        let same = table.len_is in
        omega arith

    pub missed_there : (id at : ℕ) → EndsLook bits cells id at → mark_at cells at ≡ 0 → value_of pairs id ≡ None
    missed_there id at ends empty =
        subst (λ (ps : List (ℕ × V)). value_of ps id ≡ None) view (no_value (pairs_of cells) id (held_pairs (has_id id) cells ∙ ends.missed empty))

    -- the cell at which a look ended has the id
    own_id : (id at : ℕ) (cell : Cell V) → EndsLook bits cells id at → get_or cells at None ≡ Some cell → id ≡ cell.id
    own_id id at cell ends e =
        let mark : mark_at cells at ≡ 1 = ap mark_of e in
        sym (ends.found (omega arith)) ∙ ap id_of e

    pub found_there : (id at : ℕ) (cell : Cell V) → EndsLook bits cells id at → get_or cells at None ≡ Some cell → value_of pairs id ≡ Some cell.value
    found_there id at cell ends e =
        let parts = taken_pairs cells at cell ends.within e in
        let many = as_many (pairs_of cells) ((cell.id, cell.value) ∷ pairs_of (set cells at None)) parts (has_id id) in
        let once = once_distinct cells (table_once bits len cells table) id in
        subst (λ (ps : List (ℕ × V)). value_of ps id ≡ Some cell.value) view
        (same_values (pairs_of cells) ((cell.id, cell.value) ∷ pairs_of (set cells at None)) id parts (omega arith)
        ∙ value_here id (cell.id, cell.value) (pairs_of (set cells at None)) (own_id id at cell ends e))

    -- an id that isn't there
    pub free_there : (id : ℕ) (room : List (Option (Cell V))) → IsPermutation (pairs_of room) (pairs_of cells) → value_of pairs id ≡ None
        → held (has_id id) room ≡ 0
    free_there id room same none =
        held_same (has_id id) room cells same ∙ sym (held_pairs (has_id id) cells)
        ∙ none_of (pairs_of cells) id (subst (λ (ps : List (ℕ × V)). value_of ps id ≡ None) (sym view) none)

    -- an id is taken out

    pub take_less : (new : List (Option (Cell V))) (id at : ℕ) (cell : Cell V) → EndsLook bits cells id at → get_or cells at None ≡ Some cell
        → IsPermutation (pairs_of cells) ((cell.id, cell.value) ∷ pairs_of new) → IsProbed bits new → HasLess pairs (pairs_of new) id cell.value
    take_less new id at cell ends e less probed =
        let all : IsPermutation pairs ((id, cell.value) ∷ pairs_of new) = subst (λ (i : ℕ). IsPermutation pairs ((i, cell.value) ∷ pairs_of new)) (sym (own_id id at cell ends e))
        (subst (λ (ps : List (ℕ × V)). IsPermutation ps ((cell.id, cell.value) ∷ pairs_of new)) view less) in
        record {
          was = sym (found_there id at cell ends e);
          values = left_values pairs (pairs_of new) id cell.value all distinct_of;
          same = all;
          len = added_len (pairs_of new) pairs id cell.value all;
          distinct = once_distinct new probed.once;
        }

    pub taken_table : (new : List (Option (Cell V))) (cell : Cell V) → IsPermutation (pairs_of cells) ((cell.id, cell.value) ∷ pairs_of new) → IsProbed bits new
        → IsTable bits (len - 1) new
    taken_table new cell less probed =
        let one = held_with (λ (pair : ℕ × V). true) cells new (Some cell) less in
        let own = counted_filled (Some cell) (omega arith) in
        let same = table.len_is in
        record { len_is = omega arith; probed = λ _. probed }
