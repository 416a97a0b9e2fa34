-- A cell holds another value of the same id.
use Rattle.std.proofs.Common.{◌≡◌, ◌≢◌, ℕ, ◌<◌, ◌≤◌, Bool, true, false, cond, nat_eq, List, [], ◌∷◌, ◌++◌, Option, Some, None, length, get_or, set, zero, suc, refl, sym, ap, subst, ◌∙◌, arith, length-set, IsPermutation, eq-eqb, ne_eqb, ⊎_elim}
use Rattle.std.specs.Prelude.{option_map}
use Rattle.std.proofs.lemmas.Bool.{cases_eq}
use Rattle.std.proofs.lemmas.List.{set-set}
use Rattle.std.proofs.lemmas.List.Sorted.{IsPermutation-sym, IsPermutation-trans}
use Rattle.std.proofs.lemmas.List.Sums.{sum_by-cons}
use Rattle.std.proofs.lemmas.Option.{none-some, same_Some}
use Rattle.id_table.specs.declared.cell.Cell.{Cell}
use Rattle.id_table.specs.Cells.{id_at, id_of, mark_at, mark_of, counted, pair_of, held, filled, pairs_of, renumbered, replaced}
use Rattle.id_table.specs.Pairs.{has_id, number_of, value_of, with_number, AreDistinct, IsRenumbered}
use Rattle.id_table.specs.Probed.{IsProbed, IsReached, EndsLook}
use Rattle.id_table.specs.Ring.{distance, home_of}
use Rattle.id_table.specs.Table.{IsTable}
use Rattle.id_table.proofs.Calls.{distinct_of, found_there, missed_there, once_distinct, some_there, zero_there}
use Rattle.id_table.proofs.Counts.{by_same, counted_filled}
use Rattle.id_table.proofs.Orders.{filled_pairs, held_with, swap_fronts, taken_pairs, under}
use Rattle.id_table.proofs.Probing.{id_other, id_same, mark_other, mark_same, sized_set}
use Rattle.id_table.proofs.Values.{added_len, added_values, left_values}

module _ {V : Type 0} where
  same_reached : (bits gap : ℕ) (cells new : List (Option (Cell V))) → length new ≡ length cells → ((k : ℕ) → mark_at new k ≡ mark_at cells k)
      → ((k : ℕ) → id_at new k ≡ id_at cells k) → IsReached bits cells gap → IsReached bits new gap
  same_reached bits gap cells new len marks ids reached k j hk hj some near other =
      let near_by : distance (length cells) (home_of bits (id_at new k)) j < distance (length cells) (home_of bits (id_at new k)) k
      = subst (λ (n : ℕ). distance n (home_of bits (id_at new k)) j < distance n (home_of bits (id_at new k)) k) len near in
      let near_here = subst (λ (i : ℕ). distance (length cells) (home_of bits i) j < distance (length cells) (home_of bits i) k) (ids k) near_by in
      subst (λ (m : ℕ). 0 < m) (sym (marks j))
      (reached k j (omega (arith, hk, len)) (omega (arith, hj, len)) (subst (λ (m : ℕ). 0 < m) (marks k) some) near_here other)

  module _ (cells : List (Option (Cell V))) (at : ℕ) (cell new : Cell V) (within : at < length cells) (was : get_or cells at None ≡ Some cell) where
    emptied : List (Option (Cell V))
    emptied = set cells at None

    pub replaced_len : length (replaced cells at new) ≡ length cells
    replaced_len = length-set (set cells at None) at (Some new) ∙ length-set cells at None

    within_emptied : at < length (set cells at None)
    within_emptied = omega (arith, within, length-set cells at None)

    pub replaced_pairs : IsPermutation (pairs_of (replaced cells at new)) ((new.id, new.value) ∷ pairs_of (set cells at None))
    replaced_pairs = filled_pairs (set cells at None) at (Some new) within_emptied (mark_same cells at None within)

    pub old_pairs : IsPermutation (pairs_of cells) ((cell.id, cell.value) ∷ pairs_of (set cells at None))
    old_pairs = taken_pairs cells at cell within was

    same_marks : (k : ℕ) → mark_at (replaced cells at new) k ≡ mark_at cells k
    same_marks k =
        by_same k at
        (λ e. subst (λ (i : ℕ). mark_at (replaced cells at new) i ≡ mark_at cells i) (sym e) (mark_same (set cells at None) at (Some new) within_emptied ∙ sym (ap mark_of was)))
        (λ ne. mark_other (set cells at None) at (Some new) k ne ∙ mark_other cells at None k ne)

    module _ (same : new.id ≡ cell.id) where
      same_ids : (k : ℕ) → id_at (replaced cells at new) k ≡ id_at cells k
      same_ids k =
          by_same k at
          (λ e. subst (λ (i : ℕ). id_at (replaced cells at new) i ≡ id_at cells i) (sym e) (id_same (set cells at None) at (Some new) within_emptied ∙ (same ∙ sym (ap id_of was))))
          (λ ne. id_other (set cells at None) at (Some new) k ne ∙ id_other cells at None k ne)

      same_counted : (id : ℕ) → counted (has_id id) (Some new) ≡ counted (has_id id) (Some cell)
      unfolding counted
      same_counted id = ap (λ (i : ℕ). cond (nat_eq id i) 1 0) same

      same_held : (id : ℕ) → held (has_id id) (replaced cells at new) ≡ held (has_id id) cells
      same_held id =
          omega (
            arith,
            held_with (has_id id) (replaced cells at new) (set cells at None) (Some new) replaced_pairs,
            held_with (has_id id) cells (set cells at None) (Some cell) old_pairs,
            same_counted id,
          )

      same_filled : filled (replaced cells at new) ≡ filled cells
      same_filled =
          omega (
            arith,
            held_with (λ (pair : ℕ × V). true) (replaced cells at new) (set cells at None) (Some new) replaced_pairs,
            held_with (λ (pair : ℕ × V). true) cells (set cells at None) (Some cell) old_pairs,
            counted_filled (Some new) (omega arith),
            counted_filled (Some cell) (omega arith),
          )

      pub replaced_probed : (bits : ℕ) → IsProbed bits cells → IsProbed bits (replaced cells at new)
      replaced_probed bits probed = record {
        sized = sized_set bits (set cells at None) at (Some new) (sized_set bits cells at None probed.sized);
        sparse = omega (arith, probed.sparse, same_filled, replaced_len);
        once = λ id. omega (arith, probed.once id, same_held id);
        reached = subst (λ (gap : ℕ). IsReached bits (replaced cells at new) gap) (sym replaced_len)
            (same_reached bits (length cells) cells (replaced cells at new) replaced_len same_marks same_ids probed.reached);
      }

      pub replaced_table : (bits len : ℕ) → IsTable bits len cells → IsTable bits len (replaced cells at new)
      replaced_table bits len table = record {
        len_is = table.len_is ∙ sym same_filled;
        probed = λ some. replaced_probed bits (table.probed (omega (arith, some, replaced_len)));
      }

inner_cond : {O : Type 0} → (b : Bool) (x y z : O) → cond b x (cond b y z) ≡ cond b x z
inner_cond true x y z = refl
inner_cond false x y z = refl

-- where two lists come to the same but for one of each, each has what the other one has with its own
exchanged : {A : Type 0} → (x y : A) (old new rest : List A) → IsPermutation old (x ∷ rest) → IsPermutation new (y ∷ rest) → IsPermutation (x ∷ new) (y ∷ old)
exchanged x y old new rest less more =
    IsPermutation-trans (x ∷ new) (x ∷ y ∷ rest) (y ∷ old)
    (under (x ∷ []) new (y ∷ rest) more)
    (IsPermutation-trans (x ∷ y ∷ rest) (y ∷ x ∷ rest) (y ∷ old)
    (swap_fronts (x ∷ []) (y ∷ []) rest)
    (under (y ∷ []) (x ∷ rest) old (IsPermutation-sym old (x ∷ rest) less)))

module _ {X : Type 0} where
  counted_own : (cell : Cell (ℕ × X)) (id : ℕ) → id ≡ cell.id → counted (has_id id) (Some cell) ≡ 1
  unfolding counted
  counted_own cell id e = rw (eq-eqb id cell.id e) refl

  -- a cell that has the id is counted
  there_once : (cells : List (Option (Cell (ℕ × X)))) (at : ℕ) (cell : Cell (ℕ × X)) → at < length cells → get_or cells at None ≡ Some cell
      → 0 < held (has_id cell.id) cells
  there_once cells at cell low is =
      omega (
        arith,
        held_with (has_id cell.id) cells (set cells at None) (Some cell) (old_pairs cells at cell cell low is),
        counted_own cell cell.id refl,
      )

  -- another number in the cell of an id is another number in the list of the pairs
  numbered_pairs : (cells : List (Option (Cell (ℕ × X)))) (at number : ℕ) (cell : Cell (ℕ × X)) → at < length cells → get_or cells at None ≡ Some cell
      → held (has_id cell.id) cells ≤ 1 → pairs_of (replaced cells at (renumbered cell number)) ≡ with_number (pairs_of cells) cell.id number
  numbered_pairs [] at number cell low is once = absurd (none-some cell is)
  numbered_pairs (c ∷ cells) zero number cell low is once =
      sym (ap (λ (o : Option (Cell (ℕ × X))). with_number (pair_of o ++ pairs_of cells) cell.id number) is ∙ first)
    where
      first : with_number ((cell.id, cell.value) ∷ pairs_of cells) cell.id number ≡ (cell.id, (number, cell.value.1)) ∷ pairs_of cells
      first = rw (eq-eqb cell.id cell.id refl) refl
  numbered_pairs (None ∷ cells) (suc at) number cell low is once =
      numbered_pairs cells at number cell (omega (arith, low)) is (omega (arith, once, sum_by-cons (counted (has_id cell.id)) None cells))
  numbered_pairs (Some other ∷ cells) (suc at) number cell low is once =
      let below : at < length cells = omega (arith, low) in
      let split = sum_by-cons (counted (has_id cell.id)) (Some other) cells in
      let apart : cell.id ≢ other.id = λ e. omega (arith, once, split, counted_own other cell.id e, there_once cells at cell below is) in
      ap (λ ps. (other.id, other.value) ∷ ps) (numbered_pairs cells at number cell below is (omega (arith, once, split))) ∙ sym (later apart)
    where
      later : cell.id ≢ other.id → with_number ((other.id, other.value) ∷ pairs_of cells) cell.id number ≡ (other.id, other.value) ∷ with_number (pairs_of cells) cell.id number
      later ne = rw (ne_eqb cell.id other.id ne) refl

  -- a number that is written where it is
  pub written_there : (cells : List (Option (Cell (ℕ × X)))) (at number : ℕ) (own cell : Cell (ℕ × X)) → get_or cells at None ≡ Some own → get_or cells at None ≡ Some cell
      → set cells at (Some (renumbered own number)) ≡ replaced cells at (renumbered cell number)
  written_there cells at number own cell here is =
      ap (λ (c : Cell (ℕ × X)). set cells at (Some (renumbered c number))) (same_Some own cell (sym here ∙ is)) ∙ sym (set-set cells at None (Some (renumbered cell number)))

  module _ (bits len : ℕ) (cells : List (Option (Cell (ℕ × X)))) (pairs : List (ℕ × (ℕ × X))) (table : IsTable bits len cells) (view : pairs_of cells ≡ pairs) where
    pub number_set : (id at number : ℕ) (cell : Cell (ℕ × X)) → EndsLook bits cells id at → get_or cells at None ≡ Some cell → IsProbed bits cells
        → IsRenumbered pairs (pairs_of (replaced cells at (renumbered cell number))) id number
    number_set id at number cell ends was probed =
        let new : Cell (ℕ × X) = renumbered cell number in
        let rest : List (ℕ × (ℕ × X)) = pairs_of (set cells at None) in
        let now : List (ℕ × (ℕ × X)) = pairs_of (replaced cells at new) in
        let mark : mark_at cells at ≡ 1 = ap mark_of was in
        let own : id ≡ cell.id = sym (ends.found (omega (arith, mark))) ∙ ap id_of was in
        let found : value_of pairs id ≡ Some cell.value = found_there bits len cells pairs table view id at cell ends was in
        let more : IsPermutation now ((id, new.value) ∷ rest) = subst (λ (i : ℕ). IsPermutation now ((i, new.value) ∷ rest)) (sym own) (replaced_pairs cells at cell new ends.within was) in
        let less : IsPermutation pairs ((id, cell.value) ∷ rest) =
        subst (λ (i : ℕ). IsPermutation pairs ((i, cell.value) ∷ rest)) (sym own)
        (subst (λ (ps : List (ℕ × (ℕ × X))). IsPermutation ps ((cell.id, cell.value) ∷ rest)) view (old_pairs cells at cell new ends.within was)) in
        let distinct : AreDistinct now = once_distinct (replaced cells at new) (replaced_probed cells at cell new ends.within was refl bits probed).once in
        let is_own : AreDistinct pairs = distinct_of bits len cells pairs table view in
        let plain : (q : ℕ) → value_of now q ≡ cond (nat_eq q id) (Some new.value) (value_of pairs q) =
        λ q. added_values rest now id new.value more distinct q
        ∙ (ap (λ (o : Option (ℕ × X)). cond (nat_eq q id) (Some new.value) o) (left_values pairs rest id cell.value less is_own q)
        ∙ inner_cond (nat_eq q id) (Some new.value) None (value_of pairs q)) in
        let renamed : Option (ℕ × X) → Option (ℕ × X) = option_map (λ (value : ℕ × X). (number, value.1)) in
        record {
          list = numbered_pairs cells at number cell ends.within was (probed.once cell.id)
              ∙ (ap (λ (i : ℕ). with_number (pairs_of cells) i number) (sym own) ∙ ap (λ (ps : List (ℕ × (ℕ × X))). with_number ps id number) view);
          values = λ q.
              by_same q id
              (λ e.
              subst (λ (i : ℕ). value_of now i ≡ cond (nat_eq i id) (renamed (value_of pairs i)) (value_of pairs i)) (sym e)
              (plain id ∙ ap (λ (o : Option (ℕ × X)). cond (nat_eq id id) o (value_of pairs id)) (sym (ap renamed found))))
              (λ ne. plain q ∙ rw (ne_eqb q id ne) refl);
          pairs = λ value is.
              let e : cell.value ≡ value = same_Some _ _ (sym found ∙ is) in
              subst (λ (v : ℕ × X). IsPermutation ((id, v) ∷ now) ((id, (number, v.1)) ∷ pairs)) e (exchanged (id, cell.value) (id, new.value) pairs now rest less more);
          len = omega (arith, added_len rest now id new.value more, added_len rest pairs id cell.value less);
          distinct = distinct;
        }

    pub number_table : (id at number : ℕ) (cell : Cell (ℕ × X)) → EndsLook bits cells id at → get_or cells at None ≡ Some cell
        → IsTable bits len (replaced cells at (renumbered cell number))
    number_table id at number cell ends was = replaced_table cells at cell (renumbered cell number) ends.within was refl bits len table

    pub some_cells : (id : ℕ) → value_of pairs id ≢ None → 0 < length cells
    some_cells id held = some_there bits len cells pairs table view (λ (none : len ≡ 0). held (zero_there bits len cells pairs table view id none))

    -- a cell that isn't empty
    record IsFilled (o : Option (Cell (ℕ × X))) : Type 0 where
      pub cell : Cell (ℕ × X)
      pub is : o ≡ Some cell

    filled_or : (o : Option (Cell (ℕ × X))) → (mark_of o ≡ 0 → ⊥) → IsFilled o
    filled_or None some = absurd (some refl)
    filled_or (Some cell) some = record { cell = cell; is = refl }

    held_cell : (id at : ℕ) → EndsLook bits cells id at → value_of pairs id ≢ None → IsFilled (get_or cells at None)
    held_cell id at ends held = filled_or (get_or cells at None) (λ empty. held (missed_there bits len cells pairs table view id at ends empty))

    pub held_mark : (id at : ℕ) → EndsLook bits cells id at → value_of pairs id ≢ None → 0 < mark_at cells at
    held_mark id at ends held = omega (arith, ap mark_of (held_cell id at ends held).is)

    -- the number that the cell has at which a look ended
    module _ (id at old : ℕ) (ends : EndsLook bits cells id at) where
      pub had_number : 0 < mark_at cells at → ((cell : Cell (ℕ × X)) → get_or cells at None ≡ Some cell → cell.value.0 ≡ old) → number_of pairs id ≡ Some old
      had_number some had =
          let there = filled_or (get_or cells at None) (λ empty. omega (arith, some, empty)) in
          ap (option_map (λ (value : ℕ × X). value.0)) (found_there bits len cells pairs table view id at there.cell ends there.is) ∙ ap Some (had there.cell there.is)

      pub other_number : ((cell : Cell (ℕ × X)) → get_or cells at None ≡ Some cell → cell.value.0 ≢ old) → number_of pairs id ≢ Some old
      other_number other is =
          ⊎_elim
          (λ empty. none-some old (sym (ap (option_map (λ (value : ℕ × X). value.0)) (missed_there bits len cells pairs table view id at ends empty)) ∙ is))
          (λ some. let there = filled_or (get_or cells at None) some in
          other there.cell there.is
          (same_Some _ _ (sym (ap (option_map (λ (value : ℕ × X). value.0)) (found_there bits len cells pairs table view id at there.cell ends there.is)) ∙ is)))
          (cases_eq (mark_at cells at) 0)

    pub none_number : (id old : ℕ) → len ≡ 0 → number_of pairs id ≢ Some old
    none_number id old empty is = none-some old (sym (ap (option_map (λ (value : ℕ × X). value.0)) (zero_there bits len cells pairs table view id empty)) ∙ is)

    pub number_held : (id old : ℕ) → number_of pairs id ≡ Some old → value_of pairs id ≢ None
    number_held id old is none = none-some old (sym (ap (option_map (λ (value : ℕ × X). value.0)) none) ∙ is)

    -- a cell that may have had the number
    pub table_where : (new : List (Option (Cell (ℕ × X)))) (id at number : ℕ) (yes : Bool) → EndsLook bits cells id at → (yes ≡ true → 0 < mark_at cells at)
        → (yes ≡ true → (cell : Cell (ℕ × X)) → get_or cells at None ≡ Some cell → new ≡ replaced cells at (renumbered cell number)) → (yes ≡ false → new ≡ cells)
        → IsTable bits len new
    table_where new id at number true ends some is same =
        let there = filled_or (get_or cells at None) (λ empty. omega (arith, some refl, empty)) in
        subst (λ (cs : List (Option (Cell (ℕ × X)))). IsTable bits len cs) (sym (is refl there.cell there.is)) (number_table id at number there.cell ends there.is)
    table_where new id at number false ends some is same = subst (λ (cs : List (Option (Cell (ℕ × X)))). IsTable bits len cs) (sym (same refl)) table

    module _ (new : List (Option (Cell (ℕ × X)))) (id at number : ℕ) (ends : EndsLook bits cells id at) (held : value_of pairs id ≢ None)
        (is : (cell : Cell (ℕ × X)) → get_or cells at None ≡ Some cell → new ≡ replaced cells at (renumbered cell number)) where
      pub number_is : IsRenumbered pairs (pairs_of new) id number
      number_is =
          let there = held_cell id at ends held in
          subst (λ (cs : List (Option (Cell (ℕ × X)))). IsRenumbered pairs (pairs_of cs) id number) (sym (is there.cell there.is))
          (number_set id at number there.cell ends there.is (table.probed (some_cells id held)))

      pub table_is : IsTable bits len new
      table_is =
          let there = held_cell id at ends held in
          subst (λ (cs : List (Option (Cell (ℕ × X)))). IsTable bits len cs) (sym (is there.cell there.is)) (number_table id at number there.cell ends there.is)
