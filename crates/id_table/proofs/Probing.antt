-- What a cell that is filled, emptied or moved makes of the table.
use Rattle.std.proofs.Common.{◌≡◌, ◌≢◌, ℕ, ◌+◌, ◌*◌, ◌<◌, ◌≤◌, Bool, true, false, not, is_some, List, Option, Some, None, length, get_or, set, refl, sym, ap, subst, ◌∙◌, ⊎_elim, arith, length-set, get_or-set_same, get_or-set_other}
use Rattle.id_table.specs.Pairs.{has_id}
use Rattle.std.proofs.lemmas.Bool.{true≢false}
use Rattle.id_table.specs.declared.cell.Cell.{Cell}
use Rattle.id_table.specs.Cells.{id_of, mark_of, id_at, mark_at, counted, held, filled, first_empty}
use Rattle.id_table.specs.Ring.{home_of, next, distance}
use Rattle.id_table.specs.Probed.{IsSized, IsReached, IsProbed, IsShifting, EndsLook}
use Rattle.id_table.proofs.Steps.{le_or_lt, home_below, next_below, distance_same, nearer, last_of_all}
use Rattle.id_table.proofs.Counts.{by_same, counted_within, counted_own, counted_other, counted_filled, held-set, counted-le-held, none_held, first_empty_is}
use Rattle.id_table.proofs.Reaching.{Reached, Passed, by_next_way, fill_reached, drop_reached, none_passed, stay_passed, stay_before, move_reached, end_reached, look_missed}

module _ {V : Type 0} where
  abbrev pub home_at : ℕ → List (Option (Cell V)) → ℕ → ℕ
  home_at bits cells k = home_of bits (id_at cells k)

  pub home_in : (bits : ℕ) (cells : List (Option (Cell V))) (id : ℕ) → IsSized bits cells → home_of bits id < length cells
  home_in bits cells id sized =
      let P : ℕ → Type 0 = λ n. home_of bits id < n in
      let within = sized.within in
      subst P (sym sized.size) (home_below bits id sized.some (omega arith))

  sized_some : (bits : ℕ) (cells : List (Option (Cell V))) → IsSized bits cells → 0 < length cells
  sized_some bits cells sized = let home = home_in bits cells 0 sized in omega arith

  -- the gap is no cell that is looked at
  pub gap_apart : (bits : ℕ) (cells : List (Option (Cell V))) (gap at end : ℕ) → IsShifting bits cells gap at end → gap ≢ at
  gap_apart bits cells gap at end s = λ e.
      let none = distance_same (length cells) at s.at_in in
      let same : distance (length cells) at gap ≡ distance (length cells) at at = ap (distance (length cells) at) e in
      let before = s.before in
      omega arith

  -- what was read of a cell

  pub mark_some : (cells : List (Option (Cell V))) (k : ℕ) (read : Option (Cell V)) (cell : Cell V) → read ≡ get_or cells k None → read ≡ Some cell
      → mark_at cells k ≡ 1
  mark_some cells k read cell r e = ap mark_of (sym r ∙ e)

  pub id_some : (cells : List (Option (Cell V))) (k : ℕ) (read : Option (Cell V)) (cell : Cell V) → read ≡ get_or cells k None → read ≡ Some cell
      → id_at cells k ≡ cell.id
  id_some cells k read cell r e = ap id_of (sym r ∙ e)

  no_some : (read : Option (Cell V)) → ((cell : Cell V) → read ≡ Some cell → ⊥) → mark_of read ≡ 0
  no_some None other = refl
  no_some (Some cell) other = absurd (other cell refl)

  pub mark_none : (cells : List (Option (Cell V))) (k : ℕ) (read : Option (Cell V)) → read ≡ get_or cells k None → ((cell : Cell V) → read ≡ Some cell → ⊥)
      → mark_at cells k ≡ 0
  mark_none cells k read r other = ap mark_of (sym r) ∙ no_some read other

  none_is : (read : Option (Cell V)) → is_some read ≡ false → mark_of read ≡ 0
  none_is None none = refl
  none_is (Some cell) none = absurd (true≢false none)

  pub none_mark : (read was : Option (Cell V)) → read ≡ was → (answer : Bool) → is_some read ≡ not answer → answer ≡ true → mark_of was ≡ 0
  none_mark read was r answer is none = ap mark_of (sym r) ∙ none_is read (is ∙ ap not none)

  pub home_read : (bits home id : ℕ) (cells : List (Option (Cell V))) (k : ℕ) → home ≡ home_of bits id → id ≡ id_at cells k → home ≡ home_at bits cells k
  home_read bits home id cells k e f = e ∙ ap (home_of bits) f

  -- one write

  pub mark_same : (cells : List (Option (Cell V))) (at : ℕ) (new : Option (Cell V)) → at < length cells → mark_at (set cells at new) at ≡ mark_of new
  mark_same cells at new h = ap mark_of (get_or-set_same cells at new None h)

  pub id_same : (cells : List (Option (Cell V))) (at : ℕ) (new : Option (Cell V)) → at < length cells → id_at (set cells at new) at ≡ (id_of new)
  id_same cells at new h = ap id_of (get_or-set_same cells at new None h)

  pub mark_other : (cells : List (Option (Cell V))) (at : ℕ) (new : Option (Cell V)) (k : ℕ) → k ≢ at → mark_at (set cells at new) k ≡ mark_at cells k
  mark_other cells at new k ne = ap mark_of (get_or-set_other cells at k new None ne)

  pub id_other : (cells : List (Option (Cell V))) (at : ℕ) (new : Option (Cell V)) (k : ℕ) → k ≢ at → id_at (set cells at new) k ≡ id_at cells k
  id_other cells at new k ne = ap id_of (get_or-set_other cells at k new None ne)

  pub sized_set : (bits : ℕ) (cells : List (Option (Cell V))) (at : ℕ) (new : Option (Cell V)) → IsSized bits cells → IsSized bits (set cells at new)
  sized_set bits cells at new sized = record { size = length-set cells at new ∙ sized.size; some = sized.some; within = sized.within }

  pub reached_at : (bits : ℕ) (cells : List (Option (Cell V))) (at gap n : ℕ) (new : Option (Cell V)) → n ≡ length cells
      → Reached n (mark_at (set cells at new)) (home_at bits (set cells at new)) gap → IsReached bits (set cells at new) gap
  reached_at bits cells at gap n new e reached =
      let P : ℕ → Type 0 = λ m. Reached m (mark_at (set cells at new)) (home_at bits (set cells at new)) gap in
      subst P (e ∙ sym (length-set cells at new)) reached

  -- the look for an id

  abbrev pub AreOthers : ℕ → List (Option (Cell V)) → ℕ → ℕ → Type 0
  AreOthers bits cells id at = (j : ℕ) → j < length cells
      → distance (length cells) (home_of bits id) j < distance (length cells) (home_of bits id) at
      → (0 < mark_at cells j) × (id_at cells j ≢ id)

  pub others_next : (bits : ℕ) (cells : List (Option (Cell V))) (id at : ℕ) → IsSized bits cells → at < length cells → AreOthers bits cells id at
      → 0 < mark_at cells at → id_at cells at ≢ id → AreOthers bits cells id (next (length cells) at)
  others_next bits cells id at sized ha others some other = λ j hj far.
      by_next_way (length cells) (home_of bits id) at j (home_in bits cells id sized) ha hj far
      (λ near. others j hj near)
      (λ e. subst (λ x. (0 < mark_at cells x) × (id_at cells x ≢ id)) (sym e) (some, other))

  pub others_first : (bits : ℕ) (cells : List (Option (Cell V))) (id at : ℕ) → IsSized bits cells → at ≡ home_of bits id → AreOthers bits cells id at
  others_first bits cells id at sized e = λ j hj near.
      let none = distance_same (length cells) (home_of bits id) (home_in bits cells id sized) in
      let same : distance (length cells) (home_of bits id) at ≡ distance (length cells) (home_of bits id) (home_of bits id)
      = ap (distance (length cells) (home_of bits id)) e in
      absurd (omega arith)

  look_none : (bits : ℕ) (cells : List (Option (Cell V))) (id at : ℕ) → IsProbed bits cells → at < length cells → AreOthers bits cells id at
      → mark_at cells at ≡ 0 → held (has_id id) cells ≡ 0
  look_none bits cells id at probed ha others empty = none_held id cells (λ k hk some e.
      ⊎_elim
      (λ p. look_missed (length cells) (mark_at cells) (home_at bits cells) (home_of bits id) at k (home_in bits cells id probed.sized) ha hk (ap (home_of bits) e) probed.reached empty some p)
      (λ q. (others k hk q).1 e)
      (le_or_lt (distance (length cells) (home_of bits id) at) (distance (length cells) (home_of bits id) k)))

  pub look_ends : (bits : ℕ) (cells : List (Option (Cell V))) (id at : ℕ) → IsProbed bits cells → at < length cells → AreOthers bits cells id at
      → (0 < mark_at cells at → id_at cells at ≡ id) → EndsLook bits cells id at
  look_ends bits cells id at probed ha others found =
      record { within = ha; found = found; missed = look_none bits cells id at probed ha others; way = λ j hj near. (others j hj near).0 }

  -- there is an empty cell, and it isn't a filled one
  pub empty_there : (bits : ℕ) (cells : List (Option (Cell V))) → IsProbed bits cells
      → (first_empty cells < length cells) × (mark_at cells (first_empty cells) ≡ 0)
  empty_there bits cells probed =
      let some = probed.sized.some in
      let size : 0 < length cells = sized_some bits cells probed.sized in
      let sparse = probed.sparse in
      first_empty_is cells (omega arith)

  -- a look comes nearer to it
  pub look_nearer : (bits : ℕ) (cells : List (Option (Cell V))) (at after : ℕ) → IsProbed bits cells → at < length cells → 0 < mark_at cells at
      → after ≡ next (length cells) at
      → distance (length cells) after (first_empty cells) < distance (length cells) at (first_empty cells)
  look_nearer bits cells at after probed ha some e =
      let there = empty_there bits cells probed in
      let apart : at ≢ first_empty cells = λ f. let none : mark_at cells at ≡ 0 = subst (λ x. mark_at cells x ≡ 0) (sym f) there.1 in omega arith in
      let step = nearer (length cells) at (first_empty cells) ha there.0 apart in
      subst (λ x. distance (length cells) x (first_empty cells) < distance (length cells) at (first_empty cells)) (sym e) (omega arith)

  -- the look for an id that isn't held ends at an empty cell
  pub look_free : (bits : ℕ) (cells : List (Option (Cell V))) (id at : ℕ) → EndsLook bits cells id at → held (has_id id) cells ≡ 0 → mark_at cells at ≡ 0
  look_free bits cells id at ends free =
      by_same (mark_at cells at) 0
      (λ e. e)
      (λ ne.
      let own = counted_own (get_or cells at None) (omega arith) in
      let here : counted (has_id id) (get_or cells at None) ≡ 1
      = subst (λ i. counted (has_id i) (get_or cells at None) ≡ 1) (ends.found (omega arith)) own in
      let within = counted-le-held (has_id id) cells at ends.within in
      absurd (omega arith))

  -- a cell is filled

  pub filled_probed : (bits : ℕ) (cells : List (Option (Cell V))) (at : ℕ) (new : Option (Cell V)) → IsProbed bits cells → EndsLook bits cells (id_of new) at
      → 0 < mark_of new → held (has_id (id_of new)) cells ≡ 0 → mark_at cells at ≡ 0 → 3 * (filled cells + 1) ≤ 2 * length cells
      → IsProbed bits (set cells at new)
  filled_probed bits cells at new probed ends some free empty room = record {
    sized = sized_set bits cells at new probed.sized;
    sparse =
        let one = held-set (λ (pair : ℕ × V). true) cells at new ends.within in
        let now = counted_filled new some in
        let size = length-set cells at new in
        omega arith;
    once = λ id.
        let one = held-set (has_id id) cells at new ends.within in
        let was = probed.once id in
        by_same (id_of new) id
        (λ e.
        let none : held (has_id id) cells ≡ 0 = subst (λ x. held (has_id x) cells ≡ 0) e free in
        let within = counted_within (has_id id) new in
        omega arith)
        (λ ne. let now = counted_other id new (λ _. ne) in omega arith);
    reached = subst (λ m. IsReached bits (set cells at new) m) (sym (length-set cells at new))
        (reached_at bits cells at (length cells) (length cells) new refl
        (fill_reached (length cells) (mark_at cells) (home_at bits cells) (mark_at (set cells at new)) (home_at bits (set cells at new)) at
        probed.reached
        (subst (λ m. 0 < m) (sym (mark_same cells at new ends.within)) some)
        (mark_other cells at new)
        (λ k ne. ap (home_of bits) (id_other cells at new k ne))
        (λ j hj near. ends.way j hj (subst (λ i. distance (length cells) (home_of bits i) j < distance (length cells) (home_of bits i) at) (id_same cells at new ends.within) near))));
  }

  -- a cell is emptied

  pub shifting_begins : (bits : ℕ) (cells : List (Option (Cell V))) (gone : ℕ) → IsProbed bits cells → gone < length cells → 0 < mark_at cells gone
      → IsShifting bits (set cells gone None) gone (next (length cells) gone) (first_empty cells)
  shifting_begins bits cells gone probed hg some =
      let size = length-set cells gone None in
      let there = empty_there bits cells probed in
      let hn = next_below (length cells) gone hg in
      let none = mark_same cells gone None hg in
      let apart : gone ≢ first_empty cells = λ e. let none : mark_at cells gone ≡ 0 = subst (λ x. mark_at cells x ≡ 0) (sym e) there.1 in omega arith in
      record {
        sized = sized_set bits cells gone None probed.sized;
        gap_in = omega arith;
        at_in = omega arith;
        end_in = omega (arith, there.0);
        empty = none;
        stops = mark_other cells gone None (first_empty cells) (λ e. apart (sym e)) ∙ there.1;
        before = subst (λ n. distance n (next (length cells) gone) (first_empty cells) < distance n (next (length cells) gone) gone) (sym size) (last_of_all (length cells) gone (first_empty cells) hg there.0 apart);
        reached = reached_at bits cells gone gone (length cells) None refl
            (drop_reached (length cells) (mark_at cells) (home_at bits cells) (mark_at (set cells gone None)) (home_at bits (set cells gone None)) gone
            probed.reached none (mark_other cells gone None) (λ k ne. ap (home_of bits) (id_other cells gone None k ne)));
        passed = subst (λ n. Passed n (mark_at (set cells gone None)) (home_at bits (set cells gone None)) gone (next (length cells) gone)) (sym size)
            (none_passed (length cells) (mark_at (set cells gone None)) (home_at bits (set cells gone None)) gone hg none);
      }

  -- the cell stays
  pub shifting_stays : (bits : ℕ) (cells : List (Option (Cell V))) (gap at end : ℕ) → IsShifting bits cells gap at end → gap ≢ at → 0 < mark_at cells at
      → distance (length cells) (home_at bits cells at) at < distance (length cells) gap at
      → IsShifting bits cells gap (next (length cells) at) end
  shifting_stays bits cells gap at end s apart some short =
      let more : at ≢ end = λ e. let none : mark_at cells at ≡ 0 = subst (λ x. mark_at cells x ≡ 0) (sym e) s.stops in omega arith in
      record {
        sized = s.sized;
        gap_in = s.gap_in;
        at_in = next_below (length cells) at s.at_in;
        end_in = s.end_in;
        empty = s.empty;
        stops = s.stops;
        before = stay_before (length cells) gap at end s.gap_in s.at_in s.end_in apart s.before more;
        reached = s.reached;
        passed = stay_passed (length cells) (mark_at cells) (home_at bits cells) gap at s.gap_in s.at_in (home_in bits cells (id_at cells at) s.sized) s.passed short;
      }

  -- the cell moves into the gap

  abbrev pub moved : List (Option (Cell V)) → ℕ → ℕ → List (Option (Cell V))
  moved cells gap at = set (set cells at None) gap (get_or cells at None)

  pub length_moved : (cells : List (Option (Cell V))) (gap at : ℕ) → length (moved cells gap at) ≡ length cells
  length_moved cells gap at = length-set (set cells at None) gap (get_or cells at None) ∙ length-set cells at None

  pub moved_is : (cells new : List (Option (Cell V))) (gap at : ℕ) (taken left : Option (Cell V)) → taken ≡ get_or cells at None → left ≡ None
      → new ≡ set (set cells at left) gap taken → new ≡ moved cells gap at
  moved_is cells new gap at taken left t l e =
      e ∙ ap (λ (x : Option (Cell V)). set (set cells at x) gap taken) l ∙ ap (λ (x : Option (Cell V)). set (set cells at None) gap x) t

  at_moved : (cells : List (Option (Cell V))) (gap at k : ℕ) → k ≢ gap → k ≢ at → get_or (moved cells gap at) k None ≡ get_or cells k None
  at_moved cells gap at k ng na =
      get_or-set_other (set cells at None) gap k (get_or cells at None) None ng
      ∙ get_or-set_other cells at k None None na

  gap_moved : (cells : List (Option (Cell V))) (gap at : ℕ) → gap < length cells → get_or (moved cells gap at) gap None ≡ get_or cells at None
  gap_moved cells gap at hg =
      let size = length-set cells at None in
      get_or-set_same (set cells at None) gap (get_or cells at None) None (omega arith)

  left_moved : (cells : List (Option (Cell V))) (gap at : ℕ) → at < length cells → gap ≢ at → get_or (moved cells gap at) at None ≡ None
  left_moved cells gap at ha apart =
      get_or-set_other (set cells at None) gap at (get_or cells at None) None (λ e. apart (sym e))
      ∙ get_or-set_same cells at None None ha

  pub shifting_moves : (bits : ℕ) (cells : List (Option (Cell V))) (gap at end : ℕ) → IsShifting bits cells gap at end → gap ≢ at → 0 < mark_at cells at
      → distance (length cells) gap at ≤ distance (length cells) (home_at bits cells at) at
      → IsShifting bits (moved cells gap at) at (next (length cells) at) end
  shifting_moves bits cells gap at end s apart some far =
      let size = length_moved cells gap at in
      let hn = next_below (length cells) at s.at_in in
      let more : at ≢ end = λ e. let none : mark_at cells at ≡ 0 = subst (λ x. mark_at cells x ≡ 0) (sym e) s.stops in omega arith in
      let off : end ≢ gap = λ e. let same : distance (length cells) at end ≡ distance (length cells) at gap = ap (distance (length cells) at) e in let before = s.before in omega arith in
      let none : mark_at (moved cells gap at) at ≡ 0 = ap mark_of (left_moved cells gap at s.at_in apart) in
      record {
        sized = record { size = size ∙ s.sized.size; some = s.sized.some; within = s.sized.within };
        gap_in = subst (λ n. at < n) (sym size) s.at_in;
        at_in = subst (λ n. next (length cells) at < n) (sym size) hn;
        end_in = subst (λ n. end < n) (sym size) s.end_in;
        empty = none;
        stops = ap mark_of (at_moved cells gap at end off (λ e. more (sym e))) ∙ s.stops;
        before = subst (λ n. distance n (next (length cells) at) end < distance n (next (length cells) at) at) (sym size) (last_of_all (length cells) at end s.at_in s.end_in more);
        reached = subst (λ n. Reached n (mark_at (moved cells gap at)) (home_at bits (moved cells gap at)) at) (sym size)
            (move_reached (length cells) (mark_at cells) (home_at bits cells) (mark_at (moved cells gap at)) (home_at bits (moved cells gap at)) gap at
            s.gap_in s.at_in (home_in bits cells (id_at cells at) s.sized) apart s.reached some far
            (ap mark_of (gap_moved cells gap at s.gap_in))
            (ap (λ (c : Option (Cell V)). home_of bits (id_of c)) (gap_moved cells gap at s.gap_in))
            none
            (λ k ng na. ap mark_of (at_moved cells gap at k ng na))
            (λ k ng na. ap (λ (c : Option (Cell V)). home_of bits (id_of c)) (at_moved cells gap at k ng na)));
        passed = subst (λ n. Passed n (mark_at (moved cells gap at)) (home_at bits (moved cells gap at)) at (next (length cells) at)) (sym size)
            (none_passed (length cells) (mark_at (moved cells gap at)) (home_at bits (moved cells gap at)) at s.at_in none);
      }

  -- a removal comes nearer to its end
  pub shifting_nearer : (bits : ℕ) (cells : List (Option (Cell V))) (gap at end n after : ℕ) → IsShifting bits cells gap at end → 0 < mark_at cells at
      → length cells ≡ n → after ≡ next n at → distance n after end < distance n at end
  shifting_nearer bits cells gap at end n after s some size e =
      let more : at ≢ end = λ f. let none : mark_at cells at ≡ 0 = subst (λ x. mark_at cells x ≡ 0) (sym f) s.stops in omega arith in
      let step = nearer (length cells) at end s.at_in s.end_in more in
      let P : ℕ → Type 0 = λ m. distance m (next m at) end < distance m at end in
      subst (λ x. distance n x end < distance n at end) (sym e) (subst P size (omega arith))

  -- the removal has ended
  pub shifting_ends : (bits : ℕ) (cells new : List (Option (Cell V))) (gap at end : ℕ) → IsProbed bits cells → length new ≡ length cells
      → IsShifting bits new gap at end → mark_at new at ≡ 0 → ((test : ℕ × V → Bool) → held test new ≤ held test cells)
      → IsProbed bits new
  shifting_ends bits cells new gap at end probed size s empty fewer =
      let apart = gap_apart bits new gap at end s in
      record {
        sized = s.sized;
        sparse = let less = fewer (λ (pair : ℕ × V). true) in let was = probed.sparse in omega arith;
        once = λ id. let less = fewer (has_id id) in let was = probed.once id in omega arith;
        reached = end_reached (length new) (mark_at new) (home_at bits new) gap at (λ k. home_in bits new (id_at new k) s.sized) s.gap_in s.at_in apart empty s.reached s.passed;
      }
