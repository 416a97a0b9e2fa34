-- What is left of a wheel that has ended: the cells in order, what is due first last, and behind the empty ones.
use Rattle.std.specs.Prelude.{◌≡◌, ℕ, ◌+◌, ◌-◌, ◌*◌, ◌<◌, ◌≤◌, List, [], ◌∷◌, ◌++◌, length, map, Option, Some, None, option_to_list, slice_index_or}
use Rattle.id_table.specs.declared.cell.Cell.{Cell}
use Rattle.tick_wheel.specs.declared.timer.Timer.{Timer}
use Rattle.tick_wheel.specs.declared.timed.Timed.{Timed}
use Rattle.tick_wheel.specs.Held.{Held}
use Rattle.tick_wheel.specs.Table.{Index, held_at}

-- an id's timer in a cell
abbrev pub Entry : Type 0 → Type 0
Entry T = Cell (ℕ × Timed T)

module _ {T : Type 0} where
  -- due tick and order of scheduling in one number
  abbrev pub key_of_entry : Entry T → ℕ
  key_of_entry e = e.value.1.due * 18446744073709551616 + e.value.1.order

  -- by which the cells are ordered: empty ones come first, then what is due last
  abbrev pub key_of : Option (Entry T) → ℕ
  key_of None = 0
  key_of (Some e) = 340282366920938463463374607431768211455 - key_of_entry e

  -- the entries, from the last cell to the first
  abbrev pub entries_back : List (Option (Entry T)) → List (Entry T)
  entries_back [] = []
  entries_back (cell ∷ cells) = entries_back cells ++ option_to_list cell

  abbrev pub timer_of_entry : Entry T → Timer T
  timer_of_entry e = record { due = e.value.1.due; id = e.id; item = e.value.1.item }

  abbrev pub rest_seen : List (Option (Entry T)) → List (Timer T)
  rest_seen cells = map timer_of_entry (entries_back cells)

  -- due ticks and numbers of scheduling fit their type, and due ticks don't reach its end
  abbrev pub Fit : Index T → Type 0
  Fit index = (id : ℕ) (held : Held T) → held_at index id ≡ Some held → (held.due < 18446744073709551615) × (held.order < 18446744073709551616)

  -- no empty cell stands behind one that isn't
  abbrev pub IsPacked : List (Option (Entry T)) → Type 0
  IsPacked cells = (i j : ℕ) (e : Entry T) → i ≤ j → j < length cells → slice_index_or cells i None ≡ Some e → slice_index_or cells j None ≡ None → ⊥

  pub record IsResting (left : ℕ) (cells : List (Option (Entry T))) : Type 0 where
    pub size : left ≡ length (entries_back cells)
    pub packed : IsPacked cells
