-- Bases that are closed one by one, and what is left of worlds.
use Rattle.std.proofs.Common.{◌≡◌, ℕ, suc, ◌+◌, ◌-◌, ◌<◌, List, [], ◌∷◌, ◌++◌, Bool, false, length, get_or, length-append, map, refl, sym, ap, ◌∙◌, subst, arith}
use Rattle.std.specs.List.{All}
use Rattle.std.proofs.lemmas.List.{length-map}
use Rattle.std.proofs.lemmas.List.Sums.{sum_by-append, sum_by-cons}
use Rattle.std.proofs.lemmas.List.Elements.{All-cons, All-nil, All-push, All-weaker}
use Rattle.core_cells.specs.Seen.{AreAll, SeenPass}
use Rattle.core_word.specs.Count.{Counts, added}
use Rattle.event_base.specs.Seen.{NoteSeen}
use Rattle.fan_model.specs.Report.{Asking}
use Rattle.fan_model.specs.Tasks.{printer_exec}
use Rattle.fan_parts.specs.declared.jobs.GatherJob.{GatherJob}
use Rattle.fan_parts.specs.declared.jobs.PrintJob.{PrintJob}
use Rattle.fan_parts.specs.declared.run_name.RunName.{Ghosts}
use Rattle.run_bases.specs.declared.rows.Column.{Column}
use Rattle.run_bases.specs.Columns.{IsColumn}
use Rattle.run_notes.specs.Counting.{AreEmptied, IsEmptied, puts_of}
use Rattle.run_tasks.specs.Leaving.{MakesMore}
use Rattle.run_tasks.specs.declared.world.TaskEnds.{TaskEnds}
use Rattle.run_threads.specs.declared.gatherer.GatherSlot.{GatherSlot}
use Rattle.run_setup.specs.Closing.{AreColumnsBack, AreGathered, AreTaskEnds, AreWorldEnds, IsFullColumn, IsGatheredSlot, IsPrinterBack, has_refused, merged, merged_with, tally_of}
use Rattle.run_setup.specs.Ids.{RunIds}
use Rattle.run_setup.specs.Rows.{print_head}
use Rattle.run_setup.specs.Slots.{IsCellPass}
use Rattle.run_setup.proofs.Each.{EachDown, EachFrom, down_first, down_rest, each_rest}

-- the note of the gathering base at this place
abbrev pub IsEmptiedAt : ℕ → NoteSeen → Type 0
IsEmptiedAt k note = IsEmptied (1 + k) note

pub notes-all : (notes : List NoteSeen) → EachFrom IsEmptiedAt 0 notes → AreEmptied notes
notes-all notes all = record { each = λ k d below. all.each k k d below (omega arith) }

module _ {N : Type 0} {g : Ghosts N} where
  abbrev pub slot_refused : GatherSlot N g → Bool
  slot_refused s = has_refused s.stage

  abbrev pub slot_tally : GatherSlot N g → Counts
  slot_tally s = tally_of s.stage

  -- so many bases are closed, and these are left
  pub record BasesSoFar (asked : Asking) (ids : RunIds) (slots : List (GatherSlot N g)) (columns : List (Column (GatherJob N))) (printer : Column (PrintJob N)) (closed : ℕ) : Type 0 where
    pub many : closed + length slots ≡ asked.bases
    pub as_many : length columns ≡ length slots
    pub slots_are : EachFrom (IsGatheredSlot asked ids) closed slots
    pub columns_are : EachFrom (IsFullColumn ids) closed columns
    pub printer_is : IsPrinterBack asked ids (suc (length slots)) printer

  pub bases-none : (asked : Asking) (ids : RunIds) (slots : List (GatherSlot N g)) (columns : List (Column (GatherJob N))) (printer : Column (PrintJob N)) → length ids.queues ≡ asked.bases → AreGathered asked ids slots
      → AreColumnsBack ids 0 columns → IsPrinterBack asked ids (suc asked.bases) printer → BasesSoFar asked ids slots columns printer 0
  bases-none asked ids slots columns printer bases are back is = record {
    many = omega (arith, are.as_many);
    as_many = back.as_many ∙ (bases ∙ sym are.as_many);
    slots_are = record { each = λ k j d below at. subst (λ (n : ℕ). IsGatheredSlot asked ids n (get_or slots k d)) (omega (arith, at)) (are.each k d (omega (arith, below, are.as_many))) };
    columns_are = record {
      each = λ k j d below at. subst (λ (n : ℕ). IsFullColumn ids n (get_or columns k d)) (omega (arith, at)) record { is = λ q. back.each k d q (omega (arith, below, back.as_many)) };
    };
    printer_is = subst (λ (n : ℕ). IsPrinterBack asked ids (suc n) printer) (sym are.as_many) is;
  }

  -- the same, where the next of each is known
  pub bases-next : (asked : Asking) (ids : RunIds) (slots slots' : List (GatherSlot N g)) (columns columns' : List (Column (GatherJob N))) (printer : Column (PrintJob N)) (closed : ℕ) → slots ≡ slots' → columns ≡ columns'
      → BasesSoFar asked ids slots columns printer closed → BasesSoFar asked ids slots' columns' printer closed
  bases-next asked ids slots slots' columns columns' printer closed same same_columns so =
      subst (λ (l : List (Column (GatherJob N))). BasesSoFar asked ids slots' l printer closed) same_columns (subst (λ (l : List (GatherSlot N g)). BasesSoFar asked ids l columns printer closed) same so)

  pub bases-more : (asked : Asking) (ids : RunIds) (slot : GatherSlot N g) (slots : List (GatherSlot N g)) (column : Column (GatherJob N)) (columns : List (Column (GatherJob N))) (printer after : Column (PrintJob N)) (closed : ℕ)
      → BasesSoFar asked ids (slot ∷ slots) (column ∷ columns) printer closed
      → (IsPrinterBack asked ids (suc (asked.bases - closed)) printer → IsPrinterBack asked ids (asked.bases - closed) after) → BasesSoFar asked ids slots columns after (suc closed)
  bases-more asked ids slot slots column columns printer after closed so put =
      let left : suc (length slots) ≡ asked.bases - closed = omega (arith, so.many) in
      record {
        many = omega (arith, so.many);
        as_many = omega (arith, so.as_many);
        slots_are = each_rest (IsGatheredSlot asked ids) closed slot slots so.slots_are;
        columns_are = each_rest (IsFullColumn ids) closed column columns so.columns_are;
        printer_is = subst (λ (n : ℕ). IsPrinterBack asked ids n after) (sym left) (put (subst (λ (n : ℕ). IsPrinterBack asked ids (suc n) printer) left so.printer_is));
      }

module _ {N : Type 0} where
  -- no end has come back yet
  pub columns-start : (ids : RunIds) (columns : List (Column (GatherJob N))) → AreColumnsBack ids (ids.workers + 1) columns → AreColumnsBack ids (suc ids.workers) columns
  columns-start ids columns is = subst (λ (n : ℕ). AreColumnsBack ids n columns) (omega arith) is

  pub printer-start : (asked : Asking) (ids : RunIds) (column : Column (PrintJob N)) → IsColumn (print_head asked) ids.printer (printer_exec asked.bases) (asked.bases + 1) 0 (asked.bases + 1) column
      → IsPrinterBack asked ids (suc asked.bases) column
  printer-start asked ids column is = record { is = subst (λ (n : ℕ). IsColumn (print_head asked) ids.printer (printer_exec asked.bases) (asked.bases + 1) 0 n column) (omega arith) is }

  -- so many worlds are still to be put back
  pub record WorldsSoFar (ids : RunIds) (rest : List (TaskEnds N)) (columns : List (Column (GatherJob N))) : Type 0 where
    pub left : EachDown (AreTaskEnds ids) rest
    pub put_back : AreColumnsBack ids (suc (length rest)) columns

  pub worlds-none : (ids : RunIds) (worlds : List (TaskEnds N)) (columns : List (Column (GatherJob N))) → AreWorldEnds ids worlds → AreColumnsBack ids (suc ids.workers) columns → WorldsSoFar ids worlds columns
  worlds-none ids worlds columns are back = record {
    left = record { each = λ k j d below at. subst (λ (n : ℕ). AreTaskEnds ids n (get_or worlds k d)) (omega (arith, at, are.as_many)) (are.each k d (omega (arith, below, are.as_many))) };
    put_back = subst (λ (n : ℕ). AreColumnsBack ids (suc n) columns) (sym are.as_many) back;
  }

  pub worlds-more : (ids : RunIds) (world : TaskEnds N) (rest : List (TaskEnds N)) (columns after : List (Column (GatherJob N))) → WorldsSoFar ids (world ∷ rest) columns
      → (AreColumnsBack ids (suc (suc (length rest))) columns → AreTaskEnds ids (suc (length rest)) world → AreColumnsBack ids (suc (length rest)) after) → WorldsSoFar ids rest after
  worlds-more ids world rest columns after so put = record { left = down_rest (AreTaskEnds ids) world rest so.left; put_back = put so.put_back (down_first (AreTaskEnds ids) world rest so.left) }

  world-passes : (ids : RunIds) (worlds : List (TaskEnds N)) → All (λ (w : TaskEnds N). IsCellPass ids w.pass) worlds → All (IsCellPass ids) (map (λ (w : TaskEnds N). w.pass) worlds)
  world-passes ids [] all = All-nil (IsCellPass ids)
  world-passes ids (w ∷ ws) all = All-cons (IsCellPass ids) w.pass (map (λ (x : TaskEnds N). x.pass) ws) (all 0 w (omega arith)) (world-passes ids ws (λ k d below. all (suc k) d (omega (arith, below))))

  -- the passes of all worlds are all passes of the cells
  pub all-passes : (ids : RunIds) (worlds : List (TaskEnds N)) (front : TaskEnds N) (none passes : List SeenPass) → AreWorldEnds ids worlds → AreTaskEnds ids 0 front → none ≡ []
      → passes ≡ (none ++ map (λ (w : TaskEnds N). w.pass) worlds) ++ front.pass ∷ [] → AreAll ids.cells passes
  all-passes ids worlds front none passes are front_is none_is is =
      let theirs = map (λ (w : TaskEnds N). w.pass) worlds in
      let all : passes ≡ theirs ++ front.pass ∷ [] = is ∙ ap (λ (l : List SeenPass). (l ++ theirs) ++ front.pass ∷ []) none_is in
      let long : length passes ≡ ids.workers + 1 = omega (arith, ap length all, length-append theirs (front.pass ∷ []), length-map worlds (λ (w : TaskEnds N). w.pass), are.as_many) in
      let each : All (IsCellPass ids) (theirs ++ front.pass ∷ []) = All-push (IsCellPass ids) theirs front.pass
      (world-passes ids worlds (λ k d below. (are.each k d (omega (arith, below, are.as_many))).pass)) front_is.pass in (
        omega (arith, long),
        All-weaker (IsCellPass ids) (λ (p : SeenPass). (p.cells ≡ ids.cells) × (p.passes ≡ length passes)) (λ p c. (c.cells, c.passes ∙ sym long)) passes
            (subst (λ (l : List SeenPass). All (IsCellPass ids) l) (sym all) each),
      )

pub merged-append : (counts : Counts) (xs ys : List Counts) → merged_with counts (xs ++ ys) ≡ merged_with (merged_with counts xs) ys
merged-append counts [] ys = refl
merged-append counts (x ∷ xs) ys = merged-append (merged counts x) xs ys

joined : (sum put before theirs total : ℕ) → before ≡ added 0 sum → theirs ≡ added 0 put → total ≡ sum + put → added before theirs ≡ added 0 total
joined sum put before theirs total so_far here all = omega (arith, so_far, here, all)

pub none_both : (before theirs : ℕ) → before ≡ 0 → theirs ≡ 0 → added before theirs ≡ 0
none_both before theirs nothing none = omega (arith, nothing, none)

-- no message more, and nothing more that was handed over
pub none_more : (handed : ℕ) (notes : List NoteSeen) → notes ≡ [] → handed ≡ 0 → handed ≡ added 0 (puts_of notes)
none_more handed notes none nothing =
    let zero_is : handed ≡ added 0 0 = omega (arith, nothing) in
    zero_is ∙ ap (λ (l : List NoteSeen). added 0 (puts_of l)) (sym none)

-- the messages of one queue more
pub one_more : (before theirs : ℕ) (notes : List NoteSeen) (note : NoteSeen) (after : List NoteSeen) → after ≡ notes ++ note ∷ [] → before ≡ added 0 (puts_of notes) → theirs ≡ added 0 note.put
    → added before theirs ≡ added 0 (puts_of after)
one_more before theirs notes note after is so_far here =
    let put = λ (n : NoteSeen). n.put in
    let one : puts_of (note ∷ []) ≡ note.put = omega (arith, sum_by-cons put note []) in
    let all : puts_of after ≡ puts_of notes + note.put = ap (λ (l : List NoteSeen). puts_of l) is ∙ (sum_by-append put notes (note ∷ []) ∙ ap (λ (k : ℕ). puts_of notes + k) one) in
    joined (puts_of notes) note.put before theirs (puts_of after) so_far here all

module _ {N : Type 0} where
  -- worlds that counted no core as handed over
  pub worlds_hand_none : (counts : Counts) (worlds : List (TaskEnds N)) → counts.handed ≡ 0 → ((k : ℕ) (d : TaskEnds N) → k < length worlds → (get_or worlds k d).tally.handed ≡ 0)
      → (merged_with counts (map (λ (w : TaskEnds N). w.tally) worlds)).handed ≡ 0
  worlds_hand_none counts [] none each = none
  worlds_hand_none counts (w ∷ ws) none each =
      worlds_hand_none (merged counts w.tally) ws (omega (arith, none, each 0 w (omega arith))) (λ k d below. each (suc k) d (omega (arith, below)))

-- one tally more, of which as many cores were made as forwarded
made_more : (n : ℕ) (a b : Counts) → MakesMore n a → MakesMore 0 b → MakesMore n (merged a b)
made_more n a b first second = omega (arith, first, second)

-- the same, with the one that made more behind the others
made_behind : (n : ℕ) (a b : Counts) → MakesMore 0 a → MakesMore n b → MakesMore n (merged a b)
made_behind n a b first second = omega (arith, first, second)

module _ {N : Type 0} where
  worlds_make : (n : ℕ) (counts : Counts) (worlds : List (TaskEnds N)) → MakesMore n counts → ((k : ℕ) (d : TaskEnds N) → k < length worlds → MakesMore 0 (get_or worlds k d).tally)
      → MakesMore n (merged_with counts (map (λ (w : TaskEnds N). w.tally) worlds))
  worlds_make n counts [] makes each = makes
  worlds_make n counts (w ∷ ws) makes each =
      worlds_make n (merged counts w.tally) ws (made_more n counts w.tally makes (each 0 w (omega arith))) (λ k d below. each (suc k) d (omega (arith, below)))

module _ {N : Type 0} {g : Ghosts N} where
  bases_make : (n : ℕ) (counts : Counts) (slots : List (GatherSlot N g)) → MakesMore n counts → ((k : ℕ) (d : GatherSlot N g) → k < length slots → MakesMore 0 (slot_tally (get_or slots k d)))
      → MakesMore n (merged_with counts (map slot_tally slots))
  bases_make n counts [] makes each = makes
  bases_make n counts (s ∷ ss) makes each =
      bases_make n (merged counts (slot_tally s)) ss (made_more n counts (slot_tally s) makes (each 0 s (omega arith))) (λ k d below. each (suc k) d (omega (arith, below)))

  -- Of all tallies of a run the front's alone counts more cores as made than as forwarded.
  pub all_make : (n : ℕ) (worlds : List (TaskEnds N)) (front : Counts) (slots : List (GatherSlot N g)) (none whole : Counts) → MakesMore 0 none
      → whole ≡ merged_with none (map (λ (w : TaskEnds N). w.tally) worlds ++ front ∷ map slot_tally slots)
      → ((k : ℕ) (d : TaskEnds N) → k < length worlds → MakesMore 0 (get_or worlds k d).tally) → MakesMore n front
      → ((k : ℕ) (d : GatherSlot N g) → k < length slots → MakesMore 0 (slot_tally (get_or slots k d))) → MakesMore n whole
  all_make n worlds front slots none whole nothing is of_worlds of_front of_bases =
      let theirs = map (λ (w : TaskEnds N). w.tally) worlds in
      subst (λ (t : Counts). MakesMore n t) (sym (is ∙ merged-append none theirs (front ∷ map slot_tally slots)))
      (bases_make n (merged (merged_with none theirs) front) slots (made_behind n (merged_with none theirs) front (worlds_make 0 none worlds nothing of_worlds) of_front) of_bases)

  -- a base's slot, by its stage
  pub slot_makes : (asked : Asking) (ids : RunIds) (k : ℕ) (slot : GatherSlot N g) → IsGatheredSlot asked ids k slot → slot_refused slot ≡ false → MakesMore 0 (slot_tally slot)
  slot_makes asked ids k slot is calm =
      let refused : slot_refused slot ≡ is.stage.refused = ap has_refused is.has in
      subst (λ (t : Counts). MakesMore 0 t) (sym (ap tally_of is.has)) (is.is.made (sym refused ∙ calm))
