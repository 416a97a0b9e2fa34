use Rattle.std.proofs.Common.{◌≡◌, ℕ, ◌-◌, ◌||◌, Bool, suc, List, [], ◌∷◌, length, length-append, map, sym, ap, ◌∙◌, subst, arith}
use Rattle.std.proofs.lemmas.List.{nil_from_length}
use Rattle.std.proofs.Math.Bool.{or-false, or_assoc}
use Rattle.std.specs.List.{list_any}
use Rattle.std.specs.Vec.Iter.{into_iter_items}
use Rattle.core_word.specs.Count.{Counts}
use Rattle.event_base.specs.Seen.{NoteSeen}
use Rattle.fan_parts.specs.declared.jobs.GatherJob.{GatherJob}
use Rattle.run_bases.specs.declared.rows.Column.{Column}
use Rattle.run_threads.specs.declared.gatherer.GatherSlot.{GatherSlot}
use Rattle.run_setup.specs.Closing.{AreColumnsBack, AreGathered, IsFullColumn, IsGatheredSlot, IsPrinterBack, merged, merged_with}
use Rattle.run_setup.proofs.CollectLemmas.{BasesSoFar, IsEmptiedAt, bases-more, bases-next, bases-none, none_more, notes-all, one_more, slot_refused, slot_tally}
use Rattle.run_setup.proofs.Each.{EachFrom, each_first, each_none, each_push}
use Rattle.run_setup.proofs.SlotLemmas.{neither}
use Rattle.run_setup.proofs.collecting.Gatherers.close_all.Goals as goal

pub loop-slot-init : goal.loop-slot-init
loop-slot-init g c =
    let asked = g.N.RunName.asked in
    let slots = into_iter_items c.into_iter-left.result in
    let columns = into_iter_items c.into_iter-columns.result in
    let same : slots ≡ c.args.slots.items = c.into_iter-left.ensures.rest in
    let same_columns : columns ≡ c.args.columns.items = c.into_iter-columns.ensures.rest in
    let none : length c.args.self.now.notes.items ≡ 0 = ap length c.requires.empty in
    record {
      room = c.requires.room;
      refused = ap (λ (l : List (GatherSlot g.row.N.Denot g.N.RunName)). c.args.self.now.counted.refused || list_any slot_refused l) same;
      calm = λ all. ap (λ (l : List (GatherSlot g.row.N.Denot g.N.RunName)). list_any slot_refused l) same ∙ all;
      tally = λ all. ap (λ (l : List (GatherSlot g.row.N.Denot g.N.RunName)). merged_with c.args.self.now.counted.tally (map slot_tally l)) same;
      handed = λ all nothing. none_more c.args.self.now.counted.tally.handed c.args.self.now.notes.items c.requires.empty nothing;
      emptied = λ all. each_none IsEmptiedAt 0 c.args.self.now.notes.items none;
      so_far = λ ids bases are back printer. subst (λ (n : ℕ). BasesSoFar asked ids slots columns c.args.self.now.printer n) (sym none)
          (bases-none asked ids slots columns c.args.self.now.printer bases (subst (λ (l : List (GatherSlot g.row.N.Denot g.N.RunName)). AreGathered asked ids l) (sym same) are)
          (subst (λ (l : List (Column (GatherJob g.row.N.Denot))). AreColumnsBack ids 0 l) (sym same_columns) back) printer);
    }

pub close_slot-end-requires : goal.close_slot-end-requires
close_slot-end-requires g c =
    let asked = g.N.RunName.asked in
    let r = c.requires.bases in
    let i = c.loop-slot.invariant in
    let closed = length c.loop-slot.self.notes.items in
    let rest = into_iter_items c.next.new.self in
    let rest_columns = into_iter_items c.next-in-Some.new.self in
    let next = c.in-Some.ensures.cases.0 in
    let next_columns = c.in-Some-next.ensures.cases.0 in
    let so = bases-next asked r.0 (into_iter_items c.loop-slot.left) (c.in-Some.slot ∷ rest) (into_iter_items c.loop-slot.columns) (c.in-Some-next.column ∷ rest_columns) c.loop-slot.self.printer closed next next_columns
    (i.so_far r.0 r.1 r.2 r.3 r.4) in
    (r.0, closed, each_first (IsGatheredSlot asked r.0) closed c.in-Some.slot rest so.slots_are, each_first (IsFullColumn r.0) closed c.in-Some-next.column rest_columns so.columns_are)

pub put-requires-clause-back : goal.put-requires-clause-back
put-requires-clause-back g c =
    let asked = g.N.RunName.asked in
    let r = c.requires.bases in
    let closed = length c.loop-slot.self.notes.items in
    let so = c.loop-slot.invariant.so_far r.0 r.1 r.2 r.3 r.4 in
    let left : length (into_iter_items c.loop-slot.left) ≡ asked.bases - closed = omega (arith, so.many) in
    (r.0, asked.bases - closed, subst (λ (n : ℕ). IsPrinterBack asked r.0 (suc n) c.loop-slot.self.printer) left so.printer_is)

pub put-requires-clause-room : goal.put-requires-clause-room
put-requires-clause-room g c =
    let r = c.requires.bases in
    let i = c.loop-slot.invariant in
    omega (arith, i.room, (i.so_far r.0 r.1 r.2 r.3 r.4).many, ap length c.in-Some.ensures.cases.0)

pub loop-slot-preserved : goal.loop-slot-preserved
loop-slot-preserved g c =
    let asked = g.N.RunName.asked in
    let r = c.requires.bases in
    let i = c.loop-slot.invariant in
    let self = c.loop-slot.self in
    let slot = c.in-Some.slot in
    let column = c.in-Some-next.column in
    let end = c.close_slot-end.result in
    let closed = length self.notes.items in
    let rest = into_iter_items c.next.new.self in
    let rest_columns = into_iter_items c.next-in-Some.new.self in
    let next : into_iter_items c.loop-slot.left ≡ slot ∷ rest = c.in-Some.ensures.cases.0 in
    let next_columns : into_iter_items c.loop-slot.columns ≡ column ∷ rest_columns = c.in-Some-next.ensures.cases.0 in
    let noted = c.put.ensures.note in
    let long : length c.put.new.self.notes.items ≡ suc closed = omega (arith, ap length noted, length-append self.notes.items (end.queue ∷ [])) in
    record {
      room = omega (arith, i.room, c.put.ensures.capacity);
      refused = ap (λ (b : Bool). b || list_any slot_refused rest) (c.put.ensures.refused ∙ ap (λ (b : Bool). self.counted.refused || b) c.close_slot-end.ensures.refused)
          ∙ (or_assoc self.counted.refused (slot_refused slot) (list_any slot_refused rest)
          ∙ (ap (λ (l : List (GatherSlot g.row.N.Denot g.N.RunName)). self.counted.refused || list_any slot_refused l) (sym next) ∙ i.refused));
      calm = λ all. (neither (slot_refused slot) (list_any slot_refused rest) (ap (λ (l : List (GatherSlot g.row.N.Denot g.N.RunName)). list_any slot_refused l) (sym next) ∙ i.calm all)).1;
      tally = λ all.
          let calm = (neither (slot_refused slot) (list_any slot_refused rest) (ap (λ (l : List (GatherSlot g.row.N.Denot g.N.RunName)). list_any slot_refused l) (sym next) ∙ i.calm all)).0 in
          let so = bases-next asked r.0 (into_iter_items c.loop-slot.left) (slot ∷ rest) (into_iter_items c.loop-slot.columns) (column ∷ rest_columns) self.printer closed next next_columns (i.so_far r.0 r.1 r.2 r.3 r.4) in
          let slot_is = each_first (IsGatheredSlot asked r.0) closed slot rest so.slots_are in
          ap (λ (t : Counts). merged_with t (map slot_tally rest))
          (c.put.ensures.tally ∙ ap (λ (t : Counts). merged self.counted.tally t) (c.close_slot-end.ensures.tally r.0 closed slot_is (c.close_slot-end.ensures.refused ∙ calm)))
          ∙ (ap (λ (l : List (GatherSlot g.row.N.Denot g.N.RunName)). merged_with self.counted.tally (map slot_tally l)) (sym next) ∙ i.tally all);
      handed = λ all nothing.
          let calm = (neither (slot_refused slot) (list_any slot_refused rest) (ap (λ (l : List (GatherSlot g.row.N.Denot g.N.RunName)). list_any slot_refused l) (sym next) ∙ i.calm all)).0 in
          let so = bases-next asked r.0 (into_iter_items c.loop-slot.left) (slot ∷ rest) (into_iter_items c.loop-slot.columns) (column ∷ rest_columns) self.printer closed next next_columns (i.so_far r.0 r.1 r.2 r.3 r.4) in
          let slot_is = each_first (IsGatheredSlot asked r.0) closed slot rest so.slots_are in
          ap (λ (t : Counts). t.handed) c.put.ensures.tally
          ∙ one_more self.counted.tally.handed end.tally.handed self.notes.items end.queue c.put.new.self.notes.items noted (i.handed all nothing)
          (c.close_slot-end.ensures.handed r.0 closed slot_is (c.close_slot-end.ensures.refused ∙ calm));
      emptied = λ all.
          let calm = (neither (slot_refused slot) (list_any slot_refused rest) (ap (λ (l : List (GatherSlot g.row.N.Denot g.N.RunName)). list_any slot_refused l) (sym next) ∙ i.calm all)).0 in
          let so = bases-next asked r.0 (into_iter_items c.loop-slot.left) (slot ∷ rest) (into_iter_items c.loop-slot.columns) (column ∷ rest_columns) self.printer closed next next_columns (i.so_far r.0 r.1 r.2 r.3 r.4) in
          let slot_is = each_first (IsGatheredSlot asked r.0) closed slot rest so.slots_are in
          subst (λ (l : List NoteSeen). EachFrom IsEmptiedAt 0 l) (sym noted)
          (each_push IsEmptiedAt self.notes.items end.queue (i.emptied all) (c.close_slot-end.ensures.emptied r.0 closed slot_is (c.close_slot-end.ensures.refused ∙ calm)));
      so_far = λ ids bases are back printer.
          let so = bases-next asked ids (into_iter_items c.loop-slot.left) (slot ∷ rest) (into_iter_items c.loop-slot.columns) (column ∷ rest_columns) self.printer closed next next_columns (i.so_far ids bases are back printer) in
          let slot_is = each_first (IsGatheredSlot asked ids) closed slot rest so.slots_are in
          subst (λ (n : ℕ). BasesSoFar asked ids rest rest_columns c.put.new.self.printer n) (sym long)
          (bases-more asked ids slot rest column rest_columns self.printer c.put.new.self.printer closed so
          (λ before. c.put.ensures.printer ids (asked.bases - closed) before (c.close_slot-end.ensures.printer ids closed slot_is)));
    }

pub returns-clause-bases : goal.returns-clause-bases
returns-clause-bases g c =
    let r = c.requires.bases in
    let so = c.loop-slot.invariant.so_far r.0 r.1 r.2 r.3 r.4 in
    omega (arith, so.many, c.in_default.ensures.cases.0, c.loop-slot.left.rest.ok.0)

pub returns-clause-emptied : goal.returns-clause-emptied
returns-clause-emptied g c = λ all. notes-all c.loop-slot.self.notes.items (c.loop-slot.invariant.emptied all)

pub returns-clause-printer : goal.returns-clause-printer
returns-clause-printer g c = λ ids bases are back printer.
    let none = nil_from_length (into_iter_items c.loop-slot.left) (omega (arith, c.in_default.ensures.cases.0, c.loop-slot.left.rest.ok.0)) in
    subst (λ (l : List (GatherSlot g.row.N.Denot g.N.RunName)). IsPrinterBack g.N.RunName.asked ids (suc (length l)) c.loop-slot.self.printer) none (c.loop-slot.invariant.so_far ids bases are back printer).printer_is

pub returns-clause-tally : goal.returns-clause-tally
returns-clause-tally g c = λ all.
    let none = nil_from_length (into_iter_items c.loop-slot.left) (omega (arith, c.in_default.ensures.cases.0, c.loop-slot.left.rest.ok.0)) in
    ap (λ (l : List (GatherSlot g.row.N.Denot g.N.RunName)). merged_with c.loop-slot.self.counted.tally (map slot_tally l)) (sym none) ∙ c.loop-slot.invariant.tally all

pub returns-clause-handed : goal.returns-clause-handed
returns-clause-handed g c = c.loop-slot.invariant.handed

pub returns-clause-refused : goal.returns-clause-refused
returns-clause-refused g c =
    let none = nil_from_length (into_iter_items c.loop-slot.left) (omega (arith, c.in_default.ensures.cases.0, c.loop-slot.left.rest.ok.0)) in
    let refused = c.loop-slot.self.counted.refused in
    sym (or-false refused) ∙ (ap (λ (l : List (GatherSlot g.row.N.Denot g.N.RunName)). refused || list_any slot_refused l) (sym none) ∙ c.loop-slot.invariant.refused)
