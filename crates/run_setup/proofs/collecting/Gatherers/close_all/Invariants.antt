use Rattle.std.proofs.Common.{◌≡◌, ◌≤◌, ◌||◌, suc, false, length, map}
use Rattle.std.specs.Prelude.{vec_capacity}
use Rattle.std.specs.List.{list_any}
use Rattle.std.specs.Vec.Iter.{into_iter_items, into_iter_len}
use Rattle.core_word.specs.Count.{added}
use Rattle.run_notes.specs.Counting.{puts_of}
use Rattle.run_setup.specs.Closing.{AreColumnsBack, AreGathered, IsPrinterBack, merged_with}
use Rattle.run_setup.specs.Ids.{RunIds}
use Rattle.run_setup.proofs.CollectLemmas.{BasesSoFar, IsEmptiedAt, slot_refused, slot_tally}
use Rattle.run_setup.proofs.Each.{EachFrom}
use Rattle.run_setup.proofs.collecting.Gatherers.close_all.Given as goal

abbrev pub invariant-loop-slot : goal.invariant-loop-slot
invariant-loop-slot g l = record {
  room : g.N.RunName.asked.bases ≤ vec_capacity l.self.notes;
  refused : l.self.counted.refused || list_any slot_refused (into_iter_items l.left) ≡ l.initial.self.counted.refused || list_any slot_refused l.fn.slots.items;
  calm : list_any slot_refused l.fn.slots.items ≡ false → list_any slot_refused (into_iter_items l.left) ≡ false;
  tally : list_any slot_refused l.fn.slots.items ≡ false → merged_with l.self.counted.tally (map slot_tally (into_iter_items l.left)) ≡ merged_with l.initial.self.counted.tally (map slot_tally l.fn.slots.items);
  handed : list_any slot_refused l.fn.slots.items ≡ false → l.initial.self.counted.tally.handed ≡ 0 → l.self.counted.tally.handed ≡ added 0 (puts_of l.self.notes.items);
  emptied : list_any slot_refused l.fn.slots.items ≡ false → EachFrom IsEmptiedAt 0 l.self.notes.items;
  so_far : (ids : RunIds) → length ids.queues ≡ g.N.RunName.asked.bases → AreGathered g.N.RunName.asked ids l.fn.slots.items → AreColumnsBack ids 0 l.fn.columns.items
      → IsPrinterBack g.N.RunName.asked ids (suc g.N.RunName.asked.bases) l.initial.self.printer
      → BasesSoFar g.N.RunName.asked ids (into_iter_items l.left) (into_iter_items l.columns) l.self.printer (length l.self.notes.items);
}

abbrev pub decreases-loop-slot : goal.decreases-loop-slot
decreases-loop-slot g l = into_iter_len l.left
