-- What was opened, and how it is dealt out.
use Rattle.std.proofs.Common.{◌≡◌, ℕ, suc, ◌+◌, List, [], ◌∷◌, ◌++◌, length, length-append, refl, sym, ap, ◌∙◌, subst, arith}
use Rattle.std.specs.List.{All}
use Rattle.std.proofs.lemmas.List.Elements.{All-weaker}
use Rattle.core_cells.specs.Seen.{AreAll, SeenCells, SeenPass}
use Rattle.fan_model.specs.Report.{Asking}
use Rattle.fan_model.specs.Tasks.{printer_exec}
use Rattle.fan_parts.specs.declared.run_name.RunName.{Ghosts}
use Rattle.fan_parts.specs.Heads.{gather_head}
use Rattle.pool_model.specs.Seen.{EndSeen}
use Rattle.run_bases.specs.Columns.{AreColumns, IsColumn}
use Rattle.run_bases.specs.Making.{queues_of}
use Rattle.run_setup.specs.declared.dealing.Dealing.{Dealing}
use Rattle.run_setup.specs.declared.opened.Opened.{Opened}
use Rattle.run_setup.specs.Ids.{RunIds}
use Rattle.run_setup.specs.Opening.{AreNewBases, HasOpened, IsDealing, IsPrinterColumn}
use Rattle.run_setup.specs.Rooms.{HasWorldRoom}
use Rattle.run_setup.specs.Rows.{print_head}
use Rattle.run_setup.specs.Slots.{IsCellPass}
use Rattle.run_setup.proofs.DealLemmas.{new-bases, open-columns, workers-length}

module _ {N : Type 0} where
  -- the parts of a run with so many workers, over these cells and these bases
  abbrev pub ids_of : ℕ → SeenCells → Opened N → RunIds
  ids_of workers cells opened = record { workers = workers; cells = cells; queues = queues_of opened.gathering.bases.items; printer = opened.printer.queue.queue }

  pub opened-columns : (asked : Asking) (workers : ℕ) (opened : Opened N) → HasOpened asked workers asked.bases opened
      → AreColumns gather_head (queues_of opened.gathering.bases.items) 1 (workers + 1) (workers + 1) (workers + 1) opened.gathering.columns.items
  opened-columns asked workers opened is = open-columns gather_head 1 asked.bases (workers + 1) opened.gathering is.gathering

  pub opened-bases : (asked : Asking) (workers : ℕ) (opened : Opened N) → HasOpened asked workers asked.bases opened → length (queues_of opened.gathering.bases.items) ≡ asked.bases
  opened-bases asked workers opened is = sym (opened-columns asked workers opened is).as_many ∙ is.gathering.columns

  pub opened-new : (asked : Asking) (workers : ℕ) (cells : SeenCells) (opened : Opened N) → HasOpened asked workers asked.bases opened → AreNewBases asked (ids_of workers cells opened) opened.gathering.bases.items
  opened-new asked workers cells opened is = new-bases asked (ids_of workers cells opened) opened.gathering refl is.gathering

  pub opened-column : (asked : Asking) (workers : ℕ) (cells : SeenCells) (opened : Opened N) → HasOpened asked workers asked.bases opened → IsPrinterColumn asked (ids_of workers cells opened) (suc asked.bases) opened.column
  opened-column asked workers cells opened is = record {
    is = subst (λ (n : ℕ). IsColumn (print_head asked) opened.printer.queue.queue (printer_exec asked.bases) (asked.bases + 1) n (asked.bases + 1) opened.column) (omega arith) is.column;
  }

  -- the pool has so many workers
  pub opened-workers : (asked : Asking) (workers : ℕ) (opened : Opened N) → HasOpened asked workers asked.bases opened → length opened.parts.workers.items ≡ workers
  opened-workers asked workers opened is = ap length is.pool.works_are ∙ workers-length opened.parts.pool.id 0 workers

module _ {N : Type 0} {g : Ghosts N} where
  -- nothing is dealt out yet
  pub dealing-first : (asked : Asking) (ids : RunIds) (d : Dealing N g) → length ids.queues ≡ asked.bases → d.cells.now ≡ ids.cells
      → AreColumns gather_head ids.queues 1 (ids.workers + 1) (ids.workers + 1) (ids.workers + 1) d.columns.items
      → length d.passes.items ≡ ids.workers + 1 → AreAll d.cells.now d.passes.items → length d.rooms.items ≡ ids.workers + 1 → All (HasWorldRoom asked.bases) d.rooms.items → IsDealing asked ids (suc ids.workers) d
  dealing-first asked ids d bases cells columns passes all rooms each = record {
    bases = bases;
    cells = cells;
    columns = subst (λ (n : ℕ). AreColumns gather_head ids.queues 1 (ids.workers + 1) n (ids.workers + 1) d.columns.items) (omega arith) columns;
    passes = omega (arith, passes);
    each_pass = All-weaker (λ (p : SeenPass). (p.cells ≡ d.cells.now) × (p.passes ≡ length d.passes.items)) (IsCellPass ids) (λ p is. record { cells = is.0 ∙ cells; passes = is.1 ∙ passes }) d.passes.items all.1;
    for_passes = omega (arith, passes, d.passes.ok.0, d.passes.ok.1);
    rooms = omega (arith, rooms);
    each_room = each;
  }

-- one end behind none is the only one
pub only-one : (ends rest : List EndSeen) (e : EndSeen) → ends ≡ rest ++ e ∷ [] → length ends ≡ 1 → ends ≡ e ∷ []
only-one ends [] e is one = is
only-one ends (x ∷ rest) e is one = absurd (omega (arith, ap length is, length-append rest (e ∷ []), one))
