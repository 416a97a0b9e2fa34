use Rattle.std.proofs.Common.{◌≡◌, ◌+◌, ℕ, List, [], ◌∷◌, length, refl, sym, ap, ◌∙◌, subst, arith}
use Rattle.std.proofs.lemmas.List.{nil_from_length}
use Rattle.fan_model.specs.Tasks.{pool_exec, printer_exec}
use Rattle.fan_parts.specs.declared.jobs.PrintJob.{PrintJob}
use Rattle.notify_queue.specs.Ends.{Sending}
use Rattle.pool_model.specs.Seen.{EndSeen, WorkerSeen}
use Rattle.prio_pool.specs.Made.{IsNewPool, new_workers}
use Rattle.run_setup.specs.Opening.{HasOpened}
use Rattle.run_setup.specs.Rooms.{HasRooms}
use Rattle.run_setup.proofs.DealLemmas.{poster-new}
use Rattle.run_setup.proofs.OpenedLemmas.{dealing-first, ids_of, only-one, opened-bases, opened-column, opened-columns, opened-new, opened-workers}
use Rattle.run_setup.proofs.opening.deal_out.Goals as goal

pub gather_slots-gatherers-requires-clause-bases : goal.gather_slots-gatherers-requires-clause-bases
gather_slots-gatherers-requires-clause-bases g c =
    let asked = g.N.RunName.asked in
    let o = subst (λ (n : ℕ). HasOpened asked c.args.workers n c.args.opened) c.requires.bases.0 c.requires.opened in
    (ids_of c.args.workers c.args.cells.now c.args.opened, opened-new asked c.args.workers c.args.cells.now c.args.opened o, opened-column asked c.args.workers c.args.cells.now c.args.opened o)

pub gather_slots-gatherers-requires-clause-tables : goal.gather_slots-gatherers-requires-clause-tables
gather_slots-gatherers-requires-clause-tables g c = c.requires.tables ∙ sym c.requires.opened.gathering.as_many

pub take_one-requires : goal.take_one-requires
take_one-requires g c =
    let asked = g.N.RunName.asked in
    let o = subst (λ (n : ℕ). HasOpened asked c.args.workers n c.args.opened) c.requires.bases.0 c.requires.opened in
    let ids = ids_of c.args.workers c.args.cells.now c.args.opened in
    let column = c.gather_slots-gatherers.ensures.column ids (opened-new asked c.args.workers c.args.cells.now c.args.opened o) (opened-column asked c.args.workers c.args.cells.now c.args.opened o) in
    record { left = (ids.printer, printer_exec asked.bases, asked.bases + 1, 0, asked.bases + 1, column.is) }

pub new-poster-requires : goal.new-poster-requires
new-poster-requires g c =
    let asked = g.N.RunName.asked in
    let o = subst (λ (n : ℕ). HasOpened asked c.args.workers n c.args.opened) c.requires.bases.0 c.requires.opened in
    let ids = ids_of c.args.workers c.args.cells.now c.args.opened in
    let column = c.gather_slots-gatherers.ensures.column ids (opened-new asked c.args.workers c.args.cells.now c.args.opened o) (opened-column asked c.args.workers c.args.cells.now c.args.opened o) in
    ap (λ (s : Sending (PrintJob g.row.N.Denot)). s.sent) (c.take_one.ensures.poster ids.printer (printer_exec asked.bases) (asked.bases + 1) 0 (asked.bases + 1) column.is)

pub all_workers-all-requires-clause-room : goal.all_workers-all-requires-clause-room
all_workers-all-requires-clause-room g c =
    let asked = g.N.RunName.asked in
    let o = subst (λ (n : ℕ). HasOpened asked c.args.workers n c.args.opened) c.requires.bases.0 c.requires.opened in
    omega (arith, opened-workers asked c.args.workers c.args.opened o, c.requires.rooms.slots.for_workers)

pub all_workers-all-requires-clause-passes : goal.all_workers-all-requires-clause-passes
all_workers-all-requires-clause-passes g c =
    let asked = g.N.RunName.asked in
    let o = subst (λ (n : ℕ). HasOpened asked c.args.workers n c.args.opened) c.requires.bases.0 c.requires.opened in
    let pool = c.args.opened.parts.pool.id in
    (pool, o.pool.works_are ∙ ap (new_workers pool 0) (sym (opened-workers asked c.args.workers c.args.opened o)))

pub all_workers-all-requires-clause-left : goal.all_workers-all-requires-clause-left
all_workers-all-requires-clause-left g c =
    let asked = g.N.RunName.asked in
    let o = subst (λ (n : ℕ). HasOpened asked c.args.workers n c.args.opened) c.requires.bases.0 c.requires.opened in
    let r = subst (λ (n : ℕ). HasRooms c.args.workers n c.args.rooms) c.requires.bases.0 c.requires.rooms in
    let ids = ids_of c.args.workers c.args.cells.now c.args.opened in (
      ids,
      opened-workers asked c.args.workers c.args.opened o,
      dealing-first asked ids _ (opened-bases asked c.args.workers c.args.opened o) refl (opened-columns asked c.args.workers c.args.opened o) c.requires.passes c.requires.all r.worlds r.each_world,
    )

pub next_world-world-requires-clause-left : goal.next_world-world-requires-clause-left
next_world-world-requires-clause-left g c =
    let asked = g.N.RunName.asked in
    let o = subst (λ (n : ℕ). HasOpened asked c.args.workers n c.args.opened) c.requires.bases.0 c.requires.opened in
    let r = subst (λ (n : ℕ). HasRooms c.args.workers n c.args.rooms) c.requires.bases.0 c.requires.rooms in
    let ids = ids_of c.args.workers c.args.cells.now c.args.opened in (
      ids,
      0,
      c.all_workers-all.ensures.rest ids (opened-workers asked c.args.workers c.args.opened o)
          (dealing-first asked ids _ (opened-bases asked c.args.workers c.args.opened o) refl (opened-columns asked c.args.workers c.args.opened o) c.requires.passes c.requires.all r.worlds r.each_world),
    )

pub destroy_empty-requires : goal.destroy_empty-requires
destroy_empty-requires g c =
    let asked = g.N.RunName.asked in
    let o = subst (λ (n : ℕ). HasOpened asked c.args.workers n c.args.opened) c.requires.bases.0 c.requires.opened in
    let r = subst (λ (n : ℕ). HasRooms c.args.workers n c.args.rooms) c.requires.bases.0 c.requires.rooms in
    let ids = ids_of c.args.workers c.args.cells.now c.args.opened in
    let left = c.next_world-world.ensures.rest ids 0 (c.all_workers-all.ensures.rest ids (opened-workers asked c.args.workers c.args.opened o)
    (dealing-first asked ids _ (opened-bases asked c.args.workers c.args.opened o) refl (opened-columns asked c.args.workers c.args.opened o) c.requires.passes c.requires.all r.worlds r.each_world)) in
    omega (arith, left.rooms, c.next_world-world.new.self.rooms.ok.0)

pub returns-clause-setup : goal.returns-clause-setup
returns-clause-setup g c =
    let asked = g.N.RunName.asked in
    let o = subst (λ (n : ℕ). HasOpened asked c.args.workers n c.args.opened) c.requires.bases.0 c.requires.opened in
    let r = subst (λ (n : ℕ). HasRooms c.args.workers n c.args.rooms) c.requires.bases.0 c.requires.rooms in
    let ids = ids_of c.args.workers c.args.cells.now c.args.opened in
    let pool = c.args.opened.parts.pool in
    let new = opened-new asked c.args.workers c.args.cells.now c.args.opened o in
    let column = opened-column asked c.args.workers c.args.cells.now c.args.opened o in
    let one_left = c.gather_slots-gatherers.ensures.column ids new column in
    let taken = c.take_one.ensures.poster ids.printer (printer_exec asked.bases) (asked.bases + 1) 0 (asked.bases + 1) one_left.is in
    let many = opened-workers asked c.args.workers c.args.opened o in
    let worlds_left = c.all_workers-all.ensures.rest ids many
    (dealing-first asked ids _ (opened-bases asked c.args.workers c.args.opened o) refl (opened-columns asked c.args.workers c.args.opened o) c.requires.passes c.requires.all r.worlds r.each_world) in
    let left = c.next_world-world.ensures.rest ids 0 worlds_left in
    let helpers : c.args.opened.parts.helpers.items ≡ c.in-Some.helper ∷ [] = only-one c.args.opened.parts.helpers.items c.pop.new.self.items c.in-Some.helper c.in-Some.ensures.items (ap length o.pool.helps_are) in (
      ids,
      refl,
      refl,
      record {
        bases = opened-bases asked c.args.workers c.args.opened o;
        gatherers = c.gather_slots-gatherers.ensures.slots ids new column;
        printer = o.printer.is_new;
        workers = c.all_workers-all.ensures.workers pool.id ids o.pool.works_are
            (dealing-first asked ids _ (opened-bases asked c.args.workers c.args.opened o) refl (opened-columns asked c.args.workers c.args.opened o) c.requires.passes c.requires.all r.worlds r.each_world);
        world = c.next_world-world.ensures.world ids 0 worlds_left;
        poster = poster-new asked ids 0 c.new-poster.result c.take_one.result _ c.new-poster.ensures taken (ap printer_exec c.requires.bases.0);
        pool = subst (λ (l : List EndSeen). IsNewPool pool_exec 3 1 ids.workers 1 0 pool c.args.opened.parts.owner c.args.opened.parts.keep c.args.opened.parts.adders.items (new_workers pool.id 0 ids.workers) l) helpers
            (subst (λ (l : List WorkerSeen). IsNewPool pool_exec 3 1 ids.workers 1 0 pool c.args.opened.parts.owner c.args.opened.parts.keep c.args.opened.parts.adders.items l c.args.opened.parts.helpers.items) o.pool.works_are o.pool);
        ends = record { no_ends = r.ends.no_ends; no_worlds = r.slots.no_worlds; for_ends = r.ends.for_ends; for_worlds = r.slots.for_worlds };
        no_helped = r.ends.no_helped;
        for_helped = r.ends.for_helped;
        back = record {
          columns = left.columns;
          printer = c.take_one.ensures.column ids.printer (printer_exec asked.bases) (asked.bases + 1) 0 (asked.bases + 1) one_left.is;
          no_notes = r.no_notes;
          no_passes = nil_from_length c.next_world-world.new.self.passes.items left.passes;
          for_notes = r.for_notes;
          for_passes = left.for_passes;
        };
      },
    )
