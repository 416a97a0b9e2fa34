use Rattle.std.proofs.Common.{◌+◌, ◌||◌, Bool, length, length-append, map, sym, ap, ◌∙◌, arith, List, [], ◌∷◌, ◌++◌}
use Rattle.core_cells.specs.Seen.{SeenPass}
use Rattle.core_word.specs.Count.{Counts}
use Rattle.std.specs.List.{list_any}
use Rattle.std.proofs.lemmas.List.{length-map}
use Rattle.fan_model.specs.Tasks.{printer_exec}
use Rattle.run_gathering.specs.Gathering.{no_counts}
use Rattle.run_tasks.specs.declared.world.TaskEnds.{TaskEnds}
use Rattle.run_setup.specs.Closing.{merged, merged_with}
use Rattle.run_setup.proofs.CollectLemmas.{all-passes, all_make, columns-start, merged-append, none_both, printer-start, slot_makes, slot_refused, slot_tally, worlds_hand_none}
use Rattle.run_setup.proofs.SlotLemmas.{neither, none-of}
use Rattle.run_setup.proofs.closing.close_run.Goals as goal

pub put_all-requires-clause-back : goal.put_all-requires-clause-back
put_all-requires-clause-back g c =
    let r = c.requires.all in
    (r.0, columns-start r.0 c.args.back.columns.items r.1.rooms.columns, r.1.worked)

pub put_all-requires-clause-room : goal.put_all-requires-clause-room
put_all-requires-clause-room g c =
    let r = c.requires.all in
    omega (arith, ap length r.1.rooms.no_passes, r.1.worked.as_many, r.1.rooms.for_passes)

pub put-requires-clause-back : goal.put-requires-clause-back
put-requires-clause-back g c =
    let r = c.requires.all in
    (r.0, 0, c.put_all.ensures.columns r.0 (columns-start r.0 c.args.back.columns.items r.1.rooms.columns) r.1.worked, r.1.front_ended)

pub put-requires-clause-room : goal.put-requires-clause-room
put-requires-clause-room g c =
    let r = c.requires.all in
    let pass_of = λ (w : TaskEnds g.row.N.Denot). w.pass in
    omega (arith, ap length c.put_all.ensures.passes, length-append c.args.back.passes.items (map pass_of c.args.worlds.items), length-map c.args.worlds.items pass_of, ap length r.1.rooms.no_passes, r.1.worked.as_many, c.put_all.ensures.capacity, r.1.rooms.for_passes)

pub close_all-requires-clause-bases : goal.close_all-requires-clause-bases
close_all-requires-clause-bases g c =
    let r = c.requires.all in
    let one = c.put_all.ensures.columns r.0 (columns-start r.0 c.args.back.columns.items r.1.rooms.columns) r.1.worked in
    (r.0, r.1.bases, r.1.gathered, c.put.ensures.columns r.0 0 one r.1.front_ended, printer-start g.N.RunName.asked r.0 c.args.back.printer r.1.rooms.printer)

pub put_one-requires : goal.put_one-requires
put_one-requires g c =
    let r = c.requires.all in
    let asked = g.N.RunName.asked in
    let one = c.put_all.ensures.columns r.0 (columns-start r.0 c.args.back.columns.items r.1.rooms.columns) r.1.worked in
    let last = c.close_all.ensures.printer r.0 r.1.bases r.1.gathered (c.put.ensures.columns r.0 0 one r.1.front_ended) (printer-start asked r.0 c.args.back.printer r.1.rooms.printer) in
    record { back = (r.0.printer, printer_exec asked.bases, asked.bases + 1, 0, 0, last.is) }

pub destroy_empty-requires : goal.destroy_empty-requires
destroy_empty-requires g c =
    let r = c.requires.all in
    let asked = g.N.RunName.asked in
    let one = c.put_all.ensures.columns r.0 (columns-start r.0 c.args.back.columns.items r.1.rooms.columns) r.1.worked in
    let last = c.close_all.ensures.printer r.0 r.1.bases r.1.gathered (c.put.ensures.columns r.0 0 one r.1.front_ended) (printer-start asked r.0 c.args.back.printer r.1.rooms.printer) in
    let whole = c.put_one.ensures r.0.printer (printer_exec asked.bases) (asked.bases + 1) 0 0 last.is r.1.poster_ended.is in
    omega (arith, whole.posters.0, c.put_one.new.column.posters.ok.0)

pub close_printing-print-requires-clause-ends : goal.close_printing-print-requires-clause-ends
close_printing-print-requires-clause-ends g c =
    let r = c.requires.all in
    let asked = g.N.RunName.asked in
    let one = c.put_all.ensures.columns r.0 (columns-start r.0 c.args.back.columns.items r.1.rooms.columns) r.1.worked in
    let last = c.close_all.ensures.printer r.0 r.1.bases r.1.gathered (c.put.ensures.columns r.0 0 one r.1.front_ended) (printer-start asked r.0 c.args.back.printer r.1.rooms.printer) in
    let whole = c.put_one.ensures r.0.printer (printer_exec asked.bases) (asked.bases + 1) 0 0 last.is r.1.poster_ended.is in
    (c.all_are_back.ensures r.0.printer (printer_exec asked.bases) (asked.bases + 1) c.put_one.new.column.ends.items c.args.printer.base.queue whole.back r.1.printed.queue r.1.printed.senders).0

pub close_printing-print-requires-clause-exec : goal.close_printing-print-requires-clause-exec
close_printing-print-requires-clause-exec g c = c.requires.all.1.printed.exec

pub returns-clause-tally : goal.returns-clause-tally
returns-clause-tally g c = λ calm.
    let worlds = map (λ (w : TaskEnds g.row.N.Denot). w.tally) c.args.worlds.items in
    let bases = map slot_tally c.args.gatherers.items in
    let none = (neither c.put.new.self.counted.refused (list_any slot_refused c.args.gatherers.items) (sym c.close_all.ensures.refused ∙ calm)).1 in
    let theirs = c.put_all.ensures.tally ∙ ap (λ (t : Counts). merged_with t worlds) c.new.ensures.tally in
    let all = c.put.ensures.tally ∙ ap (λ (t : Counts). merged t c.args.front.tally) theirs in
    c.close_all.ensures.tally none ∙ (ap (λ (t : Counts). merged_with t bases) all ∙ sym (merged-append no_counts worlds (c.args.front.tally ∷ bases)))

pub returns-clause-handed : goal.returns-clause-handed
returns-clause-handed g c = λ calm.
    let r = c.requires.all in
    let worlds = list_any (λ (w : TaskEnds g.row.N.Denot). w.refused) c.args.worlds.items in
    let both = neither c.put.new.self.counted.refused (list_any slot_refused c.args.gatherers.items) (sym c.close_all.ensures.refused ∙ calm) in
    let theirs = c.put_all.ensures.refused ∙ ap (λ (b : Bool). b || worlds) c.new.ensures.refused in
    let before = neither worlds c.args.front.refused (sym (c.put.ensures.refused ∙ ap (λ (b : Bool). b || c.args.front.refused) theirs) ∙ both.0) in
    let each = none-of (λ (w : TaskEnds g.row.N.Denot). w.refused) c.args.worlds.items before.0 in
    let begun = ap (λ (t : Counts). t.handed) c.new.ensures.tally in
    let of_worlds = ap (λ (t : Counts). t.handed) c.put_all.ensures.tally
    ∙ worlds_hand_none c.new.result.tally c.args.worlds.items begun (λ k d below. (r.1.worked.each k d (omega (arith, below, r.1.worked.as_many))).handed (each k d below)) in
    let of_front = ap (λ (t : Counts). t.handed) c.put.ensures.tally ∙ none_both c.put_all.new.self.counted.tally.handed c.args.front.tally.handed of_worlds (r.1.front_ended.handed before.1) in
    c.close_all.ensures.handed both.1 of_front

pub returns-clause-made : goal.returns-clause-made
returns-clause-made g c = λ n calm of_front.
    let r = c.requires.all in
    let worlds = list_any (λ (w : TaskEnds g.row.N.Denot). w.refused) c.args.worlds.items in
    let both = neither c.put.new.self.counted.refused (list_any slot_refused c.args.gatherers.items) (sym c.close_all.ensures.refused ∙ calm) in
    let theirs = c.put_all.ensures.refused ∙ ap (λ (b : Bool). b || worlds) c.new.ensures.refused in
    let before = neither worlds c.args.front.refused (sym (c.put.ensures.refused ∙ ap (λ (b : Bool). b || c.args.front.refused) theirs) ∙ both.0) in
    let of_worlds = none-of (λ (w : TaskEnds g.row.N.Denot). w.refused) c.args.worlds.items before.0 in
    let of_bases = none-of slot_refused c.args.gatherers.items both.1 in
    all_make n c.args.worlds.items c.args.front.tally c.args.gatherers.items no_counts _ (omega arith) (returns-clause-tally g c calm)
    (λ k d below. r.1.worked.made k d (omega (arith, below, r.1.worked.as_many)) (of_worlds k d below)) of_front
    (λ k d below. slot_makes g.N.RunName.asked r.0 k _ (r.1.gathered.each k d (omega (arith, below, r.1.gathered.as_many))) (of_bases k d below))

pub returns-clause-refused : goal.returns-clause-refused
returns-clause-refused g c =
    let worlds = list_any (λ (w : TaskEnds g.row.N.Denot). w.refused) c.args.worlds.items in
    let bases = list_any slot_refused c.args.gatherers.items in
    let theirs = c.put_all.ensures.refused ∙ ap (λ (b : Bool). b || worlds) c.new.ensures.refused in
    let all = c.put.ensures.refused ∙ ap (λ (b : Bool). b || c.args.front.refused) theirs in
    c.close_all.ensures.refused ∙ ap (λ (b : Bool). b || bases) all

pub returns-clause-emptied : goal.returns-clause-emptied
returns-clause-emptied g c = λ calm.
    c.close_all.ensures.emptied (neither c.put.new.self.counted.refused (list_any slot_refused c.args.gatherers.items) (sym c.close_all.ensures.refused ∙ calm)).1

pub returns-clause-passes : goal.returns-clause-passes
returns-clause-passes g c = λ ids all. all-passes ids c.args.worlds.items c.args.front c.args.back.passes.items c.put.new.self.passes.items all.worked all.front_ended all.rooms.no_passes
    (c.put.ensures.pass ∙ ap (λ (l : List SeenPass). l ++ c.args.front.pass ∷ []) c.put_all.ensures.passes)
