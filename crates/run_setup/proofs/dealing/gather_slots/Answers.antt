use Rattle.std.proofs.Common.{◌≡◌, ◌+◌, suc, List, [], ◌∷◌, length, length-append, refl, sym, ap, ◌∙◌, subst, arith}
use Rattle.std.specs.Prelude.{Some, None}
use Rattle.std.specs.Vec.Iter.{into_iter_items}
use Rattle.event_base.specs.Seen.{BaseSeen}
use Rattle.fan_model.specs.Tasks.{printer_exec}
use Rattle.fan_parts.specs.declared.jobs.GatherJob.{GatherJob}
use Rattle.fan_parts.specs.declared.jobs.PrintJob.{PrintJob}
use Rattle.notify_queue.specs.Ends.{Sending}
use Rattle.run_threads.specs.declared.gatherer.GatherSlot.{GatherSlot}
use Rattle.run_setup.specs.Opening.{AreNewBases}
use Rattle.run_setup.proofs.DealLemmas.{SlotsSoFar, poster-new, slots-all, slots-more, slots-none, tables-all, tables-more, tables-none}
use Rattle.run_setup.proofs.dealing.gather_slots.Goals as goal

pub loop-base-init : goal.loop-base-init
loop-base-init g c =
    let items = into_iter_items c.into_iter-left.result in
    let same : items ≡ c.args.bases.items = c.into_iter-left.ensures.rest in
    record {
      room = omega (arith, ap length same, ap length c.requires.empty, c.requires.room);
      tables = omega (arith, ap length same, ap length c.into_iter-given.ensures.rest, c.requires.tables);
      dealt = tables-none c.args.room.items (into_iter_items c.into_iter-given.result) c.args.tables.items c.requires.empty c.into_iter-given.ensures.rest;
      so_far = λ ids are is. slots-none g.N.RunName.asked ids c.args.room.items items c.args.column.now c.requires.empty
          (subst (λ (l : List (BaseSeen (GatherJob g.row.N.Denot))). AreNewBases g.N.RunName.asked ids l) (sym same) are) is;
    }

pub take_one-requires : goal.take_one-requires
take_one-requires g c =
    let asked = g.N.RunName.asked in
    let r = c.requires.bases in
    let next = c.in-Some.ensures.cases.0 in
    let rest = into_iter_items c.next.new.self in
    let so = subst (λ (l : List (BaseSeen (GatherJob g.row.N.Denot))). SlotsSoFar asked r.0 c.loop-base.slots.items l c.loop-base.column) next (c.loop-base.invariant.so_far r.0 r.1 r.2) in
    record { left = (r.0.printer, printer_exec asked.bases, asked.bases + 1, suc (length rest), asked.bases + 1, so.column_is.is) }

pub new-poster-requires : goal.new-poster-requires
new-poster-requires g c =
    let asked = g.N.RunName.asked in
    let r = c.requires.bases in
    let next = c.in-Some.ensures.cases.0 in
    let rest = into_iter_items c.next.new.self in
    let so = subst (λ (l : List (BaseSeen (GatherJob g.row.N.Denot))). SlotsSoFar asked r.0 c.loop-base.slots.items l c.loop-base.column) next (c.loop-base.invariant.so_far r.0 r.1 r.2) in
    ap (λ (s : Sending (PrintJob g.row.N.Denot)). s.sent) (c.take_one.ensures.poster r.0.printer (printer_exec asked.bases) (asked.bases + 1) (suc (length rest)) (asked.bases + 1) so.column_is.is)

pub loop-base-preserved : goal.loop-base-preserved
loop-base-preserved g c =
    let asked = g.N.RunName.asked in
    let i = c.loop-base.invariant in
    let made = c.loop-base.slots.items in
    let rest = into_iter_items c.next.new.self in
    let next : into_iter_items c.loop-base.left ≡ c.in-Some.base ∷ rest = c.in-Some.ensures.cases.0 in
    let slot : GatherSlot g.row.N.Denot g.N.RunName = record { base = Some c.in-Some.base; printer = Some c.new-poster.result; table = Some c.in-Some-next.table; shards = c.again.result; stage = None; alloc = c.args.alloc } in
    let pushed = c.push_reserved.ensures.items in
    let long : length c.push_reserved.new.self.items ≡ suc (length made) = omega (arith, ap length pushed, length-append made (slot ∷ [])) in
    record {
      room = omega (arith, i.room, long, ap length next, c.push_reserved.ensures.capacity);
      tables = omega (arith, i.tables, ap length next, ap length c.in-Some-next.ensures.cases.0);
      dealt = tables-more made c.push_reserved.new.self.items slot (into_iter_items c.loop-base.given) _ c.args.tables.items c.in-Some-next.table c.in-Some-next.ensures.cases.0 refl pushed i.dealt;
      so_far = λ ids are is.
          let so = subst (λ (l : List (BaseSeen (GatherJob g.row.N.Denot))). SlotsSoFar asked ids made l c.loop-base.column) next (i.so_far ids are is) in
          let taken = c.take_one.ensures.poster ids.printer (printer_exec asked.bases) (asked.bases + 1) (suc (length rest)) (asked.bases + 1) so.column_is.is in
          let after = c.take_one.ensures.column ids.printer (printer_exec asked.bases) (asked.bases + 1) (suc (length rest)) (asked.bases + 1) so.column_is.is in
          subst (λ (l : List (GatherSlot g.row.N.Denot g.N.RunName)). SlotsSoFar asked ids l rest c.take_one.new.column) (sym pushed)
          (slots-more asked ids made c.in-Some.base rest c.loop-base.column c.take_one.new.column slot so refl
          (ap Some (poster-new asked ids (suc (length rest)) c.new-poster.result c.take_one.result c.args.printer c.new-poster.ensures taken c.requires.printer)) c.in-Some-next.table refl refl record { is = after });
    }

pub returns-clause-slots : goal.returns-clause-slots
returns-clause-slots g c = λ ids are is.
    let none : length (into_iter_items c.loop-base.left) ≡ 0 = omega (arith, c.in_default.ensures.cases.0, c.loop-base.left.rest.ok.0) in
    (slots-all g.N.RunName.asked ids c.loop-base.slots.items (into_iter_items c.loop-base.left) c.loop-base.column (c.loop-base.invariant.so_far ids are is) none).0

pub returns-clause-column : goal.returns-clause-column
returns-clause-column g c = λ ids are is.
    let none : length (into_iter_items c.loop-base.left) ≡ 0 = omega (arith, c.in_default.ensures.cases.0, c.loop-base.left.rest.ok.0) in
    (slots-all g.N.RunName.asked ids c.loop-base.slots.items (into_iter_items c.loop-base.left) c.loop-base.column (c.loop-base.invariant.so_far ids are is) none).1

pub returns-clause-tables : goal.returns-clause-tables
returns-clause-tables g c =
    let none : length (into_iter_items c.loop-base.left) ≡ 0 = omega (arith, c.in_default.ensures.cases.0, c.loop-base.left.rest.ok.0) in
    tables-all c.loop-base.slots.items (into_iter_items c.loop-base.given) c.args.tables.items (c.loop-base.invariant.tables ∙ none) c.loop-base.invariant.dealt
