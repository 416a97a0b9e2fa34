use Rattle.std.proofs.Common.{◌-◌, sym, ap, ◌∙◌, subst, arith}
use Rattle.std.specs.Prelude.{Option}
use Rattle.std.proofs.lemmas.Option.{same_Some}
use Rattle.core_word.specs.Count.{Counts, added}
use Rattle.fan_base.specs.declared.number.ExecId.{ExecId}
use Rattle.fan_parts.specs.declared.jobs.PrintJob.{PrintJob}
use Rattle.fan_parts.specs.Heads.{gather_head}
use Rattle.event_base.specs.Closing.{AreOn}
use Rattle.notify_queue.specs.Ends.{Sending}
use Rattle.run_gathering.specs.declared.looping.GatherStage.{GatherStage}
use Rattle.run_setup.specs.Closing.{IsGathered, IsPrinterEnd, has_refused, tally_of}
use Rattle.run_setup.proofs.collecting.close_slot.Goals as goal

pub destroy_empty-requires : goal.destroy_empty-requires
destroy_empty-requires g c =
    let r = c.requires in
    omega (arith, (r.3.is r.0.printer).posters.0, c.args.column.posters.ok.0)

pub close_gathering-requires-clause-ends : goal.close_gathering-requires-clause-ends
close_gathering-requires-clause-ends g c =
    let r = c.requires in
    let q = r.0.printer in
    let stage = c.in-Some.stage in
    let is = subst (λ (s : GatherStage g.row.N.Denot). IsGathered g.N.RunName.asked r.0 r.1 s) (same_Some r.2.stage stage (sym r.2.has ∙ c.in-Some.is)) r.2.is in
    (c.all_are_back.ensures _ _ _ c.args.column.ends.items stage.base.queue (r.3.is q).back (is.queue q) is.senders).0

pub close_gathering-requires-clause-posts : goal.close_gathering-requires-clause-posts
close_gathering-requires-clause-posts g c =
    let r = c.requires in
    let q = r.0.printer in
    let stage = c.in-Some.stage in
    let is = subst (λ (s : GatherStage g.row.N.Denot). IsGathered g.N.RunName.asked r.0 r.1 s) (same_Some r.2.stage stage (sym r.2.has ∙ c.in-Some.is)) r.2.is in
    subst (λ (e : ExecId). AreOn gather_head e c.args.column.ends.items) (sym is.exec) (c.all_are_back.ensures _ _ _ c.args.column.ends.items stage.base.queue (r.3.is q).back (is.queue q) is.senders).1

pub returns-clause-emptied : goal.returns-clause-emptied
returns-clause-emptied g c = λ ids k slot calm.
    let stage = c.in-Some.stage in
    let is = subst (λ (s : GatherStage g.row.N.Denot). IsGathered g.N.RunName.asked ids k s) (same_Some slot.stage stage (sym slot.has ∙ c.in-Some.is)) slot.is in
    let note = c.close_gathering.ensures.note (is.dry (sym c.close_gathering.ensures.refused ∙ calm)) in
    record { exec = c.close_gathering.ensures.exec ∙ is.exec; taken = sym note.0; left = note.1 }

pub returns-clause-printer : goal.returns-clause-printer
returns-clause-printer g c = λ ids k slot.
    let stage = c.in-Some.stage in
    let is = subst (λ (s : GatherStage g.row.N.Denot). IsGathered g.N.RunName.asked ids k s) (same_Some slot.stage stage (sym slot.has ∙ c.in-Some.is)) slot.is in
    subst (λ (e : Sending (PrintJob g.row.N.Denot)). IsPrinterEnd g.N.RunName.asked ids (g.N.RunName.asked.bases - k) e) (sym c.close_gathering.ensures.printer) is.printer

pub returns-clause-tally : goal.returns-clause-tally
returns-clause-tally g c = λ ids k slot calm.
    let stage = c.in-Some.stage in
    let is = subst (λ (s : GatherStage g.row.N.Denot). IsGathered g.N.RunName.asked ids k s) (same_Some slot.stage stage (sym slot.has ∙ c.in-Some.is)) slot.is in
    let was = sym c.close_gathering.ensures.refused ∙ calm in
    c.close_gathering.ensures.tally (is.dry was) (is.empty was) ∙ ap (λ (s : Option (GatherStage g.row.N.Denot)). tally_of s) (sym c.in-Some.is)

pub returns-clause-handed : goal.returns-clause-handed
returns-clause-handed g c = λ ids k slot calm.
    let stage = c.in-Some.stage in
    let is = subst (λ (s : GatherStage g.row.N.Denot). IsGathered g.N.RunName.asked ids k s) (same_Some slot.stage stage (sym slot.has ∙ c.in-Some.is)) slot.is in
    let was = sym c.close_gathering.ensures.refused ∙ calm in
    let note = c.close_gathering.ensures.note (is.dry was) in
    ap (λ (t : Counts). t.handed) (c.close_gathering.ensures.tally (is.dry was) (is.empty was)) ∙ (is.handed was ∙ ap (added 0) (sym c.close_gathering.ensures.taken ∙ sym note.0))

pub returns-clause-refused : goal.returns-clause-refused
returns-clause-refused g c = c.close_gathering.ensures.refused ∙ ap (λ (s : Option (GatherStage g.row.N.Denot)). has_refused s) (sym c.in-Some.is)
