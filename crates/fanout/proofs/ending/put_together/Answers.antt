use Rattle.std.proofs.Common.{length, ℕ, ◌≡◌, ◌+◌, ◌≤◌, ◌^◌, ap, sym, ◌∙◌, subst}
use Rattle.std.proofs.lemmas.List.{length-map}
use Rattle.core_word.specs.Count.{added}
use Rattle.fan_model.specs.Answered.{answered_in, tops_in}
use Rattle.query_model.specs.Order.{replies_of}
use Rattle.run_notes.specs.Counting.{ArePutBy, puts_of, totals_of}
use Rattle.run_notes.specs.Told.{run_of_direct, told_of}
use Rattle.run_printing.specs.Ends.{IsWhole}
use Rattle.fanout.proofs.Totals.{all_cores, forwarded_are, handed_whole, held_true, made_whole, printer_note, reported}
use Rattle.fanout.proofs.ending.put_together.Goals as goal

pub returns : goal.returns
returns g c = λ start now printed.
    let asked = g.N.RunName.asked in
    let ready = c.requires.ready.1 in
    let closed = c.close_run-notes.ensures in
    let result = c.close_run-notes.result in
    let many = c.each_query_has_a_reply.ensures.replies asked.lines in
    let queries : length c.args.plan.now.turns.now ≡ length (replies_of asked.lines) = c.turns_are_few.ensures.as_many asked.lines c.args.plan.now.turns.now c.requires.plan.turns_are ∙ sym many in
    c.of_run.ensures.ends asked start now (closed.wrote start now printed queries) ready.side.stopped
    (λ fine done.
    let all = c.is_fine-fine.ensures.0 fine in
    let agree = c.agree-agrees.ensures.0 all.0 in
    let queues = held_true _ _ all.1 c.list_notes-queues.ensures in
    let refused = sym closed.refused ∙ all.3 in
    let worlds = c.nothing_was_refused.ensures.worlds c.args.gatherers.items c.args.end.worlds.items c.args.end.left.ends.tasks refused in
    let front = c.nothing_was_refused.ensures.front c.args.gatherers.items c.args.end.worlds.items c.args.end.left.ends.tasks refused in
    let whole = subst (λ x. IsWhole asked.lines x result.print.queue result.print.tally) ready.all.printed.exec (closed.whole start now printed queries done) in
    let counted = c.args.plan.now.counted.now in
    let puts = subst (λ l. ArePutBy asked.shards counted.by_base.items l) c.as_slice.ensures.value agree.puts in
    let put = c.messages_are_tasks.ensures asked.lines asked.shards asked.bases counted result.notes.items c.requires.plan.countable.some_bases c.requires.plan.counts puts in
    let few = subst (λ n. n ≤ 2 ^ 32) c.requires.plan.counts.answered c.requires.plan.few.answered in
    let handed = ap (λ t. t.handed) c.merge-tally.ensures ∙ (ap (λ t. added t.handed result.print.tally.handed) c.merge.ensures
    ∙ handed_whole c.args.opening.handed result.tally.handed result.print.tally.handed (puts_of result.notes.items) (length (answered_in asked.lines)) asked.shards
    c.requires.opening (closed.handed all.3) (ap (λ t. t.handed) whole.tally) put few c.requires.plan.countable.few_shards) in
    let note = c.args.end.left.note in
    let report = ready.side.report all.2 front worlds in
    let tasks = ap (λ (late : ℕ). note.accepted + late) (sym (length-map note.direct run_of_direct)) ∙ c.accepted_or_late.ensures asked (told_of note) report in
    let few_tops = subst (λ n. n ≤ 2 ^ 32) c.requires.plan.counts.tops c.requires.plan.few.tops in
    let forwarded = sym (ap (λ t. t.forwarded) c.merge-tally.ensures ∙ ap (λ t. added t.forwarded result.print.tally.forwarded) c.merge.ensures)
    ∙ forwarded_are asked.lines asked.shards c.merge-tally.result agree.cores in
    let made = ap (λ t. t.made) c.merge-tally.ensures ∙ (ap (λ t. added t.made result.print.tally.made) c.merge.ensures
    ∙ made_whole c.args.opening result.tally result.print.tally (length (answered_in asked.lines)) asked.shards (note.accepted + length note.direct) (tops_in (answered_in asked.lines))
    c.requires.begun (closed.made _ all.3 (ready.side.made all.2 front)) (ap (λ t. t.made) whole.tally) (ap (λ t. t.forwarded) whole.tally)
    forwarded tasks few c.requires.plan.countable.few_shards few_tops) in
    reported asked _ note _ c.of_run.ensures.pool report (c.of_run.ensures.queues ∙ queues)
    (c.notes_are_those_of_the_run.ensures asked.lines asked.shards asked.bases c.args.plan.now.counted.now result.notes.items result.print.queue c.requires.plan.counts
    puts (closed.emptied all.3) (printer_note asked result.print.queue result.print.tally whole many))
    (ap totals_of c.of_run.ensures.cores ∙ all_cores asked.lines asked.shards c.merge-tally.result agree.cores made handed))
