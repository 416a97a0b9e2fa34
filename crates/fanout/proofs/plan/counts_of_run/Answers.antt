use Rattle.std.proofs.Common.{subst}
use Rattle.std.proofs.lemmas.Result.{IfOk-weaker}
use Rattle.run_notes.specs.Counting.{HasCounted}
use Rattle.fanout.proofs.plan.counts_of_run.Goals as goal

pub returns-clause-counted : goal.returns-clause-counted
returns-clause-counted g c =
    let asked = g.N.RunName.asked in
    IfOk-weaker c.count.result (HasCounted c.args.lines.now c.args.bases) (HasCounted asked.lines asked.bases)
    (λ counted has.
    subst (λ n. HasCounted asked.lines n counted) c.requires.bases.1
    (c.alike_lines_have_the_same_turns.ensures.counts c.args.lines.now asked.lines c.args.bases counted c.requires.alike has)) c.count.ensures.counted
