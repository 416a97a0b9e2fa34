use Rattle.std.proofs.Common.{rules, sym, ◌∙◌, true≢false}
use Rattle.fanout.proofs.Totals.{both_agree, cores_of_both, puts_of_both}
use Rattle.fanout.proofs.ending.agree.Goals as goal

pub returns-then-cores_agree : goal.returns-then-cores_agree
returns-then-cores_agree g c =
    let counted = c.args.plan.now.counted.now in (
      λ puts. both_agree g.N.RunName.asked counted _ c.args.tally.now c.args.notes.now c.requires.plan.counts (search rules) (c.cores_agree.ensures.0 c.if-cores_agree.true) (c.puts_agree.ensures.0 puts),
      λ both. c.puts_agree.ensures.1 (puts_of_both g.N.RunName.asked counted _ c.args.tally.now c.args.notes.now (search rules) both),
    )

pub returns-else-cores_agree : goal.returns-else-cores_agree
returns-else-cores_agree g c =
    let counted = c.args.plan.now.counted.now in (
      λ never. absurd (true≢false (sym never ∙ c.if-cores_agree.false)),
      λ both. c.cores_agree.ensures.1 (cores_of_both g.N.RunName.asked counted _ c.args.tally.now c.args.notes.now c.requires.plan.counts (search rules) both),
    )
