use Rattle.std.proofs.Common.{subst}
use Rattle.collect_ops.specs.Answers.{Gathered, KeptBy, MatchArrived}
use Rattle.collect_ops.specs.declared.answer.Arrived.{Arrived}
use Rattle.runtime_examples.proofs.Desks.{both_listed}
use Rattle.runtime_examples.proofs.collected.arrive_both.Goals as goal

pub returns-in-More-Complete : goal.returns-in-More-Complete
returns-in-More-Complete c =
    let zero = c.args.zero in
    let one = c.args.one in
    let met = c.in-More-Complete in
    let whole : Gathered zero c.args.outcomes.0 met.list met.end met.done =
    subst (λ (a : Arrived _ _ _ _). MatchArrived a (λ list end done. Gathered zero c.args.outcomes.0 list end done) (λ _ _. ⊥) (λ receipt. KeptBy zero c.args.outcomes.0 receipt)) met.is-1 c.arrive-late.ensures.what in
    let kept : KeptBy one c.args.outcomes.1 met.receipt =
    subst (λ (a : Arrived _ _ _ _). MatchArrived a (λ list end done. Gathered one c.args.outcomes.1 list end done) (λ _ _. ⊥) (λ receipt. KeptBy one c.args.outcomes.1 receipt)) met.is-0 c.arrive-early.ensures.what in
    (both_listed zero one c.args.outcomes.0 c.args.outcomes.1 met.list met.end met.done met.receipt c.requires.indexes.0 c.requires.indexes.1 c.requires.desk.1 whole kept c.lists.ensures.listed, whole.end_is)
