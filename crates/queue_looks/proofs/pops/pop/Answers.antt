use Rattle.std.proofs.Common.{[], ◌∷◌, ◌++◌, ap, ◌∙◌}
use Rattle.queue_looks.specs.declared.pops.Noted.TheVariants.{Took, FoundEmpty}
use Rattle.queue_looks.proofs.pops.pop.Goals as goal

pub returns-in-Some-clause-noted : goal.returns-in-Some-clause-noted
returns-in-Some-clause-noted g c = c.and.ensures ∙ ap (λ p. c.args.trail.now.items ++ Took c.args.place (record { marker = record {}; value = p }) ∷ []) c.of-after.ensures

pub returns-in-None-clause-noted : goal.returns-in-None-clause-noted
returns-in-None-clause-noted g c = c.and-in-None.ensures ∙ ap (λ p. c.args.trail.now.items ++ FoundEmpty c.args.place (record { marker = record {}; value = p }) ∷ []) c.of-after.ensures
