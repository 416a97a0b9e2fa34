use Rattle.std.proofs.Common.{ap, subst}
use Rattle.semi_defer.specs.Steps.{HasPair}
use Rattle.semi_defer.proofs.Endings.{untouched}
use Rattle.semi_defer.proofs.home.closed.Goals as goal

pub returns-in-Some-clause-untouched : goal.returns-in-Some-clause-untouched
returns-in-Some-clause-untouched g c some =
    let sits = subst (HasPair _) c.in-Some.is c.requires in
    untouched _ _ (ap (λ me. me.0) sits.stands) _ _ c.close_with.ensures.values.2
