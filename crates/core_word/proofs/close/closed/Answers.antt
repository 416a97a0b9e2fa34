use Rattle.std.proofs.Common.{ap, subst}
use Rattle.core_word.specs.Plays.{HasKey}
use Rattle.core_word.proofs.Ending.{unbegun_words}
use Rattle.core_word.proofs.close.closed.Goals as goal

pub returns-in-Some-clause-unbegun : goal.returns-in-Some-clause-unbegun
returns-in-Some-clause-unbegun g c some =
    let sits = subst (HasKey _) c.in-Some.is c.requires in
    unbegun_words _ _ (ap (λ me. me.0) sits.stands) _ _ c.close_with.ensures.values.2
