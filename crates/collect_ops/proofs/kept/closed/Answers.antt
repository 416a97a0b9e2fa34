use Rattle.std.proofs.Common.{ap, subst}
use Rattle.collect_ops.specs.Steps.{HasDealer}
use Rattle.collect_ops.specs.Steps.{Standing}
use Rattle.collect_ops.proofs.Closing.{by_owner, by_dealer, by_dealer_untouched}
use Rattle.collect_ops.proofs.kept.closed.Goals as goal

pub returns-in-Some-clause-last : goal.returns-in-Some-clause-last
returns-in-Some-clause-last g c =
    let deals = subst (HasDealer _ _ _) c.in-Some.is c.requires.dealer in
    by_dealer _ _ _ _ _ _ _ deals.same (ap (λ (m : Standing g.row.X.Denot g.row.E.Denot). m.0) deals.dealer.sits.stands) c.close_with.ensures.values.2

pub returns-in-Some-clause-untouched : goal.returns-in-Some-clause-untouched
returns-in-Some-clause-untouched g c some =
    let deals = subst (HasDealer _ _ _) c.in-Some.is c.requires.dealer in
    by_dealer_untouched _ _ _ _ _ _ _ c.requires.some deals.same (ap (λ (m : Standing g.row.X.Denot g.row.E.Denot). m.0) deals.dealer.sits.stands) c.close_with.ensures.values.2

pub returns-in-None-clause-last : goal.returns-in-None-clause-last
returns-in-None-clause-last g c =
    by_owner _ _ _ _ _ _ (ap (λ (m : Standing g.row.X.Denot g.row.E.Denot). m.0) c.requires.owner.sits.stands) c.close_with-in-None.ensures.values.2
