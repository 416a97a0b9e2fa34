use Rattle.std.proofs.Common.{refl, ap}
use Rattle.collect_ops.specs.Views.{size_in, end_in}
use Rattle.collect_ops.specs.Steps.{Standing}
use Rattle.collect_ops.proofs.desk.Desk.open.Goals as goal

pub invariant_of-result : goal.invariant_of-result
invariant_of-result g c =
    let owner = c.deal_owner-owner.ensures.dealt _ c.open.ensures.stands in
    let dealer = c.deal_owner-owner.ensures.dealer _ c.open.ensures.stands in (
      c.requires.some,
      c.requires.desk,
      record { ending = c.args.ending; sits = owner },
      record { dealer = record { ending = c.args.ending; sits = dealer; room = c.requires.room }; same = ap (λ (m : Standing g.row.X.Denot g.row.E.Denot). end_in m.0) owner.stands },
    )

pub returns : goal.returns
returns g c =
    let owner = c.deal_owner-owner.ensures.dealt _ c.open.ensures.stands in
    (ap (λ (m : Standing g.row.X.Denot g.row.E.Denot). size_in m.0) owner.stands, ap (λ (m : Standing g.row.X.Denot g.row.E.Denot). end_in m.0) owner.stands, refl)
