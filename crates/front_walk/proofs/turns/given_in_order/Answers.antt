use Rattle.fan_model.specs.Comings.{comings_of}
use Rattle.front_walk.proofs.Giving.{early_given, late_given}
use Rattle.front_walk.proofs.turns.given_in_order.Goals as goal

pub returns : goal.returns
returns g c =
    let lines = g.H.AtTurn.lines in
    let k = g.K.KeptList in
    record {
      early = λ stop_at keeps w v none came. early_given g.H.AtTurn.does k.answered k.kept k.gives stop_at keeps w v (comings_of lines) _ none (c.comings_in_order.ensures.begun lines) came;
      late = λ stop_at keeps w v none came. late_given g.H.AtTurn.does k.answered k.kept k.gives stop_at keeps w v (comings_of lines) _ none (c.comings_in_order.ensures.begun lines) came;
    }
