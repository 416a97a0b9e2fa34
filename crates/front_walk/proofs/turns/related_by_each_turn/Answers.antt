use Rattle.front_walk.proofs.Giving.{came_related, cut_related}
use Rattle.front_walk.proofs.turns.related_by_each_turn.Goals as goal

pub returns : goal.returns
returns g c = record {
  came = came_related g.H.AtTurn.does g.F.HookRelation.relates;
  cut = cut_related g.H.AtTurn.does g.F.HookRelation.relates;
}
