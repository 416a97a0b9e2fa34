use Rattle.event_base.proofs.Keeping.{round_related, cut_round_related, loop_related, cut_loop_related}
use Rattle.event_base.proofs.laws.related_by_each_turn.Goals as goal

pub returns : goal.returns
returns g c =
    let head = g.J.Headed.head in
    let runs = g.J.LoopJob.runs in
    let relates = g.F.WorldRelation.relates in
    record {
      round = round_related head runs relates;
      cut_round = cut_round_related head runs relates;
      whole_loop = loop_related head runs relates;
      cut_loop = cut_loop_related head runs relates;
    }
