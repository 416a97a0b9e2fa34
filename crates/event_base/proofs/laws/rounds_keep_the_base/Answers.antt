use Rattle.event_base.proofs.SameBase.{round_keeps, cut_round_keeps, not_begun_keeps, loop_keeps, cut_loop_keeps}
use Rattle.event_base.proofs.laws.rounds_keep_the_base.Goals as goal

pub returns : goal.returns
returns g c =
    let head = g.J.Headed.head in
    let runs = g.J.LoopJob.runs in
    record {
      round = round_keeps head runs;
      cut_round = cut_round_keeps head runs;
      not_begun = λ ticks w old fault v new h. not_begun_keeps ticks w old fault v new h;
      whole_loop = loop_keeps head runs;
      cut_loop = cut_loop_keeps head runs;
    }
