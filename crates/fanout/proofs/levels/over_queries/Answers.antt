use Rattle.std.proofs.Common.{sym, subst}
use Rattle.fan_base.specs.Outside.{shown}
use Rattle.run_ending.specs.declared.end.FanEnd.{FanEnd}
use Rattle.run_ending.specs.Ends.{IsEndOf}
use Rattle.fanout.proofs.levels.over_queries.Goals.{in-Ok-make_cells, in-Err-make_cells}
use Rattle.fanout.proofs.levels.over_queries.Goals as goal

pub returns-after-make_cells : goal.returns-after-make_cells
returns-after-make_cells g c =
    let asked = g.N.RunName.asked in
    let start = shown (g.K.Sink.holds c.args.sink.now) (g.K.Sink.faults c.args.sink.now) in
    let match = c.match-make_cells in
    elim match.branch [
      | in-Ok-make_cells w ↦ subst (λ (e : FanEnd). IsEndOf asked start (shown (g.K.Sink.holds match.sink) (g.K.Sink.faults match.sink)) e) (sym w.end-is)
          (subst (λ (k : g.row.K.Denot). IsEndOf asked start (shown (g.K.Sink.holds k) (g.K.Sink.faults k)) w.over_cells-end.result) (sym w.sink-is) w.over_cells-end.ensures)
      | in-Err-make_cells w ↦ subst (λ (e : FanEnd). IsEndOf asked start (shown (g.K.Sink.holds match.sink) (g.K.Sink.faults match.sink)) e) (sym w.end-is)
          (subst (λ (k : g.row.K.Denot). IsEndOf asked start (shown (g.K.Sink.holds k) (g.K.Sink.faults k)) w.refused-end.result) (sym w.sink-is) (w.refused-end.ensures asked start))
    ]

pub returns-in-Err : goal.returns-in-Err
returns-in-Err g c = c.refused.ensures _ _
