use Rattle.fanout.proofs.inside.run_over_cells.Goals as goal

pub returns-in-Err : goal.returns-in-Err
returns-in-Err g c = c.refused.ensures _ _
