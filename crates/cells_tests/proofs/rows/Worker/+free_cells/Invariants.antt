use Rattle.cells_tests.proofs.rows.Worker.+free_cells.Given as goal

abbrev pub decreases-free_cells : goal.decreases-free_cells
decreases-free_cells g l = l.most
