use Rattle.id_tests.proofs.spent.worth_of.Given as goal

abbrev pub decreases-loop-cell : goal.decreases-loop-cell
decreases-loop-cell l = goal.left-loop-cell l
