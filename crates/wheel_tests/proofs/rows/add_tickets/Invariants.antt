use Rattle.wheel_tests.proofs.rows.add_tickets.Given as goal

abbrev pub decreases-loop-number : goal.decreases-loop-number
decreases-loop-number l = goal.left-loop-number l
