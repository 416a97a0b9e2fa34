use Rattle.alive_tests.proofs.tokens.spend.Given as goal

abbrev pub decreases-loop-guard : goal.decreases-loop-guard
decreases-loop-guard l = l.guard.0.room
