use Rattle.event_base.proofs.phases.run_ticks.Given as goal

abbrev pub ghosts-run_fresh_ticks : goal.ghosts-run_fresh_ticks
ghosts-run_fresh_ticks g a = record { name = a.blank.name; parts = a.blank.parts }
