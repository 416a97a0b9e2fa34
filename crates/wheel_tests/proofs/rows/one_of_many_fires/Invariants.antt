use Rattle.wheel_tests.proofs.rows.one_of_many_fires.Given as goal

abbrev pub ghosts-fire_one_of_many : goal.ghosts-fire_one_of_many
ghosts-fire_one_of_many a = record { name = a.blank.name; parts = a.blank.parts }
