use Rattle.wheel_tests.proofs.drawn.a_wheel_is_an_ordered_map.Given as goal

abbrev pub ghosts-compare_all : goal.ghosts-compare_all
ghosts-compare_all a = record { name = a.blank.name; parts = a.blank.parts }
