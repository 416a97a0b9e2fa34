use Rattle.wheel_tests.proofs.rows.rows_of_calls_have_their_answers.Given as goal

abbrev pub ghosts-make_rows : goal.ghosts-make_rows
ghosts-make_rows a = record { name = a.blank.name; parts = a.blank.parts }
