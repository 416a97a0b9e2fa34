use Rattle.wheel_tests.proofs.rows.tickets_come_back.Given as goal

abbrev pub ghosts-fire_tickets : goal.ghosts-fire_tickets
ghosts-fire_tickets g a = record { name = a.blank.name; parts = a.blank.parts }
