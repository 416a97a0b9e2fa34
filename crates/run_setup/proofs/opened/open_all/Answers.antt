use Rattle.run_setup.proofs.opened.open_all.Goals as goal

pub give_up-requires : goal.give_up-requires
give_up-requires g c = (1, c.args.bases, c.in_ok-gathering.ensures)

pub give_up-requires-in-Err : goal.give_up-requires-in-Err
give_up-requires-in-Err g c = (1, c.args.bases, c.in_ok-gathering.ensures)
