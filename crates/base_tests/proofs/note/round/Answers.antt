use Rattle.base_tests.proofs.note.round.Goals as goal

pub returns : goal.returns
returns g c =
    let ok = rw c.expect-round.ensures at c.loop_once.ensures.ok in
    c.rounds_keep_the_base.ensures.round c.args.ticks c.args.world.now c.args.base.now c.expect-round.result ok.0 c.loop_once.new.world c.loop_once.new.self ok.1
