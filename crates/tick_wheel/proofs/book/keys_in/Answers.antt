use Rattle.std.proofs.Common.{◌*◌, ◌∙◌}
use Rattle.tick_wheel.proofs.BookCalls.{keys_next}
use Rattle.tick_wheel.proofs.book.keys_in.Goals as goal

pub loop-place-preserved : goal.loop-place-preserved
loop-place-preserved g c =
    c.in_ok-note_key.ensures
    ∙ keys_next c.args.table.now (c.args.slot * 18014398509481984) c.spot_of.result c.args.ids.now c.loop-place.place c.loop-place.keys.items c.loop-place.invariant c.spot_of.ensures.spot
    c.loop-place-test.true
