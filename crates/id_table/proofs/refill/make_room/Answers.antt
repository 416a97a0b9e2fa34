use Rattle.id_table.proofs.Rooms.{room_new}
use Rattle.id_table.proofs.refill.make_room.Goals as goal

pub returns-clause-room : goal.returns-clause-room
returns-clause-room g c =
    room_new c.args.bits.now c.args.len c.more_bits-more.result c.args.cells.now.items c.grow.new.cells.items c.requires c.in_ok-grow.ensures.probed
    c.in_ok-grow.ensures.pairs c.more_bits-more.ensures.room
