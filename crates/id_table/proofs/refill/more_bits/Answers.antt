use Rattle.std.proofs.Common.{arith}
use Rattle.id_table.proofs.Rooms.{room_first, room_more}
use Rattle.id_table.proofs.refill.more_bits.Goals as goal

pub returns-then-size-eq0-clause-room : goal.returns-then-size-eq0-clause-room
returns-then-size-eq0-clause-room g c = room_first c.args.bits c.args.len c.args.cells.now c.requires (omega (arith, c.if-size-eq0.true))

pub overflow_add-result : goal.overflow_add-result
overflow_add-result g c = let within = (c.requires.probed (omega (arith, c.if-size-eq0.false))).sized.within in omega arith

pub returns-clause-room : goal.returns-clause-room
returns-clause-room g c = room_more c.args.bits c.args.len c.args.cells.now c.requires (omega (arith, c.if-size-eq0.false))
