use Rattle.std.proofs.Common.{arith}
use Rattle.id_table.proofs.Rooms.{carry_free, carry_room, carry_step}
use Rattle.id_table.proofs.refill.pour.Goals as goal

pub carry-requires-clause-free : goal.carry-requires-clause-free
carry-requires-clause-free g c =
    carry_free c.args.old.items c.loop-cell.cells c.loop-cell.old.items c.pop.new.self.items c.in-Some.cell c.requires.once c.in-Some.ensures.items
    c.loop-cell.invariant.pairs

pub carry-requires-clause-room : goal.carry-requires-clause-room
carry-requires-clause-room g c =
    carry_room c.args.old.items c.loop-cell.cells c.loop-cell.old.items c.pop.new.self.items c.in-Some.cell _
    (let size = c.loop-cell.invariant.len in let room = c.requires.room in omega arith) c.in-Some.ensures.items c.loop-cell.invariant.pairs

pub loop-cell-preserved : goal.loop-cell-preserved
loop-cell-preserved g c = record {
  len = let a = c.carry.auto.cells in let b = c.loop-cell.invariant.len in omega arith;
  probed = c.carry.ensures.probed;
  pairs = carry_step c.args.old.items c.loop-cell.cells c.carry.new.cells c.loop-cell.old.items c.pop.new.self.items c.in-Some.cell c.in-Some.ensures.items
      c.loop-cell.invariant.pairs c.carry.ensures.pairs;
}
