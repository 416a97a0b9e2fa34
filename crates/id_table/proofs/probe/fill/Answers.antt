use Rattle.std.proofs.Common.{◌∷◌, Some, None, get_or, sym, subst, arith, IsPermutation}
use Rattle.id_table.specs.Cells.{pairs_of}
use Rattle.id_table.specs.Probed.{IsProbed}
use Rattle.id_table.proofs.Counts.{is_empty}
use Rattle.id_table.proofs.Orders.{filled_pairs}
use Rattle.id_table.proofs.Probing.{look_free, filled_probed}
use Rattle.id_table.proofs.probe.fill.Goals as goal

pub put-requires-clause-within : goal.put-requires-clause-within
put-requires-clause-within g c = c.look-cell.ensures.within

pub put-requires-clause-empty : goal.put-requires-clause-empty
put-requires-clause-empty g c =
    is_empty (get_or c.args.cells.now c.look-cell.result None)
    (look_free c.args.bits c.args.cells.now c.args.new.id c.look-cell.result c.look-cell.ensures c.requires.free)

pub returns-clause-probed : goal.returns-clause-probed
returns-clause-probed g c =
    let empty = look_free c.args.bits c.args.cells.now c.args.new.id c.look-cell.result c.look-cell.ensures c.requires.free in
    subst (IsProbed c.args.bits) (sym c.put.ensures)
    (filled_probed c.args.bits c.args.cells.now c.look-cell.result (Some c.args.new) c.requires.probed c.look-cell.ensures (omega arith) c.requires.free empty c.requires.room)

pub returns-clause-pairs : goal.returns-clause-pairs
returns-clause-pairs g c =
    let empty = look_free c.args.bits c.args.cells.now c.args.new.id c.look-cell.result c.look-cell.ensures c.requires.free in
    subst (λ xs. IsPermutation (pairs_of xs) ((c.args.new.id, c.args.new.value) ∷ pairs_of c.args.cells.now)) (sym c.put.ensures)
    (filled_pairs c.args.cells.now c.look-cell.result (Some c.args.new) c.look-cell.ensures.within empty)
