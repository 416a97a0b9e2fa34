use Rattle.std.proofs.Common.{ℕ, ◌<◌, None, length, sym, ap, ◌∙◌, subst, arith, IsPermutation}
use Rattle.std.proofs.lemmas.List.{get_or_default}
use Rattle.id_table.specs.Cells.{id_at, pairs_of}
use Rattle.id_table.specs.Probed.{IsShifting}
use Rattle.id_table.specs.Ring.{next, distance}
use Rattle.id_table.proofs.Orders.{moved_pairs}
use Rattle.id_table.proofs.Probing.{home_in, home_read, moved_is, shifting_stays, shifting_moves}
use Rattle.id_table.proofs.shift.shift.Goals as goal

pub steps_from-own-requires-clause-from : goal.steps_from-own-requires-clause-from
steps_from-own-requires-clause-from g c =
    let home = home_read c.args.bits c.home-from.result c.args.id c.args.cells.now c.args.cell c.home-from.ensures c.requires.id in
    subst (λ (h : ℕ). h < length c.args.cells.now) (sym home)
    (home_in c.args.bits c.args.cells.now (id_at c.args.cells.now c.args.cell) c.requires.sized)

pub returns-then-own-gap-clause-shifting : goal.returns-then-own-gap-clause-shifting
returns-then-own-gap-clause-shifting g c = λ end s.
    let home = home_read c.args.bits c.home-from.result c.args.id c.args.cells.now c.args.cell c.home-from.ensures c.requires.id in
    let own = c.steps_from-own.ensures ∙ ap (λ (h : ℕ). distance (length c.args.cells.now) h c.args.cell) home in
    let gap = c.steps_from-gap.ensures in
    shifting_stays c.args.bits c.args.cells.now c.args.hole c.args.cell end s c.requires.apart c.requires.filled
    (omega (arith, own, gap, c.if-own-gap.true))

pub returns-clause-pairs : goal.returns-clause-pairs
returns-clause-pairs g c =
    let read = get_or_default c.args.cells.now c.args.cell c.index-cells-cell.result None c.requires.cell in
    let e = moved_is c.args.cells.now c.put.new.cells c.args.hole c.args.cell c.take-moved.result c.take-moved.new.self (c.take-moved.ensures.value ∙ read) c.take-moved.ensures.after c.put.ensures in
    subst (λ xs. IsPermutation (pairs_of xs) (pairs_of c.args.cells.now)) (sym e)
    (moved_pairs c.args.cells.now c.args.hole c.args.cell c.requires.hole c.requires.cell c.requires.apart c.requires.empty)

pub returns-clause-shifting : goal.returns-clause-shifting
returns-clause-shifting g c = λ end s.
    let home = home_read c.args.bits c.home-from.result c.args.id c.args.cells.now c.args.cell c.home-from.ensures c.requires.id in
    let own = c.steps_from-own.ensures ∙ ap (λ (h : ℕ). distance (length c.args.cells.now) h c.args.cell) home in
    let gap = c.steps_from-gap.ensures in
    let read = get_or_default c.args.cells.now c.args.cell c.index-cells-cell.result None c.requires.cell in
    let e = moved_is c.args.cells.now c.put.new.cells c.args.hole c.args.cell c.take-moved.result c.take-moved.new.self (c.take-moved.ensures.value ∙ read) c.take-moved.ensures.after c.put.ensures in
    subst (λ xs. IsShifting c.args.bits xs c.args.cell (next (length c.args.cells.now) c.args.cell) end) (sym e)
    (shifting_moves c.args.bits c.args.cells.now c.args.hole c.args.cell end s c.requires.apart c.requires.filled (omega (arith, own, gap, c.if-own-gap.false)))
