use Rattle.std.proofs.Common.{◌≡◌, ℕ, ◌∷◌, Some, None, length, length-set, set, sym, ap, ◌∙◌, subst, arith, IsPermutation}
use Rattle.std.proofs.lemmas.List.{get_or_default}
use Rattle.id_table.specs.Cells.{first_empty, pairs_of}
use Rattle.id_table.specs.Probed.{IsShifting}
use Rattle.id_table.specs.Ring.{next}
use Rattle.id_table.proofs.Orders.{held_with, others_move, taken_pairs}
use Rattle.id_table.proofs.Probing.{mark_some, mark_none, shifting_begins, shifting_nearer, shifting_ends}
use Rattle.id_table.proofs.shift.take_out.Goals as goal

pub loop-cells-init : goal.loop-cells-init
loop-cells-init g c = record {
  len = length-set c.args.cells.now c.args.gone c.take.new.self;
  shifting =
      let first = subst (λ (x : ℕ). IsShifting c.args.bits (set c.args.cells.now c.args.gone None) c.args.gone x (first_empty c.args.cells.now)) (sym c.after-first.ensures)
      (shifting_begins c.args.bits c.args.cells.now c.args.gone c.requires.probed c.requires.within c.requires.filled) in
      subst (λ x. IsShifting c.args.bits (set c.args.cells.now c.args.gone x) c.args.gone c.after-first.result (first_empty c.args.cells.now)) (sym c.take.ensures.after) first;
  pairs =
      let was = sym (c.in-Some.ensures.value ∙ get_or_default c.args.cells.now c.args.gone c.index-cells-gone.result None c.requires.within) in
      subst (λ x. IsPermutation (pairs_of c.args.cells.now) ((c.in-Some.taken.id, c.in-Some.taken.value) ∷ pairs_of (set c.args.cells.now c.args.gone x))) (sym c.take.ensures.after)
      (taken_pairs c.args.cells.now c.args.gone c.in-Some.taken c.requires.within was);
}

pub loop-cells-smaller : goal.loop-cells-smaller
loop-cells-smaller g c =
    let inv = c.loop-cells.invariant in
    let read = get_or_default c.loop-cells.cells c.loop-cells.cell c.index-cells-cell.result None inv.shifting.at_in in
    let mark = mark_some c.loop-cells.cells c.loop-cells.cell _ c.in-Some-cells.other read c.in-Some-cells.is in
    shifting_nearer c.args.bits c.loop-cells.cells c.loop-cells.hole c.loop-cells.cell (first_empty c.args.cells.now) (length c.args.cells.now) c.after-cell.result
    inv.shifting (omega (arith, mark)) inv.len c.after-cell.ensures

pub loop-cells-preserved : goal.loop-cells-preserved
loop-cells-preserved g c =
    let inv = c.loop-cells.invariant in
    let e : next (length c.loop-cells.cells) c.loop-cells.cell ≡ c.after-cell.result
    = ap (λ (n : ℕ). next n c.loop-cells.cell) inv.len ∙ sym c.after-cell.ensures in
    record {
      len = c.shift-hole.ensures.len ∙ inv.len;
      shifting = subst (λ (x : ℕ). IsShifting c.args.bits c.shift-hole.new.cells c.shift-hole.result x (first_empty c.args.cells.now)) e
          (c.shift-hole.ensures.shifting (first_empty c.args.cells.now) inv.shifting);
      pairs = others_move (pairs_of c.args.cells.now) (c.in-Some.taken.id, c.in-Some.taken.value) c.loop-cells.cells c.shift-hole.new.cells inv.pairs c.shift-hole.ensures.pairs;
    }

pub returns-clause-probed : goal.returns-clause-probed
returns-clause-probed g c =
    let inv = c.loop-cells.invariant in
    let read = get_or_default c.loop-cells.cells c.loop-cells.cell c.index-cells-cell.result None inv.shifting.at_in in
    let mark = mark_none c.loop-cells.cells c.loop-cells.cell _ read c.in_default-cells.not-Some in
    shifting_ends c.args.bits c.args.cells.now c.loop-cells.cells c.loop-cells.hole c.loop-cells.cell (first_empty c.args.cells.now)
    c.requires.probed inv.len inv.shifting mark
    (λ test. let parts = held_with test c.args.cells.now c.loop-cells.cells (Some c.in-Some.taken) inv.pairs in omega arith)
