use Rattle.std.proofs.Common.{ℕ, ◌<◌, length, sym, ◌∙◌, subst, arith, None}
use Rattle.std.proofs.lemmas.List.{get_or_read}
use Rattle.id_table.proofs.Steps.{next_below}
use Rattle.id_table.proofs.Probing.{home_in, mark_some, id_some, mark_none, AreOthers, others_first, others_next, look_ends, look_nearer}
use Rattle.id_table.proofs.probe.look.Goals as goal

pub loop-cell-init : goal.loop-cell-init
loop-cell-init g c = record {
  within = subst (λ (h : ℕ). h < length c.args.cells.now) (sym c.home-cell.ensures) (home_in c.args.bits c.args.cells.now c.args.id c.requires.probed.sized);
  passed = others_first c.args.bits c.args.cells.now c.args.id c.home-cell.result c.requires.probed.sized c.home-cell.ensures;
}

pub loop-cell-smaller : goal.loop-cell-smaller
loop-cell-smaller g c =
    let read = get_or_read c.args.cells.now c.loop-cell.cell c.index-cells-cell.result c.loop-cell.invariant.within c.index-cells-cell.is None in
    let mark = mark_some c.args.cells.now c.loop-cell.cell c.index-cells-cell.result c.in-Some.other read c.in-Some.is in
    look_nearer c.args.bits c.args.cells.now c.loop-cell.cell c.after-cell.result c.requires.probed c.loop-cell.invariant.within
    (omega (arith, mark)) c.after-cell.ensures

pub loop-cell-preserved : goal.loop-cell-preserved
loop-cell-preserved g c =
    let read = get_or_read c.args.cells.now c.loop-cell.cell c.index-cells-cell.result c.loop-cell.invariant.within c.index-cells-cell.is None in
    let mark = mark_some c.args.cells.now c.loop-cell.cell c.index-cells-cell.result c.in-Some.other read c.in-Some.is in
    let id = id_some c.args.cells.now c.loop-cell.cell c.index-cells-cell.result c.in-Some.other read c.in-Some.is in
    record {
      within = subst (λ (h : ℕ). h < length c.args.cells.now) (sym c.after-cell.ensures) (next_below (length c.args.cells.now) c.loop-cell.cell c.loop-cell.invariant.within);
      passed = subst (AreOthers c.args.bits c.args.cells.now c.args.id) (sym c.after-cell.ensures)
          (others_next c.args.bits c.args.cells.now c.args.id c.loop-cell.cell c.requires.probed.sized c.loop-cell.invariant.within c.loop-cell.invariant.passed
          (omega (arith, mark)) (λ e. c.if-other-id.false (sym id ∙ e)));
    }

pub returns-then-other-id : goal.returns-then-other-id
returns-then-other-id g c =
    let read = get_or_read c.args.cells.now c.loop-cell.cell c.index-cells-cell.result c.loop-cell.invariant.within c.index-cells-cell.is None in
    let id = id_some c.args.cells.now c.loop-cell.cell c.index-cells-cell.result c.in-Some.other read c.in-Some.is in
    look_ends c.args.bits c.args.cells.now c.args.id c.loop-cell.cell c.requires.probed c.loop-cell.invariant.within c.loop-cell.invariant.passed
    (λ some. id ∙ c.if-other-id.true)

pub returns : goal.returns
returns g c =
    let read = get_or_read c.args.cells.now c.loop-cell.cell c.index-cells-cell.result c.loop-cell.invariant.within c.index-cells-cell.is None in
    let mark = mark_none c.args.cells.now c.loop-cell.cell c.index-cells-cell.result read c.in_default.not-Some in
    look_ends c.args.bits c.args.cells.now c.args.id c.loop-cell.cell c.requires.probed c.loop-cell.invariant.within c.loop-cell.invariant.passed
    (λ some. absurd (omega (arith, mark)))
