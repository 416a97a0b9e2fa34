use Rattle.std.proofs.Common.{ap, sym, ◌∙◌}
use Rattle.core_cells.specs.declared.view.View.{View}
use Rattle.core_cells.proofs.Free.{fills_key, learns, one_stands, never_full, few_keys}
use Rattle.core_cells.proofs.cells.fill.Goals as goal

pub push_as-requires-clause-queue : goal.push_as-requires-clause-queue
push_as-requires-clause-queue g c = c.loop-home.invariant.0

pub push_as-requires-clause-rule : goal.push_as-requires-clause-rule
push_as-requires-clause-rule g c =
    let known = c.loop-home.invariant.1 in
    let made = ap (λ (v : View). v.made) known in
    let held = ap (λ (v : View). v.held) known in
    (fills_key _ _ _ _ made held, learns _ _ (one_stands _ held))

pub unreachable-requires-in_default-push_as : goal.unreachable-requires-in_default-push_as
unreachable-requires-in_default-push_as g c =
    let known = c.loop-home.invariant.1 in
    never_full _ _ (ap (λ (v : View). v.made) known ∙ sym (ap (λ (v : View). v.held) known)) (ap (λ (v : View). v.took) known)
    (few_keys _ _ _ _ (ap (λ (v : View). v.put) known) c.loop-home-test.true c.requires.room) c.in_default-push_as.ensures.rule.2
