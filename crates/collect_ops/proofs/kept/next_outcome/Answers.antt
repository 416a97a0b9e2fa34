use Rattle.std.proofs.Common.{◌+◌, ◌<◌, List, ◌++◌, sym, ap, ◌∙◌, Option, arith}
use Rattle.std.specs.Prelude.{option_to_list}
use Rattle.std.specs.Slots.{slots_items}
use lib.ListN.{get_elem?}
use Rattle.collect_ops.specs.Rule.{Held}
use Rattle.collect_ops.specs.Closing.{kept_from}
use Rattle.collect_ops.proofs.Closing.{next_slot, rests_next}
use Rattle.collect_ops.proofs.kept.next_outcome.Goals as goal

pub returns-in-Some-clause-outcome : goal.returns-in-Some-clause-outcome
returns-in-Some-clause-outcome g c =
    let lt : c.loop-at.at < c.args.size = omega (arith, c.loop-at-test.true) in
    let value = ap (λ (l : List (Held g.row.X.Denot g.row.E.Denot)). get_elem? l c.loop-at.at) (sym c.loop-at.invariant.same.items) ∙ c.take-item.ensures.value in
    let held = sym c.outcome_of.ensures ∙ c.in-Some.is in
    c.loop-at.invariant.passed ∙ (next_slot _ _ _ _ lt value ∙ ap (λ (o : Option g.row.X.Denot). option_to_list o ++ kept_from (c.loop-at.at + 1) c.args.size (slots_items c.args.slots.now.slots)) held)

pub loop-at-preserved : goal.loop-at-preserved
loop-at-preserved g c =
    let lt : c.loop-at.at < c.args.size = omega (arith, c.loop-at-test.true) in
    let others = c.take-item.ensures.others in
    let value = ap (λ (l : List (Held g.row.X.Denot g.row.E.Denot)). get_elem? l c.loop-at.at) (sym c.loop-at.invariant.same.items) ∙ c.take-item.ensures.value in
    let held = sym c.outcome_of.ensures ∙ c.in-None.is in
    record {
      rests = rests_next _ _ _ _ c.loop-at.invariant.rests lt others.1 others.2;
      same = record { items = others.0 ∙ c.loop-at.invariant.same.items; words = others.3 ∙ c.loop-at.invariant.same.words };
      passed = c.loop-at.invariant.passed ∙ (next_slot _ _ _ _ lt value ∙ ap (λ (o : Option g.row.X.Denot). option_to_list o ++ kept_from (c.loop-at.at + 1) c.args.size (slots_items c.args.slots.now.slots)) held);
    }
