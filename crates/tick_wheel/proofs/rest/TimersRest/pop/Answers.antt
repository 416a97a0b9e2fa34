use Rattle.std.proofs.Common.{sym, ◌∙◌}
use Rattle.tick_wheel.proofs.Rested.{match_none, none_popped, some_popped}
use Rattle.tick_wheel.proofs.rest.TimersRest.pop.Goals as goal

pub invariant_of-self-in_err-value : goal.invariant_of-self-in_err-value
invariant_of-self-in_err-value g c = (none_popped c.self.inside.left c.self.inside.cells.items c.pop.new.self.items c.pop.result c.in_ok-cell.cell c.self.invariant c.pop.ensures.items c.in_ok-cell.was c.in_err-value.was).0

pub returns-in_err-value : goal.returns-in_err-value
returns-in_err-value g c = record {
  first =
      let k = none_popped c.self.inside.left c.self.inside.cells.items c.pop.new.self.items c.pop.result c.in_ok-cell.cell c.self.invariant c.pop.ensures.items c.in_ok-cell.was c.in_err-value.was in
      match_none c.from_residual-in_err-value.result _ _ c.from_residual-in_err-value.ensures (sym c.self.view_is ∙ k.1.0, k.1.1);
}

pub overflow_sub-self : goal.overflow_sub-self
overflow_sub-self g c = (some_popped c.self.inside.left c.self.inside.cells.items c.pop.new.self.items c.pop.result c.in_ok-cell.cell c.in_ok-value.field-0 c.self.invariant c.pop.ensures.items c.in_ok-cell.was c.in_ok-value.was).0

pub invariant_of-self-2 : goal.invariant_of-self-2
invariant_of-self-2 g c = (some_popped c.self.inside.left c.self.inside.cells.items c.pop.new.self.items c.pop.result c.in_ok-cell.cell c.in_ok-value.field-0 c.self.invariant c.pop.ensures.items c.in_ok-cell.was c.in_ok-value.was).1

pub returns : goal.returns
returns g c = record { first = sym c.self.view_is ∙ (some_popped c.self.inside.left c.self.inside.cells.items c.pop.new.self.items c.pop.result c.in_ok-cell.cell c.in_ok-value.field-0 c.self.invariant c.pop.ensures.items c.in_ok-cell.was c.in_ok-value.was).2 }
